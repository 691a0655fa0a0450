use Rattle.std.proofs.Common.{◌≡◌, map, take}
use Rattle.sg_expr.specs.Tree.{tree_of}
use Rattle.sg_build.proofs.expressing.reversed.Given as goal

abbrev pub invariant-loop-t : goal.invariant-loop-t
invariant-loop-t l = map tree_of l.row ≡ map tree_of (take l.t-index l.list)
