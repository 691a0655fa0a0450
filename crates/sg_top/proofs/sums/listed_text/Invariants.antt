use Rattle.std.proofs.Common.{◌≡◌, map, take}
use Rattle.sg_expr.specs.Tree.{tree_of}
use Rattle.sg_top.specs.Lines.{listed}
use Rattle.sg_top.proofs.sums.listed_text.Given as goal

abbrev pub invariant-loop-g : goal.invariant-loop-g
invariant-loop-g l = l.text.items ≡ listed (map tree_of (take l.g-index l.gens))
