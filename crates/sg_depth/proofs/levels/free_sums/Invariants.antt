use Rattle.std.proofs.Common.{◌≡◌, map, take}
use Rattle.sg_expr.specs.Tree.{tree_of}
use Rattle.sg_value_theory.proofs.TowerOf.{at_places}
use Rattle.sg_depth.specs.Commands.{sums_of}
use Rattle.sg_depth.proofs.levels.free_sums.Given as goal

abbrev pub invariant-loop-i : goal.invariant-loop-i
invariant-loop-i g l = map tree_of l.frees ≡ at_places (sums_of l.built.facts.now) (take l.i l.built.free_gens)
