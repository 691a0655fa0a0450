use Rattle.std.proofs.Common.{◌≡◌, ◌+◌, map, drop}
use Rattle.sg_spec.specs.Limits.{first_from, first_not, keeps_degrees}
use Rattle.sg_expr.specs.Tree.{tree_of}
use Rattle.sg_limits.proofs.inspection.first_steep.Given as goal

abbrev pub invariant-loop-e : goal.invariant-loop-e
invariant-loop-e l = (l.item ≡ l.e-index + 1) × (first_from l.item keeps_degrees (map tree_of (drop l.e-index l.items)) ≡ first_not keeps_degrees (map tree_of l.items))
