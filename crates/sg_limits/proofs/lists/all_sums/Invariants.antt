use Rattle.std.proofs.Common.{◌≡◌, map, drop}
use Rattle.sg_spec.specs.Generators.{with_new, concatenated, sums, all_sums}
use Rattle.sg_expr.specs.Tree.{tree_of}
use Rattle.sg_limits.proofs.lists.all_sums.Given as goal

abbrev pub invariant-loop-e : goal.invariant-loop-e
invariant-loop-e l = with_new (map tree_of l.list) (concatenated all_sums (map tree_of (drop l.e-index l.items))) ≡ sums (map tree_of l.items)
