use Rattle.std.proofs.Common.{◌≡◌, [], ◌∷◌, length, map, drop, nat_le}
use Rattle.sg_spec.specs.Generators.{prods}
use Rattle.sg_spec.specs.Limits.{all_keep}
use Rattle.sg_expr.specs.Tree.{tree_of}
use Rattle.sg_limits.proofs.lists.each_keeps_products.Given as goal

abbrev pub invariant-loop-e : goal.invariant-loop-e
invariant-loop-e l = all_keep (λ t. nat_le (length (prods (t ∷ []))) 4) (map tree_of (drop l.e-index l.items)) ≡ all_keep (λ t. nat_le (length (prods (t ∷ []))) 4) (map tree_of l.items)
