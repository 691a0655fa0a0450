-- Two points at the same place, with the values of the same expressions, give each element the same values.
use Rattle.std.proofs.Common.{◌≡◌, ℕ, ℤ, subst, List, get_or, arith}
use Rattle.std.proofs.lemmas.List.{length-map}
use Rattle.sg_algebra.proofs.Value.{Value}
use Rattle.sg_spec.specs.Tree.{Tree, here}
use Rattle.sg_tower_theory.proofs.Formal.{Formal, Element, repaired}
use Rattle.sg_value_theory.proofs.Elements.{Point, HasElement}
use Rattle.sg_value_theory.proofs.TreePoints.{AreValues, IsPointOf}
use Rattle.sg_value_theory.proofs.TowerOf.{IsTowerOf, at_places}
use Rattle.sg_value_theory.proofs.Evaluations.{same-at}
use Rattle.sg_value_theory.proofs.Lists.{values-unique}

module _ {d : ℕ} (letter : Value d) (s : ℤ) (ps ss : List Tree) (f : Formal d) (places : List ℕ) (known : List (Element f)) (is : IsTowerOf letter s ps ss f places known) where
  pub alike : (p q : Point d) → p.variable ≡ q.variable → IsPointOf letter ps (at_places ss places) p → IsPointOf letter ps (at_places ss places) q → (x : Element f) (v : Value d) → HasElement f p x v → HasElement f q x v
  alike p q e i j =
      same-at f p q e
      (λ n l. let z = is.adjoined in let m = length-map f.products (repaired {d = d}) in values-unique letter q.variable ps p.products q.products (subst (λ (k : ℤ). AreValues letter k ps p.products) e i.0) j.0 n (omega (arith, l, z, m)))
      (λ n l. let z = is.size in let m = length-map places (λ i. get_or ss i here) in values-unique letter q.variable (at_places ss places) p.sums q.sums (subst (λ (k : ℤ). AreValues letter k (at_places ss places) p.sums) e i.1) j.1 n (omega (arith, l, z, m)))
