-- What is found in coefficients is what is meant in values.
--   vanishes_is, zero_is               the value of a polynomial is 0 at k for every parameter exactly where all its coefficients in the parameter are
--   zero_part, none_below, nowhere_is  so it is with a part, whose least zero is the least number at which the coefficients vanish
use Rattle.std.proofs.Common.{◌≡◌, refl, sym, ap, subst, ◌∙◌, ℤ, pos, ◌≤ℤ◌, ◌<ℤ◌, Some, [], ◌∷◌}
use Rattle.sg_algebra.proofs.Whole.{ℤR, readsℤ}
use Rattle.sg_algebra.proofs.Solver.{by}
use Rattle.sg_spec.specs.Fraction.{whole}
use Rattle.sg_spec.specs.Tree.{Tree}
use Rattle.sg_spec.specs.Value.{val, SameValue}
use Rattle.sg_spec.specs.Parts.{Part, numer, coefficients, IsZeroAt}
use Rattle.sg_parts.specs.Planes.{VanishesAt}
use Rattle.sg_parts.proofs.PlaneValues.{IsPolynomialTree, plane_value, value_of_tree}
use Rattle.sg_parts.proofs.Bounds.{zero_always, vanishes_always}

whole_zero : (z : ℤ) → SameValue (Some (whole z)) (Some (whole (pos 0))) → z ≡ pos 0
whole_zero z e = by ℤR (z ∷ []) e (search readsℤ depth 20) refl

pub vanishes_is : (t : Tree) (k : ℤ) → IsPolynomialTree t → ((n : ℤ) → SameValue (val t n k) (Some (whole (pos 0)))) → VanishesAt (coefficients t) k
vanishes_is t k h z = vanishes_always (coefficients t) k (λ n. whole_zero (plane_value (coefficients t) n k) (subst (λ v. SameValue v (Some (whole (pos 0)))) (value_of_tree n k t h) (z n)))

pub zero_is : (t : Tree) (k n : ℤ) → IsPolynomialTree t → VanishesAt (coefficients t) k → SameValue (val t n k) (Some (whole (pos 0)))
zero_is t k n h z = subst (λ v. SameValue v (Some (whole (pos 0)))) (sym (value_of_tree n k t h ∙ ap (λ z. Some (whole z)) (zero_always (coefficients t) k n z))) refl

module _ (p : Part) (h : IsPolynomialTree (numer p.tree)) where
  pub zero_part : (k : ℤ) → p.limit ≤ℤ k → VanishesAt (coefficients (numer p.tree)) k → IsZeroAt p k
  zero_part k le z = (le, λ n. zero_is (numer p.tree) k n h z)

  pub none_below : (k : ℤ) → ((j : ℤ) → p.limit ≤ℤ j → j <ℤ k → VanishesAt (coefficients (numer p.tree)) j → ⊥) → (j : ℤ) → j <ℤ k → IsZeroAt p j → ⊥
  none_below k least j lt at = least j at.0 lt (vanishes_is (numer p.tree) j h at.1)

  pub nowhere_is : ((m : ℤ) → p.limit ≤ℤ m → VanishesAt (coefficients (numer p.tree)) m → ⊥) → (k : ℤ) → IsZeroAt p k → ⊥
  nowhere_is none k at = none k at.0 (vanishes_is (numer p.tree) k h at.1)
