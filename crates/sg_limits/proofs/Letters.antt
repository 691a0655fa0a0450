-- The letter of a field of rational functions tells polynomials from 0.
--   variable_letter d        the variable of the rational functions over the values of depth d
--   variable_separates       a polynomial with whole coefficients is 0 at it only where all of these are
use Rattle.std.proofs.Common.{◌≡◌, ℕ, suc, sym, ap, ap₂, ◌∙◌, [], ◌∷◌, map, ℤ}
use Rattle.sg_algebra.specs.Coefficients.{coef, eval}
use Rattle.sg_algebra.proofs.Whole.{ℤR}
use Rattle.sg_algebra.proofs.PolynomialRing.{PolyR, X, cons-is}
use Rattle.sg_algebra.proofs.Value.{Value, ◌+ᵛ◌, ◌*ᵛ◌, zero_value}
use Rattle.sg_algebra.proofs.ValueField.{ValueR}
use Rattle.sg_algebra.proofs.Rational.{whole_value}
use Rattle.sg_algebra.proofs.Embedding.{polynomial_value, polynomial_value_cong, polynomial_value-add, polynomial_value-mul, polynomial_value-zero, polynomial_value_same, constant_value-whole, whole_value_zero}
use Rattle.sg_spec.specs.Parts.{Plane}
use Rattle.sg_parts.specs.Planes.{VanishesAt}
use Rattle.sg_limits.proofs.Spared.{at_letter, SeparatesAt}

module _ (d : ℕ) where
  abbrev pub variable_letter : Value (suc d)
  variable_letter = polynomial_value d (X (ValueR d))

  as_polynomial : (k : ℤ) (p : Plane) → at_letter variable_letter k p ≡ polynomial_value d (map (λ row. whole_value d (eval ℤR row k)) p)
  as_polynomial k [] = sym (polynomial_value-zero d)
  as_polynomial k (row ∷ p) =
      let c = whole_value d (eval ℤR row k) in
      let q = map (λ row. whole_value d (eval ℤR row k)) p in
      ap₂ ◌+ᵛ◌ (sym (constant_value-whole d (eval ℤR row k))) (ap (λ w. variable_letter *ᵛ w) (as_polynomial k p) ∙ sym (polynomial_value-mul d (X (ValueR d)) q))
      ∙ sym (polynomial_value-add d (c ∷ []) ((PolyR (ValueR d)).◌⊠◌ (X (ValueR d)) q))
      ∙ sym (polynomial_value_cong d (c ∷ q) ((PolyR (ValueR d)).◌⊞◌ (c ∷ []) ((PolyR (ValueR d)).◌⊠◌ (X (ValueR d)) q)) (cons-is (ValueR d) c q))

  rows_zero : (k : ℤ) (p : Plane) → ((i : ℕ) → coef (ValueR d) (map (λ row. whole_value d (eval ℤR row k)) p) i ≡ zero_value) → VanishesAt p k
  rows_zero k [] h = tt
  rows_zero k (row ∷ p) h = (whole_value_zero d (eval ℤR row k) (h 0), rows_zero k p (λ i. h (suc i)))

  pub variable_separates : (p : Plane) → SeparatesAt variable_letter p
  variable_separates p k z =
      rows_zero k p (λ i. (polynomial_value_same d (map (λ row. whole_value d (eval ℤR row k)) p) [] (sym (as_polynomial k p) ∙ z ∙ sym (polynomial_value-zero d))).image.at i)
