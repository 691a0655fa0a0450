-- A polynomial from its first coefficient and the rest.
--   variable        the polynomial X
--   poly-cons       a ∷ p is a + X p
--   poly-less       a multiple by a constant, taken away
use Rattle.std.proofs.Common.{◌≡◌, ℕ, ◌∙◌, ap, List, [], ◌∷◌, map}
use Rattle.sg_algebra.specs.Coefficients.{zip_longest, poly_mul}
use Rattle.sg_algebra.proofs.PolynomialRing.{X, cons-is, coef-zip, coef-each, coef-scale}
use Rattle.sg_algebra.proofs.Ring.{neg_O}
use Rattle.sg_algebra.proofs.Value.{Value, ◌+ᵛ◌, ◌-ᵛ◌, ◌*ᵛ◌, neg_value}
use Rattle.sg_algebra.proofs.ValueField.{ValueR}
use Rattle.sg_algebra.proofs.Polynomial.{Polynomial, poly, poly_cong, poly-add, poly-mul, poly-neg, constant, coefficient, neg_polynomial, ◌+ᵖ◌, ◌-ᵖ◌, ◌*ᵖ◌}

module _ {d : ℕ} where
  abbrev pub variable : Polynomial d
  variable = poly (X (ValueR d))

  pub poly-cons : (a : Value d) (p : List (Value d)) → poly (a ∷ p) ≡ constant a +ᵖ variable *ᵖ poly p
  poly-cons a p = poly_cong (cons-is (ValueR d) a p) ∙ poly-add (a ∷ []) (poly_mul (ValueR d) (X (ValueR d)) p) ∙ ap (◌+ᵖ◌ (constant a)) (poly-mul (X (ValueR d)) p)

  -- s - t w, as a list
  abbrev pub less : List (Value d) → Value d → List (Value d) → List (Value d)
  less s t w = zip_longest ◌+ᵛ◌ s (map neg_value (poly_mul (ValueR d) (t ∷ []) w))

  pub poly-less : (s : List (Value d)) (t : Value d) (w : List (Value d)) → poly (less s t w) ≡ poly s -ᵖ constant t *ᵖ poly w
  poly-less s t w = poly-add s (map neg_value (poly_mul (ValueR d) (t ∷ []) w)) ∙ ap (◌+ᵖ◌ (poly s)) (poly-neg (poly_mul (ValueR d) (t ∷ []) w) ∙ ap neg_polynomial (poly-mul (t ∷ []) w))

  pub less-at : (s : List (Value d)) (t : Value d) (w : List (Value d)) (k : ℕ) → coefficient (less s t w) k ≡ coefficient s k -ᵛ t *ᵛ coefficient w k
  less-at s t w k =
      coef-zip (ValueR d) s (map neg_value (poly_mul (ValueR d) (t ∷ []) w)) k
      ∙ ap (◌+ᵛ◌ (coefficient s k)) (coef-each (ValueR d) neg_value (neg_O (ValueR d)) (poly_mul (ValueR d) (t ∷ []) w) k ∙ ap neg_value (coef-scale (ValueR d) t w k))
