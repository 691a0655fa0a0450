-- A polynomial at k + m, by Horner's rule at the polynomial k + m.
--   raised_built       a row that is a + (k + m) r
--   moved-cons         one coefficient more
--   whole_rational     a whole number as a fraction
use Rattle.std.proofs.Common.{◌≡◌, ℕ, suc, ◌≤◌, refl, sym, ◌∙◌, ap, List, [], ◌∷◌, map, length, ℤ, arith}
use Rattle.sg_algebra.specs.Coefficients.{zip_longest, poly_mul}
use Rattle.sg_algebra.proofs.Ring.{nat}
use Rattle.sg_algebra.proofs.Solver.{ring, by, scale, reads}
use Rattle.sg_algebra.proofs.PolynomialRing.{coef-zip, coef-scale}
use Rattle.sg_algebra.proofs.Shift.{moved}
use Rattle.sg_algebra.proofs.Value.{Value, zero_value, one_value, ◌+ᵛ◌, ◌*ᵛ◌}
use Rattle.sg_algebra.proofs.ValueField.{ValueR, value_quotient, value_one_ne}
use Rattle.sg_algebra.proofs.Rational.{whole_value, rational_value}
use Rattle.sg_algebra.proofs.Polynomial.{Polynomial, PolynomialR, poly, poly_same, poly-add, poly-mul, constant, coefficient, one_polynomial, ◌+ᵖ◌, ◌*ᵖ◌}
use Rattle.sg_algebra.proofs.Rows.{Builds, builds_all, past_row, at_past}
use Rattle.sg_algebra.proofs.Lists.{length_map}
use Rattle.sg_poly.proofs.Joined.{variable, poly-cons}

raised : {d : ℕ} (s ar c m x r n b : Polynomial d) → s ≡ ar +ᵖ m *ᵖ r → ar ≡ c +ᵖ x *ᵖ r → b ≡ m +ᵖ x *ᵖ one_polynomial → s ≡ c +ᵖ b *ᵖ r
raised {d} s ar c m x r n b e f g = by (PolynomialR d) (s ∷ ar ∷ c ∷ m ∷ x ∷ r ∷ b ∷ []) ((PolynomialR d).add_cong e ((PolynomialR d).add_cong f ((PolynomialR d).neg_cong (scale (PolynomialR d) r g)))) (search reads depth 20 fits 4000) refl

none : {d : ℕ} (a m b : Value d) → a ≡ zero_value → b ≡ zero_value → a +ᵛ m *ᵛ b ≡ zero_value
none {d} a m b e h = by (ValueR d) (a ∷ m ∷ b ∷ []) ((ValueR d).add_cong e (scale (ValueR d) m h)) (search reads depth 16) refl

module _ {K : Type 0} {d : ℕ} (v : K → Value d) where
  pub raised_built : (a m : Value d) (r xs : List K) (n : ℕ) → Builds v (λ k. coefficient (a ∷ map v r) k +ᵛ m *ᵛ coefficient (map v r) k) n xs → n ≡ suc (length r) → poly (map v xs) ≡ constant a +ᵖ poly (m ∷ one_value ∷ []) *ᵖ poly (map v r)
  raised_built a m r xs n b e =
      raised (poly (map v xs)) (poly (a ∷ map v r)) (constant a) (constant m) variable (poly (map v r)) variable (poly (m ∷ one_value ∷ []))
      (poly_same (map v xs) (zip_longest ◌+ᵛ◌ (a ∷ map v r) (poly_mul (ValueR d) (m ∷ []) (map v r)))
      (λ k. builds_all v (λ k. coefficient (a ∷ map v r) k +ᵛ m *ᵛ coefficient (map v r) k) n xs b past k
      ∙ sym (coef-zip (ValueR d) (a ∷ map v r) (poly_mul (ValueR d) (m ∷ []) (map v r)) k ∙ ap (◌+ᵛ◌ (coefficient (a ∷ map v r) k)) (coef-scale (ValueR d) m (map v r) k)))
      ∙ poly-add (a ∷ map v r) (poly_mul (ValueR d) (m ∷ []) (map v r)) ∙ ap (◌+ᵖ◌ (poly (a ∷ map v r))) (poly-mul (m ∷ []) (map v r)))
      (poly-cons a (map v r)) (poly-cons m (one_value ∷ []))
    where
      past : (k : ℕ) → n ≤ k → coefficient (a ∷ map v r) k +ᵛ m *ᵛ coefficient (map v r) k ≡ zero_value
      past k h = none (coefficient (a ∷ map v r) k) m (coefficient (map v r) k) (at_past (a ∷ map v r) k (omega (arith, length_map v r))) (past_row v r k (omega arith))

  pub last_target : (a m : Value d) (r : List K) (x : Value d) → x ≡ coefficient (a ∷ map v r) (length r) → x ≡ coefficient (a ∷ map v r) (length r) +ᵛ m *ᵛ coefficient (map v r) (length r)
  last_target a m r x e = e ∙ sym (ap (λ z. coefficient (a ∷ map v r) (length r) +ᵛ m *ᵛ z) (past_row v r (length r) (omega arith)) ∙ ring (ValueR d) (coefficient (a ∷ map v r) (length r) ∷ m ∷ []) (search reads depth 12) refl)

module _ {d : ℕ} where
  pub moved-cons : (β a : Value d) (p : List (Value d)) → poly (moved (ValueR d) β (a ∷ p)) ≡ constant a +ᵖ poly (β ∷ one_value ∷ []) *ᵖ poly (moved (ValueR d) β p)
  moved-cons β a p = poly-add (a ∷ []) (poly_mul (ValueR d) (β ∷ one_value ∷ []) (moved (ValueR d) β p)) ∙ ap (◌+ᵖ◌ (constant a)) (poly-mul (β ∷ one_value ∷ []) (moved (ValueR d) β p))

  unit : nat (ValueR d) 1 ≡ one_value
  unit = ring (ValueR d) [] (search reads depth 12) refl

  pub whole_rational : (n : ℤ) → rational_value d n 1 ≡ whole_value d n
  whole_rational n = sym (value_quotient (whole_value d n) (nat (ValueR d) 1) (whole_value d n) (λ z. value_one_ne d (sym unit ∙ z)) (ap (◌*ᵛ◌ (whole_value d n)) unit ∙ ring (ValueR d) (whole_value d n ∷ []) (search reads depth 12) refl))
