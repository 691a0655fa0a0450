-- Polynomials y with a y(k+1) - y = 0, for a constant a, and numerators of small degree.
--   kernel_one            a = 1: y is a constant
--   kernel_other          a is another constant: y is 0
--   small_under           what is below the degree of w and divided by w is 0
use Rattle.std.proofs.Common.{◌≡◌, ℕ, zero, suc, ◌+◌, ◌<◌, refl, sym, ◌∙◌, ap, ap₂, List, [], ◌∷◌, arith}
use Rattle.sg_algebra.specs.Coefficients.{poly_mul}
use Rattle.sg_algebra.proofs.Ring.{nat, mul_O, eq_of_sub}
use Rattle.sg_algebra.proofs.Solver.{ring, reads}
use Rattle.sg_algebra.proofs.Divides.{Divides}
use Rattle.sg_algebra.proofs.Degree.{Below, Degree, below_zero, poly_zero, degree_of, degree-mul, degree_below, degree_same}
use Rattle.sg_algebra.proofs.PolynomialRing.{PolyR}
use Rattle.sg_algebra.proofs.Shift.{shiftH}
use Rattle.sg_algebra.proofs.Value.{Value, zero_value, one_value}
use Rattle.sg_algebra.proofs.ValueField.{ValueR, ValueF, ValueD, value_is_zero}
use Rattle.sg_algebra.proofs.Embedding.{numeral_ne}
use Rattle.sg_algebra.proofs.Polynomial.{Polynomial, PolynomialR, ListR, poly, poly_cong, poly_same, same_poly, poly-add, poly-mul, poly-neg, coefficient, constant, zero_polynomial, one_polynomial, ◌+ᵖ◌, ◌-ᵖ◌, ◌*ᵖ◌, neg_polynomial}
use Rattle.sg_dispersion_theory.proofs.Listed.{list_of, poly-list_of, poly_dvd}
use Rattle.sg_first_order_theory.proofs.Next.{next, next-poly}
use Rattle.sg_first_order_theory.proofs.Bounds.{Left, bound_first, bound_second, indicial}
use Rattle.sg_first_order_theory.proofs.Under.{Under, poly_under}

module _ {d : ℕ} where
  none_past : (a : Value d) (i : ℕ) → 0 < i → coefficient (a ∷ []) i ≡ zero_value
  none_past a zero l = absurd (omega arith)
  none_past a (suc i) l = refl

  left_nothing : (a : Value d) (y : Polynomial d) → constant a *ᵖ next y -ᵖ y ≡ zero_polynomial → Below (ValueR d) 0 (Left (ValueR d) (a ∷ []) (one_value ∷ []) (list_of y))
  left_nothing a y h = record { none_from = λ n l. same_poly (Left (ValueR d) (a ∷ []) (one_value ∷ []) p) [] (is ∙ h) n }
    where
      p : List (Value d)
      p = list_of y

      s : List (Value d)
      s = (shiftH (ValueR d)).on p

      is : poly (Left (ValueR d) (a ∷ []) (one_value ∷ []) p) ≡ constant a *ᵖ next y -ᵖ y
      is = poly-add (poly_mul (ValueR d) (a ∷ []) s) ((ListR d).⊟ (poly_mul (ValueR d) (one_value ∷ []) p))
          ∙ ap₂ ◌+ᵖ◌ (poly-mul (a ∷ []) s ∙ ap (λ z. constant a *ᵖ z) (sym (next-poly p) ∙ ap next (poly-list_of y)))
          (poly-neg (poly_mul (ValueR d) (one_value ∷ []) p) ∙ ap neg_polynomial (poly-mul (one_value ∷ []) p ∙ ap (λ z. one_polynomial *ᵖ z) (poly-list_of y) ∙ ring (PolynomialR d) (y ∷ []) (search reads depth 12) refl))

  pub kernel_other : (a : Value d) → ¬ (a ≡ one_value) → (y : Polynomial d) → constant a *ᵖ next y -ᵖ y ≡ zero_polynomial → y ≡ zero_polynomial
  kernel_other a ne y h = sym (poly-list_of y) ∙ poly_cong (below_zero (ValueR d) (list_of y)
      (bound_first (ValueF d) 0 (a ∷ []) (one_value ∷ []) (none_past a) (none_past one_value) 0 0 (list_of y) (left_nothing a y h) (λ z. ne (eq_of_sub (ValueR d) z)) (omega arith)))

  pub kernel_one : (y : Polynomial d) → constant one_value *ᵖ next y -ᵖ y ≡ zero_polynomial → y ≡ constant (coefficient (list_of y) 0)
  kernel_one y h = sym (poly-list_of y) ∙ poly_same (list_of y) (coefficient (list_of y) 0 ∷ []) (λ i. at i)
    where
      roots : (n : ℕ) → indicial (ValueR d) 0 (one_value ∷ []) (one_value ∷ []) n ≡ zero_value → n < 1
      roots zero e = omega arith
      roots (suc n) e = absurd (numeral_ne d (suc n) (omega arith) (ring (ValueR d) (nat (ValueR d) (suc n) ∷ []) (search reads depth 16) refl ∙ e))

      low : Below (ValueR d) 1 (list_of y)
      low = bound_second (ValueF d) 0 (one_value ∷ []) (one_value ∷ []) (none_past one_value) (none_past one_value) 0 1 (list_of y) (left_nothing one_value y h) refl (omega arith) roots

      at : (i : ℕ) → coefficient (list_of y) i ≡ coefficient (coefficient (list_of y) 0 ∷ []) i
      at zero = refl
      at (suc i) = low.none_from (suc i) (omega arith)

  pub small_under : (n : ℕ) (w p : List (Value d)) → Degree (ValueR d) n w → Under n (poly p) → Divides (PolynomialR d) (poly w) (poly p) → poly p ≡ zero_polynomial
  small_under n w p g u h = go (poly_zero (ValueR d) (value_is_zero d) p)
    where
      k : Divides (PolyR (ValueR d)) w p
      k = poly_dvd w p h

      go : Dec ((ListR d).◌≈◌ p []) → poly p ≡ zero_polynomial
      go (yes z) = poly_cong z
      go (no z) = absurd (high (degree_of (ValueR d) (value_is_zero d) k.cofactor (λ e. z ((ListR d).trans k.is ((ListR d).trans ((ListR d).mul_cong {x = w} {y = w} (ListR d).rfl e) (mul_O (ListR d) {x = w}))))))
        where
          high : (m : ℕ) × Degree (ValueR d) m k.cofactor → ⊥
          high m = over (degree_below (ValueR d) n (n + m.0) p (degree_same (ValueR d) (n + m.0) (poly_mul (ValueR d) w k.cofactor) p ((ListR d).symm k.is) (degree-mul (ValueD d) n m.0 w k.cofactor g m.1)) (poly_under n p u))
            where
              over : n + m.0 < n → ⊥
              over l = omega arith
