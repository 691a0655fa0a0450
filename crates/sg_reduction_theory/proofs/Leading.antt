-- The first term of a polynomial y with a y(k+1) - y = p, for a constant a.
--   IsTerm n m c t        m times the coefficient of t at n is c, and t has none past n
--   IsLeading n b c t     t has the first term of y, where b is a - 1 and p has the degree n and the leading coefficient c
--   falls                 where it is taken off, the degree falls
use Rattle.std.proofs.Common.{◌≡◌, ℕ, suc, ◌<◌, refl, sym, ◌∙◌, ap, ap₂, subst, List, [], ◌∷◌, map}
use Rattle.sg_algebra.specs.Coefficients.{poly_mul}
use Rattle.sg_algebra.proofs.Ring.{nat, eq_of_sub}
use Rattle.sg_algebra.proofs.Solver.{ring, reads}
use Rattle.sg_algebra.proofs.Degree.{Below, below_same}
use Rattle.sg_algebra.proofs.Shift.{shiftH}
use Rattle.sg_algebra.proofs.Value.{Value, zero_value, one_value, neg_value, ◌-ᵛ◌, ◌*ᵛ◌}
use Rattle.sg_algebra.proofs.ValueField.{ValueR, value_is_zero}
use Rattle.sg_algebra.proofs.Polynomial.{PolynomialR, poly, poly-add, poly-mul, poly-neg, same_list, coefficient, constant, ◌+ᵖ◌, ◌-ᵖ◌, ◌*ᵖ◌, neg_polynomial}
use Rattle.sg_first_order_theory.proofs.Next.{next, next-poly}
use Rattle.sg_first_order_theory.proofs.Bounds.{Left}
use Rattle.sg_reduction_theory.proofs.Falling.{without, fall_one, fall_other}

module _ {d : ℕ} where
  pub record IsTerm (n : ℕ) (m c : Value d) (t : List (Value d)) : Type 0 where
    pub is : m *ᵛ coefficient t n ≡ c
    pub past : (i : ℕ) → n < i → coefficient t i ≡ zero_value

  pub record IsLeading (n : ℕ) (b c : Value d) (t : List (Value d)) : Type 0 where
    pub one : b ≡ zero_value → IsTerm (suc n) (nat (ValueR d) (suc n)) c t
    pub other : ¬ (b ≡ zero_value) → IsTerm n b c t

  poly-Left : (a : Value d) (y : List (Value d)) → poly (Left (ValueR d) (a ∷ []) (one_value ∷ []) y) ≡ constant a *ᵖ next (poly y) -ᵖ poly y
  poly-Left a y = poly-add (poly_mul (ValueR d) (a ∷ []) ((shiftH (ValueR d)).on y)) (map neg_value (poly_mul (ValueR d) (one_value ∷ []) y))
      ∙ ap₂ ◌+ᵖ◌ (poly-mul (a ∷ []) ((shiftH (ValueR d)).on y) ∙ ap (λ z. constant a *ᵖ z) (sym (next-poly y)))
      (poly-neg (poly_mul (ValueR d) (one_value ∷ []) y) ∙ ap neg_polynomial (poly-mul (one_value ∷ []) y ∙ ring (PolynomialR d) (poly y ∷ []) (search reads depth 12) refl))

  poly-without : (a : Value d) (p y : List (Value d)) → poly (without (ValueR d) a p y) ≡ poly p -ᵖ (constant a *ᵖ next (poly y) -ᵖ poly y)
  poly-without a p y = poly-add p (map neg_value (Left (ValueR d) (a ∷ []) (one_value ∷ []) y)) ∙ ap (λ z. poly p +ᵖ z) (poly-neg (Left (ValueR d) (a ∷ []) (one_value ∷ []) y) ∙ ap neg_polynomial (poly-Left a y))

  pub falls : (a b : Value d) (p y r : List (Value d)) (n : ℕ) → b ≡ a -ᵛ one_value → Below (ValueR d) (suc n) p → IsLeading n b (coefficient p n) y → poly r ≡ poly p -ᵖ (constant a *ᵖ next (poly y) -ᵖ poly y) → Below (ValueR d) n r
  falls a b p y r n eb low h e = below_same (ValueR d) n (without (ValueR d) a p y) r (same_list (without (ValueR d) a p y) r (poly-without a p y ∙ sym e)) (at (value_is_zero d b))
    where
      at : Dec (b ≡ zero_value) → Below (ValueR d) n (without (ValueR d) a p y)
      at (yes z) = subst (λ (x : Value d). Below (ValueR d) n (without (ValueR d) x p y)) (sym (eq_of_sub (ValueR d) (sym eb ∙ z))) (fall_one (ValueR d) p y n low (h.one z).past (h.one z).is)
      at (no z) = fall_other (ValueR d) a p y n low (h.other z).past (ap (λ x. x *ᵛ coefficient y n) (sym eb) ∙ (h.other z).is)
