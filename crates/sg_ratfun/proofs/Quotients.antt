-- The values of quotients of polynomials.
--   over_cross            equal cross products give equal values, and the other way round: cross_over
--   over_sum, over_difference, over_product, over_inverse    what a quotient has to fulfil to be the sum, difference, product, inverse
--   over_zero, zero_over  a quotient is 0 exactly where its numerator is
--   over_equal            equal polynomials give equal values
use Rattle.std.proofs.Common.{◌≡◌, ℕ, refl, sym, ◌∙◌, ap, ap₂, List, [], map}
use Rattle.sg_algebra.specs.Coefficients.{poly_mul, zip_longest}
use Rattle.sg_algebra.proofs.Value.{Value, zero_value, over_value, neg_value, ◌+ᵛ◌, ◌-ᵛ◌, ◌*ᵛ◌, ◌/ᵛ◌}
use Rattle.sg_algebra.proofs.ValueField.{ValueR}
use Rattle.sg_algebra.proofs.OverValue.{over_value_same, same_over_value, over_value-add, over_value-sub, over_value-mul, over_value-div, over_value-zero, zero_over_value, over_value_cong}
use Rattle.sg_algebra.proofs.Polynomial.{ListR, poly, poly_cong, poly-add, poly-mul, poly-neg, same_list, zero_polynomial, neg_polynomial, ◌+ᵖ◌, ◌-ᵖ◌, ◌*ᵖ◌, polynomial_factor}

module _ {d : ℕ} where
  apart : (q : List (Value d)) → ¬ (poly q ≡ zero_polynomial) → ¬ ((ListR d).◌≈◌ q [])
  apart q n z = n (poly_cong z)

  product_ne : (q s : List (Value d)) → ¬ (poly q ≡ zero_polynomial) → ¬ (poly s ≡ zero_polynomial) → ¬ (poly (poly_mul (ValueR d) q s) ≡ zero_polynomial)
  product_ne q s h k e = k (polynomial_factor (poly q) (poly s) h (sym (poly-mul q s) ∙ e))

  pub over_cross : (p q r s : List (Value d)) → ¬ (poly q ≡ zero_polynomial) → ¬ (poly s ≡ zero_polynomial) → poly p *ᵖ poly s ≡ poly r *ᵖ poly q → over_value p q ≡ over_value r s
  over_cross p q r s h k e = over_value_same d p q r s (apart q h) (apart s k) (same_list (poly_mul (ValueR d) p s) (poly_mul (ValueR d) r q) (poly-mul p s ∙ e ∙ sym (poly-mul r q)))

  pub cross_over : (p q r s : List (Value d)) → ¬ (poly q ≡ zero_polynomial) → ¬ (poly s ≡ zero_polynomial) → over_value p q ≡ over_value r s → poly p *ᵖ poly s ≡ poly r *ᵖ poly q
  cross_over p q r s h k e = sym (poly-mul p s) ∙ poly_cong (same_over_value d p q r s (apart q h) (apart s k) e) ∙ poly-mul r q

  pub over_equal : (p q r s : List (Value d)) → ¬ (poly q ≡ zero_polynomial) → poly p ≡ poly r → poly q ≡ poly s → over_value p q ≡ over_value r s
  over_equal p q r s h e k = over_value_cong d p q r s (apart q h) (same_list p r e) (same_list q s k)

  pub over_sum : (p q r s t u : List (Value d)) → ¬ (poly q ≡ zero_polynomial) → ¬ (poly s ≡ zero_polynomial) → ¬ (poly u ≡ zero_polynomial)
      → poly t *ᵖ (poly q *ᵖ poly s) ≡ (poly p *ᵖ poly s +ᵖ poly r *ᵖ poly q) *ᵖ poly u → over_value t u ≡ over_value p q +ᵛ over_value r s
  over_sum p q r s t u h k n e =
      over_cross t u (zip_longest ◌+ᵛ◌ (poly_mul (ValueR d) p s) (poly_mul (ValueR d) r q)) (poly_mul (ValueR d) q s) n (product_ne q s h k)
      (ap (◌*ᵖ◌ (poly t)) (poly-mul q s) ∙ e ∙ ap (λ x. x *ᵖ poly u) (sym (poly-add (poly_mul (ValueR d) p s) (poly_mul (ValueR d) r q) ∙ ap₂ ◌+ᵖ◌ (poly-mul p s) (poly-mul r q))))
      ∙ over_value-add d p q r s (apart q h) (apart s k)

  pub over_difference : (p q r s t u : List (Value d)) → ¬ (poly q ≡ zero_polynomial) → ¬ (poly s ≡ zero_polynomial) → ¬ (poly u ≡ zero_polynomial)
      → poly t *ᵖ (poly q *ᵖ poly s) ≡ (poly p *ᵖ poly s -ᵖ poly r *ᵖ poly q) *ᵖ poly u → over_value t u ≡ over_value p q -ᵛ over_value r s
  over_difference p q r s t u h k n e =
      over_cross t u (zip_longest ◌+ᵛ◌ (poly_mul (ValueR d) p s) (map neg_value (poly_mul (ValueR d) r q))) (poly_mul (ValueR d) q s) n (product_ne q s h k)
      (ap (◌*ᵖ◌ (poly t)) (poly-mul q s) ∙ e
      ∙ ap (λ x. x *ᵖ poly u) (sym (poly-add (poly_mul (ValueR d) p s) (map neg_value (poly_mul (ValueR d) r q)) ∙ ap₂ ◌+ᵖ◌ (poly-mul p s) (poly-neg (poly_mul (ValueR d) r q) ∙ ap neg_polynomial (poly-mul r q)))))
      ∙ over_value-sub d p q r s (apart q h) (apart s k)

  pub over_product : (p q r s t u : List (Value d)) → ¬ (poly q ≡ zero_polynomial) → ¬ (poly s ≡ zero_polynomial) → ¬ (poly u ≡ zero_polynomial)
      → poly t *ᵖ (poly q *ᵖ poly s) ≡ (poly p *ᵖ poly r) *ᵖ poly u → over_value t u ≡ over_value p q *ᵛ over_value r s
  over_product p q r s t u h k n e =
      over_cross t u (poly_mul (ValueR d) p r) (poly_mul (ValueR d) q s) n (product_ne q s h k) (ap (◌*ᵖ◌ (poly t)) (poly-mul q s) ∙ e ∙ ap (λ x. x *ᵖ poly u) (sym (poly-mul p r)))
      ∙ over_value-mul d p q r s (apart q h) (apart s k)

  pub over_quotient : (p q r s t u : List (Value d)) → ¬ (poly q ≡ zero_polynomial) → ¬ (poly s ≡ zero_polynomial) → ¬ (poly r ≡ zero_polynomial) → ¬ (poly u ≡ zero_polynomial)
      → poly t *ᵖ (poly q *ᵖ poly r) ≡ (poly p *ᵖ poly s) *ᵖ poly u → over_value t u ≡ over_value p q /ᵛ over_value r s
  over_quotient p q r s t u h k m n e =
      over_cross t u (poly_mul (ValueR d) p s) (poly_mul (ValueR d) q r) n (product_ne q r h m) (ap (◌*ᵖ◌ (poly t)) (poly-mul q r) ∙ e ∙ ap (λ x. x *ᵖ poly u) (sym (poly-mul p s)))
      ∙ over_value-div d p q r s (apart q h) (apart s k) (apart r m)

  pub over_zero : (p q : List (Value d)) → ¬ (poly q ≡ zero_polynomial) → poly p ≡ zero_polynomial → over_value p q ≡ zero_value
  over_zero p q h e = over_equal p q [] q h e refl ∙ over_value-zero d q (apart q h)

  pub zero_over : (p q : List (Value d)) → ¬ (poly q ≡ zero_polynomial) → over_value p q ≡ zero_value → poly p ≡ zero_polynomial
  zero_over p q h e = poly_cong (zero_over_value d p q (apart q h) e)
