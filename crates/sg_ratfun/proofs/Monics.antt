-- Monic polynomials.
--   monic_quotient   a monic polynomial over a monic one is monic
--   monic_product    so is a product of monic ones
--   monic_cong       so is one with equal coefficients
use Rattle.std.proofs.Common.{◌≡◌, ℕ, ◌+◌, ◌-◌, ◌<◌, ◌≤◌, refl, sym, ◌∙◌, ap, ap₂, List, [], ◌∷◌, length, ◌⊎◌, inl, inr, arith}
use Rattle.sg_algebra.specs.Coefficients.{poly_mul, zip_longest}
use Rattle.sg_algebra.proofs.Solver.{ring, reads}
use Rattle.sg_algebra.proofs.Degree.{Degree, Monic, degree_or_zero, degree_unique, degree_same, degree-mul, coef-mul_top, coef-mul_past}
use Rattle.sg_algebra.proofs.Division.{divide_unique}
use Rattle.sg_algebra.proofs.Rows.{at_past}
use Rattle.sg_algebra.proofs.Value.{Value, one_value, ◌+ᵛ◌, ◌*ᵛ◌}
use Rattle.sg_algebra.proofs.ValueField.{ValueR, ValueF, ValueD, value_is_zero, value_one_ne, value_mul-one}
use Rattle.sg_algebra.proofs.Polynomial.{Polynomial, PolynomialR, ListR, poly, poly_cong, poly-add, poly-mul, same_list, same_poly, listed, polynomial_set, coefficient, zero_polynomial, ◌+ᵖ◌, ◌*ᵖ◌, EndsNonzero}
use Rattle.sg_poly.specs.Divisors.{◌∣ᵖ◌, IsMonic}
use Rattle.sg_poly.proofs.Dividers.{monic_some}

module _ {d : ℕ} where
  monic_degree : (n : ℕ) (q : List (Value d)) → Monic (ValueR d) n q → Degree (ValueR d) n q
  monic_degree n q a = record { lead = λ z. value_one_ne d (sym a.top ∙ z); ends = a.ends }

  pub monic_cong : (p q : List (Value d)) → poly p ≡ poly q → IsMonic p → IsMonic q
  monic_cong p q e m = (m.0, record { top = sym (same_poly p q e m.0) ∙ m.1.top; ends = λ i l. sym (same_poly p q e i) ∙ m.1.ends i l })

  pub monic_product : (p q r : List (Value d)) → poly r ≡ poly p *ᵖ poly q → IsMonic p → IsMonic q → IsMonic r
  monic_product p q r e a b = monic_cong (poly_mul (ValueR d) p q) r (poly-mul p q ∙ sym e) (
    a.0 + b.0,
    record {
      top = coef-mul_top (ValueR d) a.0 b.0 p q a.1.ends b.1.ends ∙ ap₂ ◌*ᵛ◌ a.1.top b.1.top ∙ value_mul-one d one_value;
      ends = coef-mul_past (ValueR d) a.0 b.0 p q a.1.ends b.1.ends;
    },
  )

  pub monic_quotient : (q w p : List (Value d)) → poly p ≡ poly q *ᵖ poly w → IsMonic p → IsMonic w → IsMonic q
  monic_quotient q w p e a b = go (degree_or_zero (ValueR d) (value_is_zero d) q)
    where
      none : (x : Polynomial d) → zero_polynomial *ᵖ x ≡ zero_polynomial
      none x = ring (PolynomialR d) (x ∷ []) (search reads depth 12) refl

      listed_product : (ListR d).◌≈◌ p (poly_mul (ValueR d) q w)
      listed_product = same_list p (poly_mul (ValueR d) q w) (e ∙ sym (poly-mul q w))

      go : ((ListR d).◌≈◌ q []) ⊎ ((n : ℕ) × Degree (ValueR d) n q) → IsMonic q
      go (inl z) = absurd (monic_some p a (e ∙ ap (λ x. x *ᵖ poly w) (poly_cong z) ∙ none (poly w)))
      go (inr n) =
          let s : a.0 ≡ n.0 + b.0 = degree_unique (ValueR d) a.0 (n.0 + b.0) (poly_mul (ValueR d) q w)
          (degree_same (ValueR d) a.0 p (poly_mul (ValueR d) q w) listed_product (monic_degree a.0 p a.1)) (degree-mul (ValueD d) n.0 b.0 q w n.1 (monic_degree b.0 w b.1)) in (
            n.0,
            record {
              top = sym (value_mul-one d (coefficient q n.0)) ∙ ap (◌*ᵛ◌ (coefficient q n.0)) (sym b.1.top) ∙ sym (coef-mul_top (ValueR d) n.0 b.0 q w n.1.ends b.1.ends)
                  ∙ sym (listed_product.image.at (n.0 + b.0)) ∙ rw s at a.1.top;
              ends = n.1.ends;
            },
          )
