-- Exact quotients.
--   degree_of_ends   the degree of a polynomial without zeros at its end
--   exact            a divisor leaves no rest
use Rattle.std.proofs.Common.{◌≡◌, ℕ, ◌-◌, ◌<◌, ◌≤◌, refl, sym, ◌∙◌, ap, List, [], ◌∷◌, length, arith}
use Rattle.sg_algebra.specs.Coefficients.{poly_mul, zip_longest}
use Rattle.sg_algebra.proofs.Solver.{ring, reads}
use Rattle.sg_algebra.proofs.Degree.{Degree}
use Rattle.sg_algebra.proofs.Division.{divide_unique}
use Rattle.sg_algebra.proofs.Rows.{at_past}
use Rattle.sg_algebra.proofs.Value.{Value, ◌+ᵛ◌}
use Rattle.sg_algebra.proofs.ValueField.{ValueR, ValueF}
use Rattle.sg_algebra.proofs.Polynomial.{Polynomial, PolynomialR, ListR, poly, poly_cong, poly-add, poly-mul, same_list, listed, polynomial_set, zero_polynomial, ◌+ᵖ◌, ◌*ᵖ◌, EndsNonzero}
use Rattle.sg_poly.specs.Divisors.{◌∣ᵖ◌}

module _ {d : ℕ} where
  joined : (p q w r : List (Value d)) → poly p ≡ poly q *ᵖ poly w +ᵖ poly r → (ListR d).◌≈◌ p (zip_longest ◌+ᵛ◌ (poly_mul (ValueR d) q w) r)
  joined p q w r e = same_list p (zip_longest ◌+ᵛ◌ (poly_mul (ValueR d) q w) r) (e ∙ sym (poly-add (poly_mul (ValueR d) q w) r ∙ ap (λ x. x +ᵖ poly r) (poly-mul q w)))

  no_rest : (q w c : Polynomial d) → w *ᵖ c ≡ c *ᵖ w +ᵖ zero_polynomial
  no_rest q w c = ring (PolynomialR d) (w ∷ c ∷ []) (search reads depth 12) refl

  turn : (w c : Polynomial d) → w *ᵖ c ≡ c *ᵖ w
  turn w c = ring (PolynomialR d) (w ∷ c ∷ []) (search reads depth 12) refl

  exact_at : (p q w r : List (Value d)) (m : ℕ) → Degree (ValueR d) m w → length r ≤ m → poly p ≡ poly q *ᵖ poly w +ᵖ poly r → (c : Polynomial d) → poly p ≡ poly w *ᵖ c → poly p ≡ poly q *ᵖ poly w
  exact_at p q w r m g l e = listed (λ c. poly p ≡ poly w *ᵖ c → poly p ≡ poly q *ᵖ poly w) (λ c. hlevel (polynomial_set d))
      (λ c h. h ∙ turn (poly w) (poly c) ∙ ap (λ x. x *ᵖ poly w) (sym (poly_cong ((divide_unique (ValueF d) m w g q c r []
      ((ListR d).trans ((ListR d).symm (joined p q w r e)) (joined p c w [] (h ∙ no_rest (poly q) (poly w) (poly c))))
      (record { none_from = λ n k. at_past r n (omega arith) }) (record { none_from = λ n k. refl })).0))))

  pub degree_of_ends : (w : List (Value d)) → EndsNonzero w → 0 < length w → Degree (ValueR d) (length w - 1) w
  degree_of_ends w e l = record { lead = e (length w - 1) (omega arith); ends = λ i h. at_past w i (omega arith) }

  some_length : (w : List (Value d)) → ¬ (poly w ≡ zero_polynomial) → 0 < length w
  some_length [] n = absurd (n refl)
  some_length (x ∷ w) n = omega arith

  pub exact : (p q w r : List (Value d)) → EndsNonzero w → ¬ (poly w ≡ zero_polynomial) → length r < length w → poly p ≡ poly q *ᵖ poly w +ᵖ poly r → (poly w ∣ᵖ poly p) → poly p ≡ poly q *ᵖ poly w
  exact p q w r e n l h c = let s = some_length w n in exact_at p q w r (length w - 1) (degree_of_ends w e s) (omega arith) h c.cofactor c.is
