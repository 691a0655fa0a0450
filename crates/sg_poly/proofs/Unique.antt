-- A division has one quotient and one rest, and a shifted polynomial its values.
--   division_unique    two divisions of one polynomial by one divisor have equal quotients and equal rests
--   moved_at           what is the polynomial at k + β has at x the value at x + β
use Rattle.std.proofs.Common.{◌≡◌, ℕ, suc, ◌≤◌, ◌-◌, refl, sym, ◌∙◌, ap, List, length, arith}
use Rattle.sg_algebra.specs.Coefficients.{zip_longest, poly_mul, eval}
use Rattle.sg_algebra.proofs.Evaluation.{eval_cong}
use Rattle.sg_algebra.proofs.Degree.{Below, Degree}
use Rattle.sg_algebra.proofs.Division.{divide_unique}
use Rattle.sg_algebra.proofs.Shift.{moved, moved-eval}
use Rattle.sg_algebra.proofs.Value.{Value, ◌+ᵛ◌}
use Rattle.sg_algebra.proofs.ValueField.{ValueR, ValueF}
use Rattle.sg_algebra.proofs.Polynomial.{poly, poly_cong, same_list, poly-add, poly-mul, EndsNonzero, ◌+ᵖ◌, ◌*ᵖ◌}
use Rattle.sg_algebra.proofs.Rows.{at_past}
use Rattle.sg_poly.specs.Divisors.{IsDivision}

module _ {d : ℕ} where
  -- q w + r as a list
  abbrev whole : List (Value d) → List (Value d) → List (Value d) → List (Value d)
  whole q w r = zip_longest ◌+ᵛ◌ (poly_mul (ValueR d) q w) r

  poly-whole : (q w r : List (Value d)) → poly (whole q w r) ≡ poly q *ᵖ poly w +ᵖ poly r
  poly-whole q w r = poly-add (poly_mul (ValueR d) q w) r ∙ ap (λ x. x +ᵖ poly r) (poly-mul q w)

  below : (m : ℕ) (r : List (Value d)) → length r ≤ m → Below (ValueR d) m r
  below m r l = record { none_from = λ n h. at_past r n (omega arith) }

  degree : (w : List (Value d)) (m : ℕ) → EndsNonzero w → length w ≡ suc m → Degree (ValueR d) m w
  degree w m e l = record { lead = e m l; ends = λ n h. at_past w n (omega arith) }

  divided_once : (p w q r q' r' : List (Value d)) (m : ℕ) → length w ≡ suc m → EndsNonzero w → IsDivision p w q r → IsDivision p w q' r' → (poly q' ≡ poly q) × (poly r' ≡ poly r)
  divided_once p w q r q' r' m l e h h' =
      let s = divide_unique (ValueF d) m w (degree w m e l) q' q r' r (same_list (whole q' w r') (whole q w r) (poly-whole q' w r' ∙ sym h'.is ∙ h.is ∙ sym (poly-whole q w r)))
      (below m r' (omega (arith, h'.smaller))) (below m r (omega (arith, h.smaller))) in
      (poly_cong s.0, poly_cong s.1)

  pub division_unique : (p w q r : List (Value d)) → EndsNonzero w → IsDivision p w q r → (q' r' : List (Value d)) → IsDivision p w q' r' → (poly q' ≡ poly q) × (poly r' ≡ poly r)
  division_unique p w q r e h q' r' h' = divided_once p w q r q' r' (length w - 1) (omega (arith, h.smaller)) e h h'

  pub moved_at : (β : Value d) (p r : List (Value d)) → poly r ≡ poly (moved (ValueR d) β p) → (x : Value d) → eval (ValueR d) r x ≡ eval (ValueR d) p (x +ᵛ β)
  moved_at β p r e x = eval_cong (ValueR d) r (moved (ValueR d) β p) x x (same_list r (moved (ValueR d) β p) e) refl ∙ moved-eval (ValueR d) β x p
