-- A polynomial at k + m is similar to itself, for any whole m.
--   whole-iter          the value of a later image
--   shifted_similar     p(k + m) is p(k) times some r(k + 1)/r(k)
use Rattle.std.proofs.Common.{◌≡◌, ℕ, zero, suc, refl, sym, ◌∙◌, ap, List, ℤ, pos, negsuc, [], ◌∷◌}
use Rattle.sg_algebra.proofs.Divides.{iter}
use Rattle.sg_algebra.proofs.Ring.{nat}
use Rattle.sg_algebra.proofs.Solver.{ring, reads}
use Rattle.sg_algebra.proofs.Shift.{moved, moved-moved, moved_cong, moved-O}
use Rattle.sg_algebra.proofs.Value.{Value, zero_value, ◌+ᵛ◌}
use Rattle.sg_algebra.proofs.ValueField.{ValueR, ValueF}
use Rattle.sg_algebra.proofs.Rational.{whole_value}
use Rattle.sg_algebra.proofs.Polynomial.{Polynomial, PolynomialR, PolynomialD, ListR, poly, poly_cong, zero_polynomial}
use Rattle.sg_first_order_theory.proofs.Next.{nextH, iter_next}
use Rattle.sg_algebra.proofs.ShiftValue.{shift_value, shift_valueH}
use Rattle.sg_first_order_theory.proofs.ValueFractions.{value_fractions, whole, whole-next}
use Rattle.sg_relations_theory.proofs.PowerLaws.{Some}
use Rattle.sg_relations_theory.proofs.RatioTheorem.{inside}
use Rattle.sg_relations_theory.proofs.Generators.{ι_some}
use Rattle.sg_relations_theory.proofs.Similar.{Similar, similar_same, similar_symm}
use Rattle.sg_relations_theory.proofs.SplitColumns.{similar_iter}

module _ {d : ℕ} where
  whole-iter : (n : ℕ) (x : Polynomial d) → whole (iter (PolynomialR d) (nextH d) n x) ≡ iter (ValueR (suc d)) (shift_valueH d) n (whole x)
  whole-iter zero x = refl
  whole-iter (suc n) x = sym (whole-next (iter (PolynomialR d) (nextH d) n x)) ∙ ap (shift_value d) (whole-iter n x)

  whole_some : (x : Polynomial d) → ¬ (x ≡ zero_polynomial) → Some (ValueF (suc d)) (whole x)
  whole_some x h = ι_some (PolynomialD d) (nextH d) (ValueF (suc d)) (inside (value_fractions d)) x h

  up : (n : ℕ) (p : List (Value d)) → ¬ (poly p ≡ zero_polynomial) → Similar (ValueF (suc d)) (shift_valueH d) (whole (poly (moved (ValueR d) (nat (ValueR d) n) p))) (whole (poly p))
  up n p h = similar_same (ValueF (suc d)) (shift_valueH d) (iter (ValueR (suc d)) (shift_valueH d) n (whole (poly p))) (whole (poly p)) (whole (poly (moved (ValueR d) (nat (ValueR d) n) p))) (whole (poly p))
      (sym (whole-iter n (poly p)) ∙ ap whole (iter_next n p)) refl (similar_iter (ValueF (suc d)) (shift_valueH d) n (whole (poly p)) (whole_some (poly p) h)).0

  pub shifted_similar : (m : ℤ) (p : List (Value d)) → ¬ (poly p ≡ zero_polynomial) → ¬ (poly (moved (ValueR d) (whole_value d m) p) ≡ zero_polynomial)
      → Similar (ValueF (suc d)) (shift_valueH d) (whole (poly (moved (ValueR d) (whole_value d m) p))) (whole (poly p))
  shifted_similar (pos n) p h k = up n p h
  shifted_similar (negsuc n) p h k = similar_symm (ValueF (suc d)) (shift_valueH d) (whole (poly p)) (whole (poly (moved (ValueR d) (whole_value d (negsuc n)) p)))
      (similar_same (ValueF (suc d)) (shift_valueH d) (whole (poly (moved (ValueR d) (nat (ValueR d) (suc n)) (moved (ValueR d) (whole_value d (negsuc n)) p)))) (whole (poly (moved (ValueR d) (whole_value d (negsuc n)) p)))
      (whole (poly p)) (whole (poly (moved (ValueR d) (whole_value d (negsuc n)) p)))
      (ap whole (poly_cong ((ListR d).trans (moved-moved (ValueR d) (whole_value d (negsuc n)) (nat (ValueR d) (suc n)) p)
      ((ListR d).trans (moved_cong (ValueR d) (whole_value d (negsuc n) +ᵛ nat (ValueR d) (suc n)) zero_value p p (ring (ValueR d) (nat (ValueR d) (suc n) ∷ []) (search reads depth 12) refl) (ListR d).rfl) (moved-O (ValueR d) p))))) refl
      (up (suc n) (moved (ValueR d) (whole_value d (negsuc n)) p) k))
