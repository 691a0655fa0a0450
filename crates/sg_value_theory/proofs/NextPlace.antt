-- The value of a quotient one place further.
--   whole-next         the next whole number as a value
--   quotient-moves     a quotient that has a value at k + 1 has it, shifted, at k
use Rattle.std.proofs.Common.{◌≡◌, ℕ, zero, suc, ℤ, pos, negsuc, ◌+ℤ◌, refl, sym, ap, ap₂, ◌∙◌, List, [], ◌∷◌, arith}
use Rattle.std.proofs.lemmas.Int.{ints}
use Rattle.sg_algebra.specs.Coefficients.{eval}
use Rattle.sg_algebra.proofs.Ring.{nat}
use Rattle.sg_algebra.proofs.Solver.{ring, reads}
use Rattle.sg_algebra.proofs.Shift.{moved, moved-eval}
use Rattle.sg_algebra.proofs.Value.{Value, ◌+ᵛ◌, ◌/ᵛ◌, neg_value, one_value}
use Rattle.sg_algebra.proofs.ValueField.{ValueR}
use Rattle.sg_algebra.proofs.Rational.{whole_value}
use Rattle.sg_tower_theory.proofs.ShiftValue.{shift_value, shift_value-over}
use Rattle.sg_value_theory.proofs.Elements.{IsQuotientAt}
use Rattle.sg_value_theory.proofs.Quotients.{apart}

module _ {d : ℕ} where
  up : (x : Value d) → neg_value x ≡ neg_value (x +ᵛ one_value) +ᵛ one_value
  up x = ring (ValueR d) (x ∷ []) (search reads depth 16) refl

  pub whole-next : (k : ℤ) → whole_value d (k +ℤ pos 1) ≡ whole_value d k +ᵛ one_value
  whole-next (pos n) = let e : pos n +ℤ pos 1 ≡ pos (suc n) = omega (arith, ints) in ap (whole_value d) e
  whole-next (negsuc zero) = let e : negsuc zero +ℤ pos 1 ≡ pos 0 = omega (arith, ints) in ap (whole_value d) e ∙ ring (ValueR d) [] (search reads depth 16) refl
  whole-next (negsuc (suc n)) = let e : negsuc (suc n) +ℤ pos 1 ≡ negsuc n = omega (arith, ints) in ap (whole_value d) e ∙ up (nat (ValueR d) (suc n))

  moved-at : (k : ℤ) (p : List (Value d)) → eval (ValueR d) (moved (ValueR d) one_value p) (whole_value d k) ≡ eval (ValueR d) p (whole_value d (k +ℤ pos 1))
  moved-at k p = moved-eval (ValueR d) one_value (whole_value d k) p ∙ ap (eval (ValueR d) p) (sym (whole-next k))

  pub quotient-moves : (k : ℤ) (x : Value (suc d)) (v : Value d) → IsQuotientAt (k +ℤ pos 1) x v → IsQuotientAt k (shift_value d x) v
  quotient-moves k x v h = record {
    upper = moved (ValueR d) one_value h.upper;
    lower = moved (ValueR d) one_value h.lower;
    quotient = ap (shift_value d) h.quotient ∙ shift_value-over d h.upper h.lower (apart (k +ℤ pos 1) h.lower h.defined);
    defined = λ z. h.defined (sym (moved-at k h.lower) ∙ z);
    value = h.value ∙ ap₂ ◌/ᵛ◌ (sym (moved-at k h.upper)) (sym (moved-at k h.lower));
  }
