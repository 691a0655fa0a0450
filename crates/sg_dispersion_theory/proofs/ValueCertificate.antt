-- Certificates over the values of one depth, in the words of clauses: polynomials with ≡.
--   coprime_moved       where D(m) isn't 0, a(k) and b(k + m) are coprime
--   root_of_common      where a(k) and b(k + m) aren't coprime, D(m) is 0
--   monic_length        the degree of a monic list without zeros at its end
--   polyH               the polynomial of a list, as a map of rings
use Rattle.std.proofs.Common.{◌≡◌, ℕ, suc, ◌-◌, ◌<◌, ◌≤◌, refl, sym, ◌∙◌, List, ◌⊎◌, inl, inr, length, arith}
use Rattle.sg_algebra.specs.Ring.{Hom}
use Rattle.sg_algebra.specs.Coefficients.{eval}
use Rattle.sg_algebra.proofs.Coprime.{Coprime, coprime_on}
use Rattle.sg_algebra.proofs.PolynomialRing.{PolyR}
use Rattle.sg_algebra.proofs.Degree.{Monic}
use Rattle.sg_algebra.proofs.Shift.{moved}
use Rattle.sg_algebra.proofs.Value.{Value, zero_value}
use Rattle.sg_algebra.proofs.ValueField.{ValueR, ValueF, value_is_zero, value_one_ne}
use Rattle.sg_algebra.proofs.Polynomial.{poly, poly_cong, poly-add, poly-mul, PolynomialR, EndsNonzero}
use Rattle.sg_algebra.proofs.Rows.{at_past}
use Rattle.sg_dispersion_theory.proofs.Certificate.{Certificate, coprime_at}

abbrev pub polyH : (depth : ℕ) → Hom (PolyR (ValueR depth)) (PolynomialR depth)
polyH depth = record { on = poly; on_cong = λ p q h. poly_cong h; on-add = poly-add; on-mul = poly-mul; on-one = refl }

module _ {depth : ℕ} where
  pub monic_length : (n : ℕ) (p : List (Value depth)) → Monic (ValueR depth) n p → EndsNonzero p → length p ≡ suc n
  monic_length n p m e = elim (three n (length p)) [
    | inl h ↦ absurd (value_one_ne depth (sym m.top ∙ at_past p n (omega arith)))
    | inr s ↦ elim s [ inl h ↦ h | inr h ↦ absurd (e (length p - 1) (omega arith) (m.ends (length p - 1) (omega arith))) ]
  ]
    where
      three : (n s : ℕ) → (s ≤ n) ⊎ ((s ≡ suc n) ⊎ (suc n < s))
      three n s = grind arith

  module _ (d e : ℕ) (a b D : List (Value depth)) (m : Value depth) (p : Monic (ValueR depth) d a) (q : Monic (ValueR depth) e b) (c : Certificate (ValueR depth) d e a b D) where
    pub coprime_moved : ¬ (eval (ValueR depth) D m ≡ zero_value) → Coprime (PolynomialR depth) (poly a) (poly (moved (ValueR depth) m b))
    coprime_moved n = coprime_on (PolyR (ValueR depth)) (PolynomialR depth) (polyH depth) a (moved (ValueR depth) m b) (coprime_at (ValueF depth) d e a b D m p q c n)

    pub root_of_common : ¬ Coprime (PolynomialR depth) (poly a) (poly (moved (ValueR depth) m b)) → eval (ValueR depth) D m ≡ zero_value
    root_of_common n = elim (value_is_zero depth (eval (ValueR depth) D m)) [ yes z ↦ z | no h ↦ absurd (n (coprime_moved h)) ]
