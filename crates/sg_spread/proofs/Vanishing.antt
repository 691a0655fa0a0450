-- The polynomial that is 0 wherever two others meet.
--   list_nonzero        a list with a coefficient other than 0 is no zero polynomial
--   vanishing_roots     a certificate is 0 where the two lists that were cut in two aren't coprime
use Rattle.std.proofs.Common.{◌≡◌, ℕ, ◌-◌, List, [], ℤ, length, map, take, drop, sym, ◌∙◌, refl}
use Rattle.sg_algebra.proofs.Coprime.{Coprime}
use Rattle.sg_algebra.proofs.Degree.{Monic}
use Rattle.sg_algebra.proofs.Evaluation.{eval_cong}
use Rattle.sg_algebra.proofs.Polynomial.{PolynomialR, poly, same_poly, same_list, zero_polynomial}
use Rattle.sg_algebra.proofs.Rational.{whole_value}
use Rattle.sg_algebra.proofs.Shift.{moved}
use Rattle.sg_algebra.proofs.Value.{Value}
use Rattle.sg_algebra.proofs.ValueField.{ValueR}
use Rattle.sg_num.specs.Value.{number}
use Rattle.sg_num.specs.declared.rat.Rat.{Rat}
use Rattle.sg_dispersion_theory.proofs.Certificate.{Certificate}
use Rattle.sg_dispersion_theory.proofs.ValueCertificate.{root_of_common}
use Rattle.sg_spread.specs.Powers.{IsSome}
use Rattle.sg_num.specs.Roots.{IsRoot}

pub list_nonzero : (p q : List (Value 0)) → IsSome q → poly p ≡ poly q → ¬ (poly p ≡ zero_polynomial)
list_nonzero p q s e z = s.some (same_poly q [] (sym e ∙ z) s.place)

module _ (values x y list p : List Rat) (n : ℕ) where
  pub vanishing_roots : x ≡ take n values → y ≡ drop n values → length x ≡ n → length y ≡ length values - n
      → Certificate (ValueR 0) (length x - 1) (length y - 1) (map number x) (map number y) (map number list) → poly (map number p) ≡ poly (map number list)
      → Monic (ValueR 0) (n - 1) (map number (take n values)) → Monic (ValueR 0) (length values - n - 1) (map number (drop n values)) → (m : ℤ)
      → ¬ Coprime (PolynomialR 0) (poly (map number (take n values))) (poly (moved (ValueR 0) (whole_value 0 m) (map number (drop n values)))) → IsRoot (map number p) m
  vanishing_roots front back fl bl c e left right m apart =
      eval_cong (ValueR 0) (map number p) (map number list) (whole_value 0 m) (whole_value 0 m) (same_list (map number p) (map number list) e) refl
      ∙ root_of_common (n - 1) (length values - n - 1) (map number (take n values)) (map number (drop n values)) (map number list) (whole_value 0 m) left right cut apart
    where
      sized : Certificate (ValueR 0) (n - 1) (length values - n - 1) (map number x) (map number y) (map number list)
      sized = rw (fl, bl) at c

      cut : Certificate (ValueR 0) (n - 1) (length values - n - 1) (map number (take n values)) (map number (drop n values)) (map number list)
      cut = rw (front, back) at sized
