-- The canonical form of a polynomial over a number is a canonical form of an element.
--   canonical-over     without products and sums
use Rattle.std.proofs.Common.{◌≡◌, ◌≢◌, ℕ, zero, suc, ◌<◌, ℤ, pos, negsuc, unsigned_abs, refl, sym, ap, ◌∙◌, List, [], ◌∷◌, ◌++◌, arith}
use Rattle.std.proofs.lemmas.Int.{ints}
use Rattle.sg_algebra.specs.Divisor.{gcd}
use Rattle.sg_algebra.proofs.Divides.{Divides, dvd_trans}
use Rattle.std.proofs.lemmas.Nat.Gcd.{IsGcd-from_zero, IsGcd-swap}
use Rattle.sg_algebra.proofs.Divisor.{gcd_end, gcd_from_IsGcd}
use Rattle.sg_algebra.proofs.Rational.{whole_value, nat_ne}
use Rattle.sg_algebra.proofs.Value.{Value, ◌*ᵛ◌, inv_value, zero_value, one_value}
use Rattle.sg_algebra.proofs.ValueField.{value_mul-inv}
use Rattle.sg_canonical.specs.Whole.{common_divisor}
use Rattle.sg_plain.specs.Terms.{canonical}
use Rattle.sg_spec.specs.Canonical.{plane_of, content, IsLowest, IsCanonicalOver}
use Rattle.sg_plain.proofs.OneTerm.{only, one-term}
use Rattle.sg_worth_theory.proofs.Planes.{S, constants, unit-number, entries-is}

-- what divides a number that isn't 0 is a number
number-divisor : (d : Value 0) → ¬ (d ≡ zero_value) → (c : List (List (Value 0))) → Divides S c ((d ∷ []) ∷ []) → (a : Value 0) × S.◌≈◌ c ((a ∷ []) ∷ [])
number-divisor d n c h =
    let unit = dvd_trans S c ((d ∷ []) ∷ []) S.I h (record {
      cofactor = constants.on (inv_value d);
      is = S.trans (S.symm constants.on-one) (S.trans (constants.on_cong one_value (d *ᵛ inv_value d) (sym (value_mul-inv 0 d n)))
          (constants.on-mul d (inv_value d)));
    }) in
    unit-number c unit.cofactor (S.symm unit.is)

content-push : (cs : List ℤ) (d : ℕ) → content (cs ++ (pos d ∷ [])) ≡ common_divisor cs d
content-push [] d = gcd_end d 0 refl
content-push (c ∷ cs) d = ap (gcd (unsigned_abs c)) (content-push cs d)

lowest-over : (c : ℤ) (cs : List ℤ) (d : ℕ) → c ≢ pos 0 → common_divisor (c ∷ cs) (suc d) ≡ 1 → IsLowest (plane_of (c ∷ cs)) ((pos (suc d) ∷ []) ∷ [])
lowest-over c cs d n e = record {
  some = n;
  positive = omega (arith, ints);
  apart = λ x h i. number-divisor (whole_value 0 (pos (suc d))) (nat_ne (suc d) (omega arith)) x i;
  primitive = ap (λ (l : List ℤ). content (l ++ (pos (suc d) ∷ []))) (entries-is (c ∷ cs)) ∙ content-push (c ∷ cs) (suc d) ∙ e;
}

some-over : (c : ℤ) (cs : List ℤ) (d : ℕ) → c ≢ pos 0 → common_divisor (c ∷ cs) (suc d) ≡ 1 → IsCanonicalOver [] [] (canonical (c ∷ cs) (suc d))
some-over c cs d n e = record {
  terms = only (c ∷ cs) (suc d) ∷ [];
  sized = ((refl, refl), tt);
  descending = tt;
  lowest =
      (lowest-over c cs d n e, tt);
  form = one-term (c ∷ cs) d;
}

-- coefficients 0 above the others aren't written
over-number : (cs : List ℤ) (d : ℕ) → common_divisor cs (suc d) ≡ 1 → IsCanonicalOver [] [] (canonical cs (suc d))
over-number [] zero e = record { terms = []; sized = tt; descending = tt; lowest = tt; form = refl }
over-number [] (suc d) e = absurd (omega (arith, e))
over-number (pos zero ∷ cs) d e = over-number cs d (gcd_from_IsGcd 0 (common_divisor cs (suc d)) (common_divisor cs (suc d)) (IsGcd-swap
    (common_divisor cs (suc d)) 0 (common_divisor cs (suc d)) (IsGcd-from_zero (common_divisor cs (suc d)) 0 refl)) ∙ e)
over-number (pos (suc c) ∷ cs) d e = some-over (pos (suc c)) cs d (λ z. cc) e
over-number (negsuc c ∷ cs) d e = some-over (negsuc c) cs d (λ z. cc) e

pub canonical-over : (cs : List ℤ) (d : ℕ) → 0 < d → common_divisor cs d ≡ 1 → IsCanonicalOver [] [] (canonical cs d)
canonical-over cs zero h e = absurd (omega arith)
canonical-over cs (suc d) h e = over-number cs d e
