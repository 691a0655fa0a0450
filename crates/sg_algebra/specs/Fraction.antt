-- Fractions of whole numbers of any size, and their schoolbook operations.
--   Fraction            a numerator over a denominator; every fraction that is made here has a denominator of at least 1
--   Same                two fractions are equal: their cross products are
--   whole               a whole number as a fraction
--   plus, minus, times  sum, difference and product
--   over                the quotient, for a divisor that isn't 0
use Rattle.std.specs.Prelude.{◌≡◌, ℕ, ◌*◌, ℤ, pos, negsuc, ◌+ℤ◌, ◌-ℤ◌, ◌*ℤ◌, unsigned_abs}

pub record Fraction : Type 0 where
  pub num : ℤ
  pub den : ℕ

abbrev pub Same : Fraction → Fraction → Type 0
Same x y = x.num *ℤ pos y.den ≡ y.num *ℤ pos x.den

abbrev pub whole : ℤ → Fraction
whole n = record { num = n; den = 1 }

abbrev pub plus : Fraction → Fraction → Fraction
plus x y = record { num = x.num *ℤ pos y.den +ℤ y.num *ℤ pos x.den; den = x.den * y.den }

abbrev pub minus : Fraction → Fraction → Fraction
minus x y = record { num = x.num *ℤ pos y.den -ℤ y.num *ℤ pos x.den; den = x.den * y.den }

abbrev pub times : Fraction → Fraction → Fraction
times x y = record { num = x.num *ℤ y.num; den = x.den * y.den }

-- n or -n: a divisor's sign goes to the numerator
abbrev pub with_sign_of : ℤ → ℕ → ℤ
with_sign_of (pos _) n = pos n
with_sign_of (negsuc _) n = pos 0 -ℤ pos n

abbrev pub over : Fraction → Fraction → Fraction
over x y = record { num = x.num *ℤ with_sign_of y.num y.den; den = x.den * unsigned_abs y.num }
