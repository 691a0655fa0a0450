-- Lowest terms, and which steps fit 128 bits. All fractions here are in lowest terms, with a denominator of at least 1.
--   fits_num, fits_den   a numerator from -2^127 to 2^127 - 1, a denominator up to 2^127 - 1
--   with_sign            the whole number of this sign and size
--   reduced              n / d in lowest terms with a positive denominator, for d other than 0
--   fits_reduced         d isn't 0, and the reduced pair fits
--   product, quotient    in lowest terms, after the common factors across the two fractions are taken out
--   left_part, right_part, common_den    both fractions over their least common denominator
--   fits_plus, fits_minus                both parts, the common denominator and the sum or difference fit
use Rattle.std.specs.Prelude.{ℕ, ◌*◌, ◌/◌, ◌^◌, ℤ, pos, negsuc, ◌+ℤ◌, ◌-ℤ◌, ◌*ℤ◌, unsigned_abs, neg_ℤ, not, Bool, true, false, ◌&&◌, nat_lt}
use Rattle.sg_algebra.specs.Divisor.{gcd}
use Rattle.sg_spec.specs.Fraction.{Fraction}

abbrev pub fits_num : ℤ → Bool
fits_num (pos n) = nat_lt n (2 ^ 127)
fits_num (negsuc n) = nat_lt n (2 ^ 127)

abbrev pub fits_den : ℕ → Bool
fits_den n = nat_lt n (2 ^ 127)

abbrev pub fits : Fraction → Bool
fits x = fits_num x.num && fits_den x.den

-- the sign is true for numbers below 0
abbrev pub with_sign : Bool → ℕ → ℤ
with_sign false n = pos n
with_sign true n = neg_ℤ (pos n)

abbrev pub is_below_zero : ℤ → Bool
is_below_zero (pos n) = false
is_below_zero (negsuc n) = true

abbrev pub differ : Bool → Bool → Bool
differ false b = b
differ true b = not b

abbrev pub reduced : ℤ → ℤ → Fraction
reduced n d = record {
  num = with_sign (differ (is_below_zero n) (is_below_zero d)) (unsigned_abs n / gcd (unsigned_abs n) (unsigned_abs d));
  den = unsigned_abs d / gcd (unsigned_abs n) (unsigned_abs d);
}

abbrev pub fits_reduced : ℤ → ℤ → Bool
fits_reduced n d = nat_lt 0 (unsigned_abs d) && fits (reduced n d)

-- (a/b) (c/d) of this sign, without what a has in common with d and c with b
abbrev pub crossed : Bool → ℕ → ℕ → ℕ → ℕ → Fraction
crossed negative a b c d = record {
  num = with_sign negative ((a / gcd a d) * (c / gcd c b));
  den = (b / gcd c b) * (d / gcd a d);
}

abbrev pub product : Fraction → Fraction → Fraction
product x y = crossed (differ (is_below_zero x.num) (is_below_zero y.num)) (unsigned_abs x.num) x.den (unsigned_abs y.num) y.den

-- the second fraction turned over; it isn't 0
abbrev pub quotient : Fraction → Fraction → Fraction
quotient x y = crossed (differ (is_below_zero x.num) (is_below_zero y.num)) (unsigned_abs x.num) x.den y.den (unsigned_abs y.num)

abbrev pub left_part : Fraction → Fraction → ℤ
left_part x y = x.num *ℤ pos (y.den / gcd x.den y.den)

abbrev pub right_part : Fraction → Fraction → ℤ
right_part x y = y.num *ℤ pos (x.den / gcd x.den y.den)

abbrev pub common_den : Fraction → Fraction → ℕ
common_den x y = x.den * (y.den / gcd x.den y.den)

abbrev pub fits_parts : Fraction → Fraction → Bool
fits_parts x y = fits_num (left_part x y) && (fits_num (right_part x y) && fits_den (common_den x y))

abbrev pub fits_plus : Fraction → Fraction → Bool
fits_plus x y = fits_parts x y && fits_num (left_part x y +ℤ right_part x y)

abbrev pub fits_minus : Fraction → Fraction → Bool
fits_minus x y = fits_parts x y && fits_num (left_part x y -ℤ right_part x y)
