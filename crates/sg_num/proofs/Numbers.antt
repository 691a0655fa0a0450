-- The four steps, as steps in the field of fractions.
--   den-positive                       the denominator is at least 1
--   coprime_size                       numbers are coprime where their sizes are
--   number-plus, -minus, -times, -over    what equals the schoolbook result is the sum, difference, product, quotient
--   number-whole                       a whole number
--   number-zero                        a fraction is 0 exactly where its numerator is
--   same-number                        equal numbers have the same parts
--   equal_test                         the test of a derived equality
use Rattle.std.proofs.Common.{◌≡◌, ◌≢◌, ℕ, suc, ◌*◌, ◌<◌, ℤ, pos, negsuc, ◌<ℤ◌, unsigned_abs, ◌∙◌, ap, arith, rules, Bool, int_eq, ◌&&◌, IsTrue, ◌↔◌}
use Rattle.std.proofs.lemmas.Int.{ints}
use Rattle.sg_algebra.proofs.Value.{◌+ᵛ◌, ◌-ᵛ◌, ◌*ᵛ◌, ◌/ᵛ◌, zero_value, fraction_value}
use Rattle.sg_algebra.proofs.Rational.{fraction_value-add, fraction_value-sub, fraction_value-mul, fraction_value-over, fraction_value_same, same_fraction_value, zero_fraction_value, fraction_value_zero, fraction_value-whole, whole_value}
use Rattle.sg_algebra.specs.Divisor.{gcd}
use Rattle.sg_algebra.proofs.Whole.{ℤR}
use Rattle.sg_algebra.proofs.Coprime.{Coprime, coprime_dvd}
use Rattle.sg_algebra.proofs.Divisor.{lowest_same, coprime_whole}
use Rattle.sg_spec.specs.Fraction.{Fraction, Same, whole, plus, minus, times, over}
use Rattle.sg_num.specs.Value.{fraction, number}
use Rattle.sg_num.specs.declared.rat.Rat.{Rat}

pub den-positive : (r : Rat) → 0 < unsigned_abs r.den
den-positive r = let h : pos 0 <ℤ r.den = r.positive in positive r.den h
  where
    positive : (z : ℤ) → pos 0 <ℤ z → 0 < unsigned_abs z
    positive z h = omega (arith, ints)

both-positive : (a b : ℕ) → 0 < a → 0 < b → 0 < a * b
both-positive a b h k = grind arith

pub number-plus : (a b r : Rat) → Same (fraction r) (plus (fraction a) (fraction b)) → number r ≡ number a +ᵛ number b
number-plus a b r h =
    let s = plus (fraction a) (fraction b) in
    fraction_value_same r.num s.num (unsigned_abs r.den) s.den (den-positive r) (both-positive (unsigned_abs a.den) (unsigned_abs b.den) (den-positive a) (den-positive b)) h
    ∙ fraction_value-add a.num b.num (unsigned_abs a.den) (unsigned_abs b.den) (den-positive a) (den-positive b)

pub number-minus : (a b r : Rat) → Same (fraction r) (minus (fraction a) (fraction b)) → number r ≡ number a -ᵛ number b
number-minus a b r h =
    let s = minus (fraction a) (fraction b) in
    fraction_value_same r.num s.num (unsigned_abs r.den) s.den (den-positive r) (both-positive (unsigned_abs a.den) (unsigned_abs b.den) (den-positive a) (den-positive b)) h
    ∙ fraction_value-sub a.num b.num (unsigned_abs a.den) (unsigned_abs b.den) (den-positive a) (den-positive b)

pub number-times : (a b r : Rat) → Same (fraction r) (times (fraction a) (fraction b)) → number r ≡ number a *ᵛ number b
number-times a b r h =
    let s = times (fraction a) (fraction b) in
    fraction_value_same r.num s.num (unsigned_abs r.den) s.den (den-positive r) (both-positive (unsigned_abs a.den) (unsigned_abs b.den) (den-positive a) (den-positive b)) h
    ∙ fraction_value-mul a.num b.num (unsigned_abs a.den) (unsigned_abs b.den) (den-positive a) (den-positive b)

pub number-over : (a b r : Rat) → b.num ≢ pos 0 → Same (fraction r) (over (fraction a) (fraction b)) → number r ≡ number a /ᵛ number b
number-over a b r ne h =
    let s = over (fraction a) (fraction b) in
    fraction_value_same r.num s.num (unsigned_abs r.den) s.den (den-positive r) (both-positive (unsigned_abs a.den) (unsigned_abs b.num) (den-positive a) (size b.num ne)) h
    ∙ fraction_value-over a.num b.num (unsigned_abs a.den) (unsigned_abs b.den) (den-positive a) (den-positive b) ne
  where
    size : (z : ℤ) → z ≢ pos 0 → 0 < unsigned_abs z
    size z h = omega (arith, ints)

pub number-whole : (r : Rat) (n : ℤ) → fraction r ≡ whole n → number r ≡ whole_value 0 n
number-whole r n e = ap (λ (x : Fraction). fraction_value x.num x.den) e ∙ fraction_value-whole n

pub number-zero : (r : Rat) → r.num ≡ pos 0 → number r ≡ zero_value
number-zero r e = fraction_value_zero r.num (unsigned_abs r.den) (den-positive r) e

pub zero-number : (r : Rat) → number r ≡ zero_value → r.num ≡ pos 0
zero-number r e = zero_fraction_value r.num (unsigned_abs r.den) (den-positive r) e

-- ---- Equality

same_den : (d e : ℤ) → pos 0 <ℤ d → pos 0 <ℤ e → unsigned_abs d ≡ unsigned_abs e → d ≡ e
same_den d e h k s = grind (arith, ints)

pub coprime_size : (n : ℤ) (b : ℕ) → gcd (unsigned_abs n) b ≡ 1 → Coprime ℤR n (pos b)
coprime_size (pos n) b e = coprime_whole n b e
coprime_size (negsuc n) b e = coprime_dvd ℤR (pos (suc n)) (pos b) (negsuc n) (record { cofactor = negsuc 0; is = omega (arith, ints) }) (coprime_whole (suc n) b e)

-- equal numbers are fractions with the same parts
pub same-number : (x y : Rat) → number x ≡ number y → (x.num ≡ y.num) × (x.den ≡ y.den)
same-number x y e =
    let p = lowest_same x.num y.num (unsigned_abs x.den) (unsigned_abs y.den) (den-positive x) (den-positive y) (coprime_size x.num (unsigned_abs x.den) x.lowest) (coprime_size y.num (unsigned_abs y.den) y.lowest)
    (same_fraction_value x.num y.num (unsigned_abs x.den) (unsigned_abs y.den) (den-positive x) (den-positive y) e) in
    (p.0, same_den x.den y.den x.positive y.positive p.1)

-- the test that a derived equality makes
pub equal_test : (t : Bool) (n d m e : ℤ) → t ≡ (int_eq n m && int_eq d e) → IsTrue t ↔ ((n ≡ m) × (d ≡ e))
equal_test t n d m e s = (λ h. search (rules, h), λ p. rw (s, p.0, p.1) (search rules))
