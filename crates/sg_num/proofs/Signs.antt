-- Whole numbers by sign and size.
--   with_sign      the number of this sign and size
--   is_below_zero, unsigned_abs    the sign and the size of a number
--   differ         exactly one of two signs is true
use Rattle.std.proofs.Common.{◌≡◌, ℕ, zero, suc, ◌*◌, ◌<◌, ℤ, pos, negsuc, ◌*ℤ◌, neg_ℤ, ◌<ℤ◌, unsigned_abs, refl, sym, ◌∙◌, arith, Bool, true, false, [], ◌∷◌}
use Rattle.std.proofs.lemmas.Int.{ints}
use Rattle.sg_spec.specs.Fraction.{with_sign_of}
use Rattle.sg_spec.specs.Width.{with_sign, is_below_zero, differ}
use Rattle.sg_algebra.proofs.Solver.{ring}
use Rattle.sg_algebra.proofs.Whole.{ℤR, readsℤ}

pub unsigned_abs-with_sign : (s : Bool) (n : ℕ) → unsigned_abs (with_sign s n) ≡ n
unsigned_abs-with_sign false n = refl
unsigned_abs-with_sign true zero = refl
unsigned_abs-with_sign true (suc n) = refl

pub with_sign-size : (z : ℤ) → with_sign (is_below_zero z) (unsigned_abs z) ≡ z
with_sign-size (pos n) = refl
with_sign-size (negsuc n) = refl

neg-left : (x y : ℤ) → neg_ℤ x *ℤ y ≡ neg_ℤ (x *ℤ y)
neg-left x y = ring ℤR (x ∷ y ∷ []) (search readsℤ depth 16) refl

neg-right : (x y : ℤ) → x *ℤ neg_ℤ y ≡ neg_ℤ (x *ℤ y)
neg-right x y = ring ℤR (x ∷ y ∷ []) (search readsℤ depth 16) refl

neg-both : (x y : ℤ) → neg_ℤ x *ℤ neg_ℤ y ≡ x *ℤ y
neg-both x y = ring ℤR (x ∷ y ∷ []) (search readsℤ depth 16) refl

pub with_sign-times : (s t : Bool) (m n : ℕ) → with_sign s m *ℤ with_sign t n ≡ with_sign (differ s t) (m * n)
with_sign-times false false m n = refl
with_sign-times false true m n = neg-right (pos m) (pos n)
with_sign-times true false m n = neg-left (pos m) (pos n)
with_sign-times true true m n = neg-both (pos m) (pos n)

pub with_sign-scaled : (s : Bool) (m n : ℕ) → with_sign s m *ℤ pos n ≡ with_sign s (m * n)
with_sign-scaled false m n = refl
with_sign-scaled true m n = neg-left (pos m) (pos n)

pub differ-twice : (s t : Bool) → differ (differ s t) t ≡ s
differ-twice false false = refl
differ-twice false true = refl
differ-twice true false = refl
differ-twice true true = refl

pub differ-false : (s : Bool) → differ s false ≡ s
differ-false false = refl
differ-false true = refl

pub with_sign_of-is : (y : ℤ) (n : ℕ) → with_sign_of y n ≡ with_sign (is_below_zero y) n
with_sign_of-is (pos m) n = refl
with_sign_of-is (negsuc m) n = omega (arith, ints)

-- the product of two numbers by signs and sizes
pub with_sign-product : (x y : ℤ) → with_sign (differ (is_below_zero x) (is_below_zero y)) (unsigned_abs x * unsigned_abs y) ≡ x *ℤ y
with_sign-product x y = sym (with_sign-times (is_below_zero x) (is_below_zero y) (unsigned_abs x) (unsigned_abs y)) ∙ rw (with_sign-size x, with_sign-size y)

-- a number times another of the divisor's sign
pub with_sign-quotient : (x y : ℤ) (n : ℕ) → with_sign (differ (is_below_zero x) (is_below_zero y)) (unsigned_abs x * n) ≡ x *ℤ with_sign_of y n
with_sign-quotient x y n = sym (with_sign-times (is_below_zero x) (is_below_zero y) (unsigned_abs x) n) ∙ rw (with_sign-size x, with_sign_of-is y n)

pub with_sign-positive : (z : ℤ) (n : ℕ) → z ≡ with_sign false n → 0 < n → pos 0 <ℤ z
with_sign-positive z n e h = rw e (omega (arith, ints))
