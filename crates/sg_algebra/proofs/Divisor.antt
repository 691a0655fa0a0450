-- Greatest common divisors of natural numbers. That `gcd` is std's `IsGcd` is one induction; the rest follows from Euclid at the whole numbers.
--   gcd-is, gcd_from_IsGcd      `gcd a b` is a greatest common divisor, and the only one
--   coprime_whole, whole_coprime    `gcd a b ≡ 1` exactly where a and b are coprime as whole numbers
--   dvd_of_coprime              Euclid: what is coprime to one factor and divides the product divides the other
--   coprime_of_dvd, coprime-times, coprime_both    what divides one of two coprime numbers, a product, two coprime divisors of one number
--   coprime_by, dvd_one_by      coprime where each common divisor divides 1, and conversely
--   gcd-scaled, gcd_comm, gcd_step, gcd_end, gcd_one_right    the gcd of multiples, in the other order, by one division, at its end, with 1
--   gcd_positive, gcd_le, coprime_parts    its size, and what is left when it is taken out
--   lowest_same                 two equal fractions in lowest terms have the same parts
use Rattle.std.proofs.Common.{◌≡◌, ℕ, zero, suc, ◌*◌, ◌%◌, ◌/◌, ◌<◌, ◌≤◌, ◌⊎◌, inl, inr, refl, ap, sym, ◌∙◌, arith, subst, ℤ, pos, negsuc, ◌*ℤ◌, ◌<ℤ◌, unsigned_abs}
use Rattle.std.proofs.lemmas.Int.{ints, unsigned_abs-mul}
use Rattle.std.proofs.Math.Nat.{mul-dvd-mul_left, dvd_of_mul-dvd-mul_left, mul-div_cancel', mul-one, one-dvd, pos_of_dvd_of_pos}
use Rattle.std.proofs.lemmas.Nat.Gcd.{IsGcd-from_zero, IsGcd-from_mod, IsGcd-swap, same_from_IsGcd, dvd_antisymm, le_of_dvd}
use Rattle.std.specs.Int.{IsGcd, ◌∣◌}
use Rattle.sg_algebra.specs.Divisor.{gcd, gcd_in}
use Rattle.sg_algebra.proofs.Whole.{ℤR}
use Rattle.sg_algebra.proofs.Divides.{Divides}
use Rattle.sg_algebra.proofs.Coprime.{Coprime, coprime_unit, coprime_symm, coprime_dvd, coprime-mul, gauss, both_divide}
use Rattle.sg_algebra.proofs.Euclid.{Bezout, bezout_dvd, bezout-scale, greatest, coprime_of_unit}
use Rattle.sg_algebra.proofs.WholeDivisors.{bezoutℤ, one_or_minus_one, whole_dvd, dvd_whole, dvd_abs, lowest_sameℤ}

pub gcd_in-is : (k a b : ℕ) → b ≤ k → IsGcd a b (gcd_in k a b)
gcd_in-is zero a b h = IsGcd-from_zero a b (omega arith)
gcd_in-is (suc k) a zero h = IsGcd-from_zero a zero refl
gcd_in-is (suc k) a (suc b) h =
    IsGcd-from_mod a (suc b) _ (gcd_in-is k (suc b) (a % suc b) (omega arith))

pub gcd-is : (a b : ℕ) → IsGcd a b (gcd a b)
unfolding gcd
gcd-is a b = gcd_in-is b a b (omega arith)

pub gcd_from_IsGcd : (a b g : ℕ) → IsGcd a b g → g ≡ gcd a b
gcd_from_IsGcd a b g h = same_from_IsGcd a b g (gcd a b) h (gcd-is a b)

-- ---- Coprime numbers are coprime as whole numbers

pub dvd_one_by : (a b d : ℕ) → gcd a b ≡ 1 → d ∣ a → d ∣ b → d ∣ 1
dvd_one_by a b d one p q = subst (λ (t : ℕ). d ∣ t) one ((gcd-is a b).2 d p q)

pub coprime_by : (a b : ℕ) → ((d : ℕ) → d ∣ a → d ∣ b → d ∣ 1) → gcd a b ≡ 1
coprime_by a b h = let i : IsGcd a b (gcd a b) = gcd-is a b in dvd_antisymm (h (gcd a b) i.0 i.1) (one-dvd (gcd a b))

-- the size of Bezout's divisor is the greatest common divisor
pub bezout-abs : (a b : ℕ) (c : Bezout ℤR (pos a) (pos b)) → IsGcd a b (unsigned_abs c.g)
bezout-abs a b c = (
  dvd_abs c.g (pos a) (bezout_dvd ℤR (pos a) (pos b) c).0,
  dvd_abs c.g (pos b) (bezout_dvd ℤR (pos a) (pos b) c).1,
  λ d p q. dvd_abs (pos d) c.g (greatest ℤR (pos a) (pos b) (pos d) c (whole_dvd d a p) (whole_dvd d b q)),
)

unit_of : (g : ℤ) → (g ≡ pos 1) ⊎ (g ≡ negsuc 0) → Divides ℤR g (pos 1)
unit_of g (inl e) = rw e (record { cofactor = pos 1; is = refl })
unit_of g (inr e) = rw e (record { cofactor = negsuc 0; is = refl })

pub coprime_whole : (a b : ℕ) → gcd a b ≡ 1 → Coprime ℤR (pos a) (pos b)
coprime_whole a b one =
    let c = bezoutℤ (pos a) (pos b) in
    coprime_of_unit ℤR (pos a) (pos b) c (unit_of c.g (one_or_minus_one c.g (gcd_from_IsGcd a b (unsigned_abs c.g) (bezout-abs a b c) ∙ one)))

pub whole_coprime : (a b : ℕ) → Coprime ℤR (pos a) (pos b) → gcd a b ≡ 1
whole_coprime a b c = coprime_by a b (λ d p q. dvd_whole d 1 (coprime_unit ℤR (pos a) (pos b) (pos d) (whole_dvd d a p) (whole_dvd d b q) c))

pub dvd_of_coprime : (a b c : ℕ) → gcd a b ≡ 1 → a ∣ b * c → a ∣ c
dvd_of_coprime a b c one d = dvd_whole a c (gauss ℤR (pos a) (pos b) (pos c) (coprime_whole a b one) (whole_dvd a (b * c) d))

pub coprime_of_dvd : (a b d : ℕ) → gcd a b ≡ 1 → d ∣ a → gcd d b ≡ 1
coprime_of_dvd a b d one p = whole_coprime d b (coprime_dvd ℤR (pos a) (pos b) (pos d) (whole_dvd d a p) (coprime_whole a b one))

pub coprime-times : (a b c : ℕ) → gcd a c ≡ 1 → gcd b c ≡ 1 → gcd (a * b) c ≡ 1
coprime-times a b c p q =
    whole_coprime (a * b) c (coprime_symm ℤR (pos c) (pos a *ℤ pos b) (coprime-mul ℤR (pos c) (pos a) (pos b)
    (coprime_symm ℤR (pos a) (pos c) (coprime_whole a c p)) (coprime_symm ℤR (pos b) (pos c) (coprime_whole b c q))))

pub coprime_both : (a b c : ℕ) → gcd a b ≡ 1 → a ∣ c → b ∣ c → a * b ∣ c
coprime_both a b c one p q = dvd_whole (a * b) c (both_divide ℤR (pos a) (pos b) (pos c) (coprime_whole a b one) (whole_dvd a c p) (whole_dvd b c q))

pub lowest_same : (p p' : ℤ) (q q' : ℕ) → 0 < q → 0 < q' → Coprime ℤR p (pos q) → Coprime ℤR p' (pos q') → p *ℤ pos q' ≡ p' *ℤ pos q → (p ≡ p') × (q ≡ q')
lowest_same p p' q q' h h' c c' e =
    let s = lowest_sameℤ p (pos q) p' (pos q') (positive q h) (positive q' h') c c' e in
    (s.0, ap unsigned_abs s.1)
  where
    positive : (n : ℕ) → 0 < n → pos 0 <ℤ pos n
    positive n h = omega (arith, ints)

-- ---- The gcd itself

-- a common factor goes out
pub gcd-scaled : (c a b : ℕ) → 0 < c → IsGcd (c * a) (c * b) (c * gcd a b)
gcd-scaled c a b some =
    let k = bezoutℤ (pos a) (pos b) in
    subst (λ (g : ℕ). IsGcd (c * a) (c * b) g) (unsigned_abs-mul (pos c) k.g ∙ ap (λ (g : ℕ). c * g) (gcd_from_IsGcd a b (unsigned_abs k.g) (bezout-abs a b k)))
    (bezout-abs (c * a) (c * b) (bezout-scale ℤR (pos c) (pos a) (pos b) k))

pub gcd_comm : (a b : ℕ) → gcd a b ≡ gcd b a
gcd_comm a b = gcd_from_IsGcd b a (gcd a b) (IsGcd-swap a b _ (gcd-is a b))

pub gcd_positive : (a b : ℕ) → 0 < b → 0 < gcd a b
gcd_positive a b h = let d : gcd a b ∣ b = (gcd-is a b).1 in pos_of_dvd_of_pos d h

-- the parts that are left when the greatest common divisor is taken out are coprime
pub coprime_parts : (a b : ℕ) → 0 < b → gcd (a / gcd a b) (b / gcd a b) ≡ 1
coprime_parts a b h =
    let i : IsGcd a b (gcd a b) = gcd-is a b in
    let some : 0 < gcd a b = gcd_positive a b h in
    coprime_by (a / gcd a b) (b / gcd a b)
    (λ d p q.
    dvd_of_mul-dvd-mul_left d some
    (subst (λ (t : ℕ). gcd a b * d ∣ t) (sym (mul-one (gcd a b)))
    (i.2 (gcd a b * d)
    (subst (λ (t : ℕ). gcd a b * d ∣ t) (mul-div_cancel' (gcd a b) i.0) (mul-dvd-mul_left d (gcd a b) p))
    (subst (λ (t : ℕ). gcd a b * d ∣ t) (mul-div_cancel' (gcd a b) i.1) (mul-dvd-mul_left d (gcd a b) q)))))

-- one step of Euclid's loop, and its end
pub gcd_step : (a b : ℕ) → gcd b (a % b) ≡ gcd a b
gcd_step a b = gcd_from_IsGcd a b (gcd b (a % b)) (IsGcd-from_mod a b _ (gcd-is b (a % b)))

pub gcd_end : (a b : ℕ) → b ≡ 0 → gcd a b ≡ a
gcd_end a b e = sym (gcd_from_IsGcd a b a (IsGcd-from_zero a b e))

pub gcd_one_right : (a : ℕ) → gcd a 1 ≡ 1
gcd_one_right a = coprime_by a 1 (λ d p q. q)

pub gcd_le : (a b : ℕ) → 0 < b → gcd a b ≤ b
gcd_le a b h = le_of_dvd h (gcd-is a b).1
