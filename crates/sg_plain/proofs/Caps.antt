-- Numbers cut at a cap, where it only matters whether they pass it.
--   cap-sum, cap-left, cap-product    what is added or multiplied may be cut first
--   cap-base                          so may the base of a power
--   cap-one, cap-next                 a power of 1; one more factor
--   cap-exponent                      the exponent may be cut where so high a power of any number above 1 passes the cap
use Rattle.std.proofs.Common.{◌≡◌, ℕ, zero, suc, ◌+◌, ◌*◌, ◌^◌, ◌≤◌, min, ◌⊎◌, inl, inr, sym, ap, ◌∙◌, arith, mul_comm}
use Rattle.std.proofs.Math.Nat.{pow-suc, pow-zero, pow-le-pow_left, pow-le-pow_right, mul-le-mul}

cut : (c m : ℕ) → (m ≤ c) ⊎ (c ≤ m)
cut zero m = inr (omega arith)
cut (suc c) zero = inl (omega arith)
cut (suc c) (suc m) = go (cut c m)
  where
    go : (m ≤ c) ⊎ (c ≤ m) → (suc m ≤ suc c) ⊎ (suc c ≤ suc m)
    go (inl h) = inl (omega arith)
    go (inr h) = inr (omega arith)

past : (c m n : ℕ) → c ≤ m → c ≤ n → min c m ≡ min c n
past c m n h k = omega arith

above : (c m n : ℕ) → c ≤ m → c ≤ m * suc n
above c m n h = let i : c * 1 ≤ m * suc n = mul-le-mul h (omega arith) in omega (arith, i)

pub cap-sum : (c m n : ℕ) → min c (min c m + min c n) ≡ min c (m + n)
cap-sum c m n = omega arith

pub cap-left : (c m n : ℕ) → min c (min c m * n) ≡ min c (m * n)
cap-left c m zero = omega arith
cap-left c m (suc n) = go (cut c m)
  where
    go : (m ≤ c) ⊎ (c ≤ m) → min c (min c m * suc n) ≡ min c (m * suc n)
    go (inl h) = let e : min c m ≡ m = omega arith in ap (λ (x : ℕ). min c (x * suc n)) e
    go (inr h) = past c (min c m * suc n) (m * suc n) (above c (min c m) n (omega arith)) (above c m n h)

pub cap-right : (c m n : ℕ) → min c (m * min c n) ≡ min c (m * n)
cap-right c m n = ap (min c) (mul_comm m (min c n)) ∙ cap-left c n m ∙ ap (min c) (mul_comm n m)

pub cap-product : (c m n : ℕ) → min c (min c m * min c n) ≡ min c (m * n)
cap-product c m n = cap-left c m (min c n) ∙ cap-right c m n

pub cap-base : (c w n : ℕ) → min c (min c w ^ n) ≡ min c (w ^ n)
cap-base c w zero = ap (min c) (pow-zero (min c w) ∙ sym (pow-zero w))
cap-base c w (suc n) =
    ap (min c) (pow-suc (min c w) n) ∙ sym (cap-left c (min c w ^ n) (min c w)) ∙ ap (λ (x : ℕ). min c (x * min c w)) (cap-base c w n)
    ∙ cap-left c (w ^ n) (min c w) ∙ cap-right c (w ^ n) w ∙ sym (ap (min c) (pow-suc w n))

pub cap-one : (w n : ℕ) → w ≡ 1 → 1 ≡ min 65537 (w ^ n)
cap-one w n h = ap (min 65537) (sym (ones n) ∙ ap (λ (x : ℕ). x ^ n) (sym h))
  where
    ones : (n : ℕ) → 1 ^ n ≡ 1
    ones zero = pow-zero 1
    ones (suc n) = pow-suc 1 n ∙ ap (λ (x : ℕ). x * 1) (ones n)

pub cap-next : (c w n p : ℕ) → p ≡ min c (w ^ n) → min c (p * w) ≡ min c (w ^ suc n)
cap-next c w n p h = ap (λ (x : ℕ). min c (x * w)) h ∙ cap-left c (w ^ n) w ∙ sym (ap (min c) (pow-suc w n))

pub cap-exponent : (w n : ℕ) → 2 ≤ w → min 65537 (w ^ min n 17) ≡ min 65537 (w ^ n)
cap-exponent w n h = go (cut 17 n)
  where
    go : (n ≤ 17) ⊎ (17 ≤ n) → min 65537 (w ^ min n 17) ≡ min 65537 (w ^ n)
    go (inl k) = let e : min n 17 ≡ n = omega arith in ap (λ (x : ℕ). min 65537 (w ^ x)) e
    go (inr k) =
        let e : min n 17 ≡ 17 = omega arith in
        let l : 2 ^ 17 ≤ w ^ 17 = pow-le-pow_left h 17 in
        let m : w ^ 17 ≤ w ^ n = pow-le-pow_right (omega arith) k in
        ap (λ (x : ℕ). min 65537 (w ^ x)) e ∙ past 65537 (w ^ 17) (w ^ n) (omega (arith, l)) (omega (arith, l, m))
