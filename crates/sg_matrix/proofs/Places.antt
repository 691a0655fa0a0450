-- The places of a list when an item is put in at the place a: the item i goes to `skip a i`.
--   spot_of             each place is a, or where an old item went; skip_inside, skip_room: within bounds
--   skip_above, skip_below, skip_order    the order of places is that of the old ones; skip_same, skip_low, skip_high
--   spot a j p          the function p with j put in at a: spot_own, spot_skip
use Rattle.std.proofs.Common.{◌≡◌, ℕ, zero, suc, ◌+◌, ◌<◌, ◌≤◌, refl, ap, ◌⊎◌, inl, inr, arith}
use Rattle.sg_algebra.proofs.Tables.{skip}

pub spot_of : (a i : ℕ) → (i ≡ a) ⊎ ((m : ℕ) × (i ≡ skip a m))
spot_of zero zero = inl refl
spot_of zero (suc i) = inr (i, refl)
spot_of (suc a) zero = inr (0, refl)
spot_of (suc a) (suc i) = up (spot_of a i)
  where
    up : (i ≡ a) ⊎ ((m : ℕ) × (i ≡ skip a m)) → (suc i ≡ suc a) ⊎ ((m : ℕ) × (suc i ≡ skip (suc a) m))
    up (inl e) = inl (ap suc e)
    up (inr s) = inr (suc s.0, ap suc s.1)

pub skip_inside : (a m n : ℕ) → a ≤ n → skip a m < n + 1 → m < n
skip_inside zero m n h l = omega arith
skip_inside (suc a) zero n h l = omega arith
skip_inside (suc a) (suc m) zero h l = absurd (omega arith)
skip_inside (suc a) (suc m) (suc n) h l = let r : m < n = skip_inside a m n (omega arith) (omega arith) in omega arith

pub skip_room : (a m n : ℕ) → m < n → skip a m < n + 1
skip_room zero m n l = omega arith
skip_room (suc a) zero n l = omega arith
skip_room (suc a) (suc m) zero l = absurd (omega arith)
skip_room (suc a) (suc m) (suc n) l = let r : skip a m < n + 1 = skip_room a m n (omega arith) in omega arith

pub skip_above : (a m : ℕ) → a < skip a m → a ≤ m
skip_above zero m h = omega arith
skip_above (suc a) zero h = absurd (omega arith)
skip_above (suc a) (suc m) h = let r : a ≤ m = skip_above a m (omega arith) in omega arith

pub skip_below : (a m : ℕ) → skip a m < a → m < a
skip_below zero m h = absurd (omega arith)
skip_below (suc a) zero h = omega arith
skip_below (suc a) (suc m) h = let r : m < a = skip_below a m (omega arith) in omega arith

pub skip_order : (a m n : ℕ) → skip a m < skip a n → m < n
skip_order zero m n h = omega arith
skip_order (suc a) zero zero h = absurd (omega arith)
skip_order (suc a) zero (suc n) h = omega arith
skip_order (suc a) (suc m) zero h = absurd (omega arith)
skip_order (suc a) (suc m) (suc n) h = let r : m < n = skip_order a m n (omega arith) in omega arith

pub skip_same : (a m n : ℕ) → skip a m ≡ skip a n → m ≡ n
skip_same zero m n h = omega arith
skip_same (suc a) zero zero h = refl
skip_same (suc a) zero (suc n) h = absurd (omega arith)
skip_same (suc a) (suc m) zero h = absurd (omega arith)
skip_same (suc a) (suc m) (suc n) h = ap suc (skip_same a m n (omega arith))

-- the place where the item m of the old list stands: itself below a, else one more
pub skip_low : (a m : ℕ) → m < a → m ≡ skip a m
skip_low zero m h = absurd (omega arith)
skip_low (suc a) zero h = refl
skip_low (suc a) (suc m) h = ap suc (skip_low a m (omega arith))

pub skip_high : (a m : ℕ) → a ≤ m → suc m ≡ skip a m
skip_high zero m h = refl
skip_high (suc a) zero h = absurd (omega arith)
skip_high (suc a) (suc m) h = ap suc (skip_high a m (omega arith))

pub spot : ℕ → ℕ → (ℕ → ℕ) → ℕ → ℕ
spot zero j p zero = j
spot zero j p (suc i) = p i
spot (suc a) j p zero = p 0
spot (suc a) j p (suc i) = spot a j (λ m. p (suc m)) i

pub spot_own : (a j : ℕ) (p : ℕ → ℕ) → spot a j p a ≡ j
unfolding spot
spot_own zero j p = refl
spot_own (suc a) j p = spot_own a j (λ m. p (suc m))

pub spot_skip : (a j : ℕ) (p : ℕ → ℕ) (m : ℕ) → spot a j p (skip a m) ≡ p m
unfolding spot
spot_skip zero j p m = refl
spot_skip (suc a) j p zero = refl
spot_skip (suc a) j p (suc m) = spot_skip a j (λ i. p (suc i)) m
