-- Where the values of a polynomial with whole coefficients keep their sign.
--   IsSameSign x y        both are below 0, both are 0, or both are above 0
--   reach                 2^125
--   IsSmall c             c is at most half of it in size
--   StandsFor h v         h is v, or both are at least 2^125, or both at most -2^125
--   KeepsSign c low high  from low on and below high the values of c have the sign of the value at low
--   IsMonotone c low high from low on and below high the values of c don't fall, or don't rise
--   ArePieces c low high s    the numbers of s ascend from low on; from each of them on and below the next, or high after the last, the values of c have
--                         one sign
--   AreMonotonePieces c low high s    the same, where on each piece the values don't fall, or don't rise
use Rattle.std.specs.Prelude.{◌≡◌, ℕ, ◌+◌, ◌*◌, ◌<◌, ◌≤◌, List, length, get_or, ℤ, pos, neg_ℤ, ◌≤ℤ◌, ◌<ℤ◌, unsigned_abs, ◌⊎◌}
use Rattle.sg_num.specs.Roots.{whole_at}

abbrev pub IsSameSign : ℤ → ℤ → Type 0
IsSameSign x y = ((x <ℤ pos 0) × (y <ℤ pos 0)) ⊎ (((x ≡ pos 0) × (y ≡ pos 0)) ⊎ ((pos 0 <ℤ x) × (pos 0 <ℤ y)))

abbrev pub reach : ℕ
reach = 42535295865117307932921825928971026432

abbrev pub IsSmall : ℤ → Type 0
IsSmall c = unsigned_abs c * 2 ≤ reach

abbrev pub StandsFor : ℤ → ℤ → Type 0
StandsFor h v = (h ≡ v) ⊎ (((pos reach ≤ℤ h) × (pos reach ≤ℤ v)) ⊎ ((h ≤ℤ neg_ℤ (pos reach)) × (v ≤ℤ neg_ℤ (pos reach))))

pub record KeepsSign (c : List ℤ) (low high : ℤ) : Type 0 where
  pub same : (m : ℤ) → low ≤ℤ m → m <ℤ high → IsSameSign (whole_at c low) (whole_at c m)

abbrev pub IsMonotone : List ℤ → ℤ → ℤ → Type 0
IsMonotone c low high = ((m n : ℤ) → low ≤ℤ m → m ≤ℤ n → n <ℤ high → whole_at c m ≤ℤ whole_at c n) ⊎ ((m n : ℤ) → low ≤ℤ m → m ≤ℤ n → n <ℤ high → whole_at c n ≤ℤ whole_at c m)

pub record ArePieces (c : List ℤ) (low high : ℤ) (s : List ℤ) : Type 0 where
  pub first : get_or s 0 high ≡ low
  pub up : (i : ℕ) → i < length s → get_or s i (pos 0) <ℤ get_or s (i + 1) high
  pub keeps : (i : ℕ) → i < length s → KeepsSign c (get_or s i (pos 0)) (get_or s (i + 1) high)

pub record AreMonotonePieces (c : List ℤ) (low high : ℤ) (s : List ℤ) : Type 0 where
  pub first : get_or s 0 high ≡ low
  pub up : (i : ℕ) → i < length s → get_or s i (pos 0) <ℤ get_or s (i + 1) high
  pub monotone : (i : ℕ) → i < length s → IsMonotone c (get_or s i (pos 0)) (get_or s (i + 1) high)
