-- Whole roots.
--   IsRoot p m          the whole number m is a root of the polynomial with the coefficients p
--   whole_at c m        the value at m of the polynomial with the whole coefficients c
--   IsMultiple l d      l is a multiple of d
--   IsBound c b         each root of c is below b in size
--   AreRoots c low high r    r has, in ascending order, the roots of c from low on and below high
use Rattle.std.specs.Prelude.{◌≡◌, ◌≢◌, ℕ, ◌≤◌, List, ℤ, pos, ◌*ℤ◌, ◌≤ℤ◌, ◌<ℤ◌, unsigned_abs, AllPairs, Contains}
use Rattle.sg_algebra.specs.Coefficients.{eval}
use Rattle.sg_algebra.proofs.Whole.{ℤR}
use Rattle.sg_algebra.proofs.Value.{Value, zero_value}
use Rattle.sg_algebra.proofs.ValueField.{ValueR}
use Rattle.sg_algebra.proofs.Rational.{whole_value}

abbrev pub IsRoot : List (Value 0) → ℤ → Type 0
IsRoot p m = eval (ValueR 0) p (whole_value 0 m) ≡ zero_value

abbrev pub whole_at : List ℤ → ℤ → ℤ
whole_at c m = eval ℤR c m

abbrev pub IsMultiple : ℤ → ℕ → Type 0
IsMultiple l d = (k : ℤ) × (l ≡ k *ℤ pos d)

pub record IsBound (c : List ℤ) (b : ℕ) : Type 0 where
  pub away : (m : ℤ) → b ≤ unsigned_abs m → whole_at c m ≢ pos 0

pub record AreRoots (c : List ℤ) (low high : ℤ) (r : List ℤ) : Type 0 where
  pub ascending : AllPairs ◌<ℤ◌ r
  pub above : (m : ℤ) → Contains r m → low ≤ℤ m
  pub below : (m : ℤ) → Contains r m → m <ℤ high
  pub sound : (m : ℤ) → Contains r m → whole_at c m ≡ pos 0
  pub complete : (m : ℤ) → low ≤ℤ m → m <ℤ high → whole_at c m ≡ pos 0 → Contains r m
