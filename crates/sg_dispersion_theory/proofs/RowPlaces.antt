-- The places of the entries of an array of e lines with d entries, in the row of all of them: (l, i) stands at l d + i.
--   place_below               the place of an entry is below d e
--   some_below                where there is a place, d and e aren't 0
--   line_below, column_below  the line p / d and the column p % d of a place p are within the array
--   place_is                  p is the place of its line and column
use Rattle.std.proofs.Common.{◌≡◌, ℕ, zero, suc, ◌+◌, ◌*◌, ◌/◌, ◌%◌, ◌<◌, ◌≤◌, arith}
use Rattle.std.proofs.Math.Nat.{div-lt_iff_lt-mul}

pub place_below : (l i d e : ℕ) → l < e → i < d → l * d + i < d * e
place_below l i d zero p q = absurd (omega arith)
place_below zero i d (suc e) p q = let h : d ≤ d * suc e = omega arith in omega arith
place_below (suc l) i d (suc e) p q = let h : l * d + i < d * e = place_below l i d e (omega arith) q in omega arith

pub some_below : (p d e : ℕ) → p < d * e → (0 < d) × (0 < e)
some_below p zero e h = absurd (omega arith)
some_below p (suc d) zero h = absurd (omega arith)
some_below p (suc d) (suc e) h = (omega arith, omega arith)

pub line_below : (p d e : ℕ) → p < d * e → p / d < e
line_below p d e h = (div-lt_iff_lt-mul (some_below p d e h).0).1 (omega arith)

pub column_below : (p d e : ℕ) → p < d * e → p % d < d
column_below p d e h = let l : 0 < d = (some_below p d e h).0 in omega arith

pub place_is : (p d : ℕ) → p / d * d + p % d ≡ p
place_is p d = omega arith
