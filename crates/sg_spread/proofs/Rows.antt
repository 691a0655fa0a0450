-- Rows of fractions that the steps build, and tests of lengths.
--   unit_past    past the place 0 a constant has the coefficient 0
--   more_is, is_more    whether there is more than one
--   not_both     a test and its opposite don't both hold
--   last_line    where the last line of a row of e lines begins
use Rattle.std.proofs.Common.{◌≡◌, ℕ, [], ◌∷◌, zero, suc, ◌+◌, ◌*◌, ◌-◌, ◌<◌, ◌≤◌, Bool, true, false, not, IsTrue, nat_lt, refl, arith}
use Rattle.std.proofs.lemmas.Bool.Decides.{nat_tests}
use Rattle.sg_algebra.proofs.Value.{Value, zero_value}
use Rattle.sg_algebra.proofs.Polynomial.{coefficient}

pub unit_past : (c : Value 0) (p : ℕ) → (p ≡ 0 → ⊥) → coefficient (c ∷ []) p ≡ zero_value
unit_past c zero h = absurd (h refl)
unit_past c (suc p) h = refl

pub last_line : (n d e i : ℕ) → n ≡ d * e → n - d + i ≡ (e - 1) * d + i
last_line n d zero i h = omega arith
last_line n d (suc e) i h = let k : suc e - 1 ≡ e = omega arith in rw k (omega arith)

pub more_is : (n : ℕ) → IsTrue (nat_lt 1 n) → 1 < n
more_is n h = grind (arith, nat_tests)

pub is_more : (n : ℕ) → (n ≤ 1 → ⊥) → IsTrue (nat_lt 1 n)
is_more n h = grind (arith, nat_tests)

pub not_both : (b : Bool) → IsTrue (not b) → IsTrue b → ⊥
not_both true h k = cc
not_both false h k = cc
