use Rattle.std.proofs.Common.{◌≡◌, ℕ, ◌<◌, ◌≤◌, ◌⊎◌, inl, inr, arith, length}
use Rattle.sg_algebra.proofs.Tables.{row_read}
use Rattle.sg_polynomial_tests.proofs.linear_systems.all_of_width.Goals as goal

split : (k n : ℕ) → (k < n) ⊎ (n ≤ k)
split k n = grind arith

pub loop-i-preserved : goal.loop-i-preserved
loop-i-preserved c j h = elim (split j c.loop-i.i) [
  | inl l ↦ c.loop-i.invariant j l
  | inr g ↦ let same : j ≡ c.loop-i.i = omega arith in
      let w : length c.get.result.now ≡ c.args.width = omega arith in
      rw (same, row_read c.args.rows.now c.loop-i.i c.get.result.now (omega arith) c.get.ensures) w
]
