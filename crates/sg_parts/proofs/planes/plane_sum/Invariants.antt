use Rattle.std.proofs.Common.{◌≡◌, ℕ, ◌<◌, length, ◌+ℤ◌, ◌*ℤ◌}
use Rattle.sg_parts.specs.Planes.{coefficient}
use Rattle.sg_parts.proofs.planes.plane_sum.Given as goal

abbrev pub invariant-loop-place : goal.invariant-loop-place
invariant-loop-place l = record {
  size : length l.rows ≡ l.place;
  sum : (i j : ℕ) → i < l.place → coefficient l.rows i j ≡ coefficient l.p i j +ℤ l.c *ℤ coefficient l.q i j;
}
