use Rattle.std.proofs.Common.{◌≡◌, ℕ, ◌<◌, length}
use Rattle.sg_spec.specs.Parts.{plane_mul}
use Rattle.sg_parts.specs.Planes.{coefficient}
use Rattle.sg_parts.proofs.planes.plane_product.Given as goal

abbrev pub invariant-loop-place : goal.invariant-loop-place
invariant-loop-place l = record {
  size : length l.rows ≡ l.place;
  product : (i j : ℕ) → i < l.place → coefficient l.rows i j ≡ coefficient (plane_mul l.p l.q) i j;
}
