use Rattle.std.proofs.Common.{◌≡◌, ℕ, ◌+◌, ◌*◌, ◌≤◌, drop, length, ◌+ℤ◌}
use Rattle.sg_spec.specs.Parts.{plane_mul}
use Rattle.sg_parts.specs.Planes.{row_size, plane_size, entry, coefficient, moved_row}
use Rattle.sg_parts.proofs.planes.product_row.Given as goal

abbrev pub invariant-loop-i : goal.invariant-loop-i
invariant-loop-i l = record {
  size : length l.row.items ≡ l.width;
  sum : (j : ℕ) → entry l.row.items j +ℤ entry (moved_row l.i (plane_mul (drop l.i l.p) l.q) l.place) j ≡ coefficient (plane_mul l.p l.q) l.place j;
  light : row_size l.row.items + plane_size (drop l.i l.p) * plane_size l.q ≤ plane_size l.p * plane_size l.q;
}
