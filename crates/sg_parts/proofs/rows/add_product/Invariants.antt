use Rattle.std.proofs.Common.{◌≡◌, ℕ, ◌+◌, ◌*◌, ◌≤◌, drop, length, ◌+ℤ◌}
use Rattle.sg_parts.specs.Planes.{row_size, entry, moved, row_product}
use Rattle.sg_parts.proofs.rows.add_product.Given as goal

abbrev pub invariant-loop-i : goal.invariant-loop-i
invariant-loop-i l = record {
  size : length l.row.items ≡ length l.fn.row.items;
  sum : (k : ℕ) → entry l.row.items k +ℤ moved l.i (row_product (drop l.i l.p) l.q) k ≡ entry l.fn.row.items k +ℤ entry (row_product l.p l.q) k;
  light : row_size l.row.items + row_size (drop l.i l.p) * row_size l.q ≤ row_size l.fn.row.items + row_size l.p * row_size l.q;
}
