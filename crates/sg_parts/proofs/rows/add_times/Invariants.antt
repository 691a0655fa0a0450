use Rattle.std.proofs.Common.{◌≡◌, ℕ, ◌+◌, ◌*◌, ◌≤◌, drop, length, ◌+ℤ◌, ◌*ℤ◌, unsigned_abs}
use Rattle.sg_parts.specs.Planes.{row_size, entry, moved}
use Rattle.sg_parts.proofs.rows.add_times.Given as goal

abbrev pub invariant-loop-j : goal.invariant-loop-j
invariant-loop-j l = record {
  size : length l.row.items ≡ length l.fn.row.items;
  sum : (i : ℕ) → entry l.row.items i +ℤ l.c *ℤ moved (l.at + l.j) (drop l.j l.list) i ≡ entry l.fn.row.items i +ℤ l.c *ℤ moved l.at l.list i;
  light : row_size l.row.items + unsigned_abs l.c * row_size (drop l.j l.list) ≤ row_size l.fn.row.items + unsigned_abs l.c * row_size l.list;
}
