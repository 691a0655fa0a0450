use Rattle.std.proofs.Common.{◌≡◌, ℕ, length, pos}
use Rattle.sg_parts.specs.Planes.{row_size, entry}
use Rattle.sg_parts.proofs.rows.zeros.Given as goal

abbrev pub invariant-loop-i : goal.invariant-loop-i
invariant-loop-i l = record {
  size : length l.row.items ≡ l._i;
  zeros : (i : ℕ) → entry l.row.items i ≡ pos 0;
  light : row_size l.row.items ≡ 0;
}
