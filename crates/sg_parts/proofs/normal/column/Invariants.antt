use Rattle.std.proofs.Common.{◌≡◌, ℕ, ◌<◌, length, get_or, pos, ◌*ℤ◌}
use Rattle.sg_parts.specs.Planes.{coefficient}
use Rattle.sg_parts.proofs.normal.column.Given as goal

abbrev pub invariant-loop-i : goal.invariant-loop-i
invariant-loop-i l = record {
  size : length l.row ≡ l.i;
  divided : (k : ℕ) → k < l.i → get_or l.row k (pos 0) *ℤ l.divisor ≡ coefficient l.plane k l.j;
}
