use Rattle.std.proofs.Common.{◌≡◌, ℕ, ◌<◌, length, get_or, [], ◌*ℤ◌}
use Rattle.sg_parts.specs.Planes.{entry, coefficient}
use Rattle.sg_parts.proofs.normal.divided.Given as goal

abbrev pub invariant-loop-j : goal.invariant-loop-j
invariant-loop-j l = record {
  size : length l.rows ≡ l.j;
  divided : (k : ℕ) → k < l.j → (i : ℕ) → entry (get_or l.rows k []) i *ℤ l.divisor ≡ coefficient l.plane i k;
}
