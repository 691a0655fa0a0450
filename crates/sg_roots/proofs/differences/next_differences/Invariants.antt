use Rattle.std.proofs.Common.{◌≡◌, ℕ, ◌<◌, length, get_or, pos}
use Rattle.sg_roots.proofs.Neighbours.{entry_of}
use Rattle.sg_roots.proofs.differences.next_differences.Given as goal

abbrev pub invariant-loop-j : goal.invariant-loop-j
invariant-loop-j l = record {
  size : length l.row ≡ l.j;
  each : (i : ℕ) → i < length l.row → get_or l.row i (pos 0) ≡ entry_of l.q l.d i;
}
