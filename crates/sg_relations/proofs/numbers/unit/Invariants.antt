use Rattle.std.proofs.Common.{◌≡◌, ◌<◌, ℕ, length, get_or, pos}
use Rattle.sg_relations.proofs.numbers.unit.Given as goal

abbrev pub invariant-loop-j : goal.invariant-loop-j
invariant-loop-j l = record {
  size : length l.row ≡ l.j;
  own : l.place < l.j → get_or l.row l.place (pos 0) ≡ l.e;
  other : (k : ℕ) → ¬ (k ≡ l.place) → get_or l.row k (pos 0) ≡ pos 0;
}
