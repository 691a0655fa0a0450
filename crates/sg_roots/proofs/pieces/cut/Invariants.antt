use Rattle.std.proofs.Common.{pos, neg_ℤ, ◌-ℤ◌, ◌≤ℤ◌, unsigned_abs}
use Rattle.sg_roots.specs.Signs.{ArePieces, reach}
use Rattle.sg_roots.proofs.pieces.cut.Given as goal

abbrev pub invariant-loop-at : goal.invariant-loop-at
invariant-loop-at l = record {
  from : l.low ≤ℤ l.at;
  to : l.at ≤ℤ l.high;
  pieces : ArePieces l.list (neg_ℤ (pos reach)) l.low l.initial.row → ArePieces l.list (neg_ℤ (pos reach)) l.at l.row;
}

abbrev pub decreases-loop-at : goal.decreases-loop-at
decreases-loop-at l = unsigned_abs (l.high -ℤ l.at)
