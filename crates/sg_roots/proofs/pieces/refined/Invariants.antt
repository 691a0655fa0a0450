use Rattle.std.proofs.Common.{get_or, pos, neg_ℤ}
use Rattle.sg_roots.specs.Signs.{ArePieces, reach}
use Rattle.sg_roots.proofs.pieces.refined.Given as goal

abbrev pub invariant-loop-i : goal.invariant-loop-i
invariant-loop-i l = ArePieces l.list (neg_ℤ (pos reach)) (get_or l.coarse l.i (pos reach)) l.row
