use Rattle.std.proofs.Common.{get_or, pos, neg_ℤ}
use Rattle.sg_num.specs.Roots.{AreRoots}
use Rattle.sg_roots.specs.Signs.{reach}
use Rattle.sg_roots.proofs.far.zeros.Given as goal

abbrev pub invariant-loop-i : goal.invariant-loop-i
invariant-loop-i l = AreRoots l.list (neg_ℤ (pos reach)) (get_or l.starts l.i (pos reach)) l.row
