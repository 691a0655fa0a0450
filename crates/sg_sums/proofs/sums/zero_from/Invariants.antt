use Rattle.sg_sums.proofs.Zeros.{ZeroTo}
use Rattle.sg_sums.proofs.sums.zero_from.Given as goal

abbrev pub invariant-loop-i : goal.invariant-loop-i
invariant-loop-i g l = ZeroTo (g.T.Tower.reading g.T.K.Field.vars g.T.K.Field.val l.below) l.p l.n l.i
