use Rattle.sg_sums.proofs.Adding.{IsPartSum}
use Rattle.sg_sums.proofs.polys.onto.Given as goal

abbrev pub invariant-loop-i : goal.invariant-loop-i
invariant-loop-i g l = IsPartSum (g.T.Tower.reading g.T.K.Field.vars g.T.K.Field.val l.below) l.fn.x l.y l.i l.r
