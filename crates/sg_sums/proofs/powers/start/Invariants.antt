use Rattle.std.proofs.Common.{take}
use Rattle.sg_sums.specs.Polynomials.{StartFrom}
use Rattle.sg_sums.proofs.powers.start.Given as goal

abbrev pub invariant-loop-i : goal.invariant-loop-i
invariant-loop-i g l = StartFrom (g.T.Tower.reading g.T.K.Field.vars g.T.K.Field.val l.below) g.T.K.Field.val l.beta l.fs 0 (take l.i l.fs) l.rows
