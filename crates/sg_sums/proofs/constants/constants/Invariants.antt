use Rattle.std.proofs.Common.{take}
use Rattle.sg_sums.specs.Polynomials.{IsTrivial}
use Rattle.sg_sums.proofs.constants.constants.Given as goal

abbrev pub invariant-loop-i : goal.invariant-loop-i
invariant-loop-i g l = IsTrivial (g.T.Tower.reading g.T.K.Field.vars g.T.K.Field.val l.below) g.T.K.Field.val l.ls (take l.i l.ls) l.rows
