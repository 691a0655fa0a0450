use Rattle.std.proofs.Common.{take, map}
use Rattle.sg_algebra.proofs.Polynomial.{coefficient}
use Rattle.sg_sums.specs.Polynomials.{IsCombined}
use Rattle.sg_sums.proofs.powers.combined.Given as goal

abbrev pub invariant-loop-i : goal.invariant-loop-i
invariant-loop-i g l = IsCombined (g.T.Tower.reading g.T.K.Field.vars g.T.K.Field.val l.below) g.T.K.Field.val l.beta (coefficient (map g.T.K.Field.val l.cs)) (take l.i l.rows) l.sum
