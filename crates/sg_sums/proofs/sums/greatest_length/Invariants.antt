use Rattle.std.proofs.Common.{take}
use Rattle.sg_algebra.specs.Coefficients.{Each}
use Rattle.sg_sums.specs.Polynomials.{ZeroFrom}
use Rattle.sg_sums.proofs.sums.greatest_length.Given as goal

abbrev pub invariant-loop-i : goal.invariant-loop-i
invariant-loop-i g l = Each (λ f. ZeroFrom (g.T.Tower.reading g.T.K.Field.vars g.T.K.Field.val l.below) f l.most) (take l.i l.fs)
