use Rattle.std.proofs.Common.{take}
use Rattle.sg_algebra.specs.Coefficients.{Each}
use Rattle.sg_tele.specs.Telescoping.{StartsWithZero}
use Rattle.sg_tele.proofs.antidifference.first_scaled.Given as goal

abbrev pub invariant-loop-i : goal.invariant-loop-i
invariant-loop-i g l = Each (StartsWithZero g.T.K.Field.val) (take l.i l.rows)
