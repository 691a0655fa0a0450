use Rattle.std.proofs.Common.{ℤ, map, take}
use Rattle.sg_algebra.specs.Coefficients.{Each}
use Rattle.sg_spread.specs.Shifts.{Meets}
use Rattle.sg_constant.proofs.planning.first_met.Given as goal

abbrev pub invariant-loop-i : goal.invariant-loop-i
invariant-loop-i g l = Each (λ t. (m : ℤ) → ¬ Meets (map g.F.Field.val l.w) (map g.F.Field.val t.lower) m) (take l.i l.list)
