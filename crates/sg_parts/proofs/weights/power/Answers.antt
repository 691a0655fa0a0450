use Rattle.std.proofs.Common.{◌≤◌, ◌^◌, arith}
use Rattle.sg_parts.proofs.Weighing.{err_any, power_one, power_heavy}
use Rattle.sg_parts.proofs.weights.power.Goals as goal

pub returns-then-a-eq1-clause-power : goal.returns-then-a-eq1-clause-power
returns-then-a-eq1-clause-power c = (power_one c.args.a c.args.exponent c.if-a-eq1.true, omega arith)

pub returns-in_err-w-clause-heavy : goal.returns-in_err-w-clause-heavy
returns-in_err-w-clause-heavy c =
    err_any c.from_residual.result (2 ^ 127 ≤ c.args.a ^ c.args.exponent) (power_heavy c.args.a c.loop-i.w c.loop-i._i c.args.exponent c.requires.some c.loop-i.invariant.power c.loop-i-test.true c.in_err-w.ensures.heavy)
