use Rattle.std.proofs.Common.{◌≡◌, ◌≤◌, ◌+◌, ℕ, suc, Some, subst, arith}
use Rattle.sg_value.specs.declared.step.Outcome.{Outcome}
use Rattle.sg_value.specs.declared.step.Outcome.TheVariants.{Value}
use Rattle.sg_spec.specs.Fraction.{Fraction}
use Rattle.sg_spec.specs.Value.{power_of}
use Rattle.sg_spec.specs.Steps.{power_steps}
use Rattle.sg_value.specs.Answer.{Answers}
use Rattle.sg_value.proofs.Folding.{power-step, power-ends}
use Rattle.sg_value.proofs.value.power.Goals as goal

abbrev powers : Outcome → Fraction → ℕ → Type 0
powers r y i = Answers r (power_of (Some y) i) (power_steps (Some y) i)

pub returns-in_default : goal.returns-in_default
returns-in_default c = λ y s.
    let next = power-step c.args.x c.loop-i.so_far c.operate.result y c.loop-i._i (c.loop-i.invariant y s) s c.operate.ensures in
    let more : suc c.loop-i._i ≤ c.args.exponent = omega arith in
    power-ends y (suc c.loop-i._i) c.args.exponent c.operate.result c.in_default.not-Value more next

pub loop-i-preserved : goal.loop-i-preserved
loop-i-preserved c = λ y s.
    let a = power-step c.args.x c.loop-i.so_far c.operate.result y c.loop-i._i (c.loop-i.invariant y s) s c.operate.ensures in
    let b = subst (λ (r : Outcome). powers r y (suc c.loop-i._i)) c.in-Value.is a in
    let e : suc c.loop-i._i ≡ c.loop-i._i + 1 = omega arith in
    subst (λ (i : ℕ). powers (Value c.in-Value.next) y i) e b

pub returns : goal.returns
returns c = λ y s.
    let e : c.loop-i._i ≡ c.args.exponent = omega arith in
    subst (λ (i : ℕ). powers (Value c.loop-i.so_far) y i) e (c.loop-i.invariant y s)
