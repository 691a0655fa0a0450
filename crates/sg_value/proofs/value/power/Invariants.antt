use Rattle.std.proofs.Common.{Some}
use Rattle.sg_spec.specs.Fraction.{Fraction}
use Rattle.sg_spec.specs.Value.{power_of}
use Rattle.sg_spec.specs.Steps.{power_steps}
use Rattle.sg_value.specs.declared.step.Outcome.TheVariants.{Value}
use Rattle.sg_value.specs.Answer.{Answers, Stands}
use Rattle.sg_value.proofs.value.power.Given as goal

abbrev pub invariant-loop-i : goal.invariant-loop-i
invariant-loop-i l = (y : Fraction) → Stands l.x (Some y) → Answers (Value l.so_far) (power_of (Some y) l._i) (power_steps (Some y) l._i)
