use Rattle.std.proofs.Common.{pos, subst}
use Rattle.sg_spec.specs.Fraction.{whole}
use Rattle.sg_spec.specs.Value.{val}
use Rattle.sg_spec.specs.Steps.{steps}
use Rattle.sg_value.specs.declared.step.Outcome.{Outcome}
use Rattle.sg_value.specs.Answer.{Answers}
use Rattle.sg_value.proofs.Joining.{opposite-value}
use Rattle.sg_value.proofs.Folding.{whole-stands}
use Rattle.sg_value.proofs.value.opposite.Goals as goal

pub returns-in-Value : goal.returns-in-Value
returns-in-Value c = λ t n k a.
    opposite-value c.in-Value.x c.operate.result (val t n k) (steps t n k)
    (subst (λ (r : Outcome). Answers r (val t n k) (steps t n k)) c.in-Value.is a)
    (λ y s. c.operate.ensures (whole (pos 0)) y (whole-stands c.whole.result (pos 0) c.whole.ensures.value) s)
