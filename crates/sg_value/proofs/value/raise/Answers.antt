use Rattle.std.proofs.Common.{subst}
use Rattle.sg_spec.specs.Value.{val}
use Rattle.sg_spec.specs.Steps.{steps}
use Rattle.sg_value.specs.declared.step.Outcome.{Outcome}
use Rattle.sg_value.specs.Answer.{Answers}
use Rattle.sg_value.proofs.Folding.{raise-value, raise-none}
use Rattle.sg_value.proofs.value.raise.Goals as goal

pub returns-in-Value : goal.returns-in-Value
returns-in-Value c = λ t n k a.
    raise-value c.in-Value.x c.power.result (val t n k) (steps t n k) c.args.exponent
    (subst (λ (r : Outcome). Answers r (val t n k) (steps t n k)) c.in-Value.is a) c.power.ensures

pub returns-in-NoValue : goal.returns-in-NoValue
returns-in-NoValue c = λ t n k a.
    raise-none (val t n k) (steps t n k) c.args.exponent (subst (λ (r : Outcome). Answers r (val t n k) (steps t n k)) c.in-NoValue.is a)
