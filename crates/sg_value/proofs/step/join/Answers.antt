use Rattle.std.proofs.Common.{subst}
use Rattle.sg_value.specs.declared.step.Outcome.{Outcome}
use Rattle.sg_value.specs.Answer.{Answers, operation_of}
use Rattle.sg_value.proofs.Joining.{join-value, join-none, join-wide}
use Rattle.sg_value.proofs.step.join.Goals as goal

pub returns-in-Value : goal.returns-in-Value
returns-in-Value c = λ u v us vs a b.
    join-value (operation_of c.args.op) c.args.left c.in-Value.right c.operate.result u v us vs a
    (subst (λ (r : Outcome). Answers r v vs) c.in-Value.is b) c.operate.ensures

pub returns-in-NoValue : goal.returns-in-NoValue
returns-in-NoValue c = λ u v us vs a b.
    join-none (operation_of c.args.op) c.args.left u v us vs a (subst (λ (r : Outcome). Answers r v vs) c.in-NoValue.is b)

pub returns-in-TooWide : goal.returns-in-TooWide
returns-in-TooWide c = λ u v us vs a b.
    join-wide (operation_of c.args.op) c.args.left c.in-TooWide.wide u v us vs a (subst (λ (r : Outcome). Answers r v vs) c.in-TooWide.is b)
