use Rattle.sg_num.proofs.Numbers.{number-minus}
use Rattle.sg_num.proofs.Terms.{minus-value}
use Rattle.std.proofs.Common.{ap, pos, ap₂, ◌-ℤ◌}
use Rattle.sg_num.specs.Value.{fraction}
use Rattle.sg_num.proofs.rat.Rat.minus.Goals as goal

pub returns-in-Some-difference-clause-value : goal.returns-in-Some-difference-clause-value
returns-in-Some-difference-clause-value c =
    minus-value (fraction c.args.self) (fraction c.args.other) (fraction c.in-Some-difference.result) (c.in-Some.common.left -ℤ c.in-Some.common.right) (pos c.in-Some.common.den)
    (ap₂ ◌-ℤ◌ c.in-Some.ensures.left c.in-Some.ensures.right) (ap pos c.in-Some.ensures.den) c.in-Some-difference.ensures.value

pub returns-in-Some-difference-clause-as_number : goal.returns-in-Some-difference-clause-as_number
returns-in-Some-difference-clause-as_number c = number-minus c.args.self c.args.other c.in-Some-difference.result (returns-in-Some-difference-clause-value c)
