use Rattle.sg_num.proofs.Numbers.{number-plus}
use Rattle.sg_num.proofs.Terms.{plus-value}
use Rattle.std.proofs.Common.{ap, pos, ap₂, ◌+ℤ◌}
use Rattle.sg_num.specs.Value.{fraction}
use Rattle.sg_num.proofs.rat.Rat.plus.Goals as goal

pub returns-in-Some-sum-clause-value : goal.returns-in-Some-sum-clause-value
returns-in-Some-sum-clause-value c =
    plus-value (fraction c.args.self) (fraction c.args.other) (fraction c.in-Some-sum.result) (c.in-Some.common.left +ℤ c.in-Some.common.right) (pos c.in-Some.common.den)
    (ap₂ ◌+ℤ◌ c.in-Some.ensures.left c.in-Some.ensures.right) (ap pos c.in-Some.ensures.den) c.in-Some-sum.ensures.value

pub returns-in-Some-sum-clause-as_number : goal.returns-in-Some-sum-clause-as_number
returns-in-Some-sum-clause-as_number c = number-plus c.args.self c.args.other c.in-Some-sum.result (returns-in-Some-sum-clause-value c)
