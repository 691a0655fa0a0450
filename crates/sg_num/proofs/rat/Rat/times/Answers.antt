use Rattle.sg_num.proofs.Numbers.{number-times}
use Rattle.sg_num.proofs.Terms.{times-value}
use Rattle.sg_num.specs.Value.{fraction}
use Rattle.sg_num.proofs.rat.Rat.times.Goals as goal

pub returns-in-Some-clause-value : goal.returns-in-Some-clause-value
returns-in-Some-clause-value c = times-value (fraction c.args.self) (fraction c.args.other) (fraction c.in-Some.r) (let e = c.in-Some.ensures.value in cc)

pub returns-in-Some-clause-as_number : goal.returns-in-Some-clause-as_number
returns-in-Some-clause-as_number c = number-times c.args.self c.args.other c.in-Some.r (returns-in-Some-clause-value c)
