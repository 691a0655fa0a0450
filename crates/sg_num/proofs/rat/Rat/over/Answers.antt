use Rattle.sg_num.proofs.Numbers.{number-over}
use Rattle.sg_num.proofs.Terms.{over-value}
use Rattle.sg_num.specs.Value.{fraction}
use Rattle.sg_algebra.proofs.Divisor.{gcd_comm}
use Rattle.std.proofs.Common.{◌∙◌}
use Rattle.sg_num.proofs.rat.Rat.over.Goals as goal

pub crossed-product-requires-clause-lowest : goal.crossed-product-requires-clause-lowest
crossed-product-requires-clause-lowest c =
    (rw (c.size.ensures, c.below.ensures.value) c.args.self.lowest, rw (c.size-2.ensures, c.below-2.ensures.value) (gcd_comm _ _ ∙ c.args.other.lowest))

pub returns-in-Some-clause-value : goal.returns-in-Some-clause-value
returns-in-Some-clause-value c = over-value (fraction c.args.self) (fraction c.args.other) (fraction c.in-Some.r) (let e = c.in-Some.ensures.value in cc)

pub returns-in-Some-clause-as_number : goal.returns-in-Some-clause-as_number
returns-in-Some-clause-as_number c = number-over c.args.self c.args.other c.in-Some.r c.requires (returns-in-Some-clause-value c)
