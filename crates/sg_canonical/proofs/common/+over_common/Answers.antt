use Rattle.std.proofs.Common.{FitsSigned, pos, ◌*ℤ◌, unsigned_abs, ap, ◌∙◌, rules}
use Rattle.std.proofs.lemmas.Int.{to_z-of_z}
use Rattle.std.specs.Int.{w128}
use Rattle.sg_spec.specs.Fraction.{whole}
use Rattle.sg_canonical.proofs.CommonDenominator.{common-none, common-more}
use Rattle.sg_canonical.proofs.common.+over_common.Goals as goal

pub returns-in-None-clause-common : goal.returns-in-None-clause-common
returns-in-None-clause-common t c = common-none c.args.list.now c.new.result c.in-None.ensures.cases c.new.ensures

pub returns-in_ok-all-in-Some-clause-common : goal.returns-in_ok-all-in-Some-clause-common
returns-in_ok-all-in-Some-clause-common t c =
    let fits : FitsSigned w128 c.in_ok-above-in-Some.above.denominator = search rules in
    common-more c.args.list.now c.in-Some.rest.now c.in-Some.c.now c.whole.result c.in_ok-more-in-Some.more c.in_ok-above-in-Some.above.numbers c.as_slice.result.now c.in_ok-all-in-Some.all.numbers
    c.in_ok-above-in-Some.above.denominator c.in_ok-all-in-Some.all.denominator c.in-Some.ensures.cases.0 c.in_ok-above-in-Some.ensures.common (c.whole.ensures.value ∙ ap whole (to_z-of_z w128 c.in_ok-above-in-Some.above.denominator fits))
    c.in_ok-more-in-Some.ensures.as_number c.as_slice.ensures c.in_ok-all-in-Some.ensures.numbers
    (c.in_ok-all-in-Some.ensures.denominator ∙ ap (λ z. z *ℤ pos (unsigned_abs c.in_ok-more-in-Some.more.den)) (to_z-of_z w128 c.in_ok-above-in-Some.above.denominator fits))
