use Rattle.std.proofs.Common.{map}
use Rattle.sg_algebra.proofs.Polynomial.{poly}
use Rattle.sg_constant.proofs.Reaching.{scaled_last}
use Rattle.sg_constant.proofs.euclid.normal.Goals as goal

pub returns-in_ok-factor-in-Some-clause-scaled : goal.returns-in_ok-factor-in-Some-clause-scaled
returns-in_ok-factor-in-Some-clause-scaled g c =
    let v = g.F.Field.val in
    scaled_last v c.args.m.now.value c.coeffs-list.result.now c.in-Some.last.now (v c.in_ok-one.one) (v c.in_ok-c-in-Some.c) (poly (map v c.in_ok-value.value)) (poly (map v c.args.m.now.factor)) (poly (map v c.in_ok-factor-in-Some.factor))
    c.coeffs-list.ensures.value c.coeffs-list.ensures.ends c.in-Some.ensures.item.1 c.in_ok-one.ensures.value c.in_ok-c-in-Some.ensures.value c.requires c.in_ok-value.ensures.value c.in_ok-factor-in-Some.ensures.value
