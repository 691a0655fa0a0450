use Rattle.sg_num.proofs.Terms.{positive-product, quotient-positive}
use Rattle.std.proofs.Common.{◌/◌}
use Rattle.sg_num.proofs.rat.Rat.over_common.Goals as goal

pub returns-clause-positive : goal.returns-clause-positive
returns-clause-positive c =
    let h = quotient-positive c.below-below.result c.below-other_below.result c.gcd_of-common.result c.gcd_of-common.ensures.value c.below-other_below.ensures.some in
    rw (c.in_ok-den.ensures.value, c.divided-scale.ensures) (positive-product c.below-below.result (c.below-other_below.result / c.gcd_of-common.result) c.below-below.ensures.some h)
