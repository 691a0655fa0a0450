use Rattle.std.proofs.Common.{map, arith}
use Rattle.sg_algebra.proofs.Lists.{length_map}
use Rattle.sg_algebra.proofs.Polynomial.{poly}
use Rattle.sg_constant.proofs.Numerators.{left_divides, rest_under}
use Rattle.sg_constant.proofs.splitting.left_upper.Goals as goal

pub returns-clause-value : goal.returns-clause-value
returns-clause-value g c =
    let v = g.F.Field.val in
    left_divides (poly (map v c.args.n.now)) (poly (map v c.args.u.now)) (poly (map v c.args.t.now)) (poly (map v c.in_ok-_quotient._quotient)) (poly (map v c.in_ok-_quotient.small)) (poly (map v c.in_ok-_multiple._multiple)) (poly (map v c.in_ok-_multiple.r)) (poly (map v c.in_ok-product.product))
    c.in_ok-_quotient.ensures.value c.in_ok-product.ensures.value c.in_ok-_multiple.ensures.value

pub returns-clause-under : goal.returns-clause-under
returns-clause-under g c =
    let v = g.F.Field.val in
    rest_under (map v c.args.u.now) (map v c.in_ok-_multiple.r) c.coeffs-divisor.ensures.ends
    (omega (arith, length_map v c.in_ok-_multiple.r, length_map v c.args.u.now, c.in_ok-_multiple.ensures.smaller))
