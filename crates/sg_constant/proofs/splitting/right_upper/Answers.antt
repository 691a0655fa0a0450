use Rattle.std.proofs.Common.{map}
use Rattle.sg_algebra.proofs.Polynomial.{poly}
use Rattle.sg_constant.proofs.Numerators.{difference_divides, right_is}
use Rattle.sg_constant.proofs.splitting.right_upper.Goals as goal

pub exact-requires-clause-divides : goal.exact-requires-clause-divides
exact-requires-clause-divides g c =
    let v = g.F.Field.val in
    difference_divides (poly (map v c.args.n.now)) (poly (map v c.args.x.now)) (poly (map v c.args.u.now)) (poly (map v c.args.v.now)) (poly (map v c.in_ok-product.product)) (poly (map v c.in_ok-difference.difference))
    c.in_ok-product.ensures.value c.in_ok-difference.ensures.value c.requires.divides

pub returns-clause-value : goal.returns-clause-value
returns-clause-value g c =
    let v = g.F.Field.val in
    right_is (poly (map v c.args.n.now)) (poly (map v c.args.x.now)) (poly (map v c.args.u.now)) (poly (map v c.args.v.now)) (poly (map v c.in_ok-product.product)) (poly (map v c.in_ok-difference.difference)) (poly (map v c.in_ok-r.r))
    c.in_ok-product.ensures.value c.in_ok-difference.ensures.value c.in_ok-r.ensures.value
