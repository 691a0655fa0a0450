use Rattle.std.proofs.Common.{map, arith}
use Rattle.sg_algebra.proofs.Lists.{length_map}
use Rattle.sg_poly.proofs.Exact.{exact}
use Rattle.sg_poly.proofs.poly.Poly.exact.Goals as goal

pub returns-clause-value : goal.returns-clause-value
returns-clause-value g c =
    let v = g.F.Field.val in
    exact (map v c.args.self.now) (map v c.in_ok-quotient.quotient) (map v c.args.other.now) (map v c.in_ok-quotient._rest) c.coeffs-divisor.ensures.ends c.requires.some
    (omega (arith, length_map v c.in_ok-quotient._rest, length_map v c.args.other.now, c.in_ok-quotient.ensures.smaller)) c.in_ok-quotient.ensures.value c.requires.divides
