use Rattle.std.proofs.Common.{subst}
use Rattle.sg_poly.specs.Divisors.{IsGcd}
use Rattle.sg_poly.specs.Polynomials.{polynomial}
use Rattle.sg_rational.proofs.dispersion.shifted.Goals as goal

pub taken-requires-clause-common : goal.taken-requires-clause-common
taken-requires-clause-common g c =
    let v = g.F.Field.val in
    subst (λ x. IsGcd (polynomial v c.in_ok-e.e) (polynomial v c.args.given.now.a) x) c.in_ok-moved.ensures.value c.in_ok-e.ensures.divisor
