use Rattle.std.proofs.Common.{◌≡◌, ◌≤◌, map, subst, length, arith}
use Rattle.sg_algebra.proofs.Coprime.{coprime_symm}
use Rattle.sg_algebra.proofs.Polynomial.{poly, PolynomialR}
use Rattle.sg_poly.proofs.Dividers.{monic_some}
use Rattle.sg_ratfun.proofs.Constants.{constant_apart, one_left}
use Rattle.sg_ratfun.proofs.Coprimes.{coprime_parts}
use Rattle.sg_ratfun.proofs.split.split.Goals as goal

pub gcd-requires : goal.gcd-requires
gcd-requires g c z = c.requires z.1

pub exact-requires : goal.exact-requires
exact-requires g c = record { some = monic_some (map g.F.Field.val c.in_ok-common.common) c.in_ok-common.ensures.monic; divides = c.in_ok-common.ensures.divisor.left }

pub exact-requires-2 : goal.exact-requires-2
exact-requires-2 g c = record { some = monic_some (map g.F.Field.val c.in_ok-common.common) c.in_ok-common.ensures.monic; divides = c.in_ok-common.ensures.divisor.right }

pub returns-clause-coprime : goal.returns-clause-coprime
returns-clause-coprime g c =
    let v = g.F.Field.val in
    coprime_parts (poly (map v c.args.p.now)) (poly (map v c.args.q.now)) (poly (map v c.in_ok-common.common)) (map v c.in_ok-left.left) (map v c.in_ok-right.right)
    c.in_ok-common.ensures.divisor (monic_some (map v c.in_ok-common.common) c.in_ok-common.ensures.monic) c.in_ok-left.ensures.value c.in_ok-right.ensures.value

pub apart-requires : goal.apart-requires
apart-requires g c =
    let one : length c.args.p.now ≡ 1 = subst (λ xs. length xs ≡ 1) c.coeffs.ensures.value (omega (arith, c.if-coeffs-eq1.true)) in
    coprime_symm (PolynomialR _) (poly (map g.F.Field.val c.args.q.now)) (poly (map g.F.Field.val c.args.p.now))
    (constant_apart g.F.Field.val (poly (map g.F.Field.val c.args.q.now)) c.args.p.now (omega (arith, one))
    (one_left g.F.Field.val c.args.p.now one c.coeffs.ensures.ends))

pub apart-requires-then-coeffs-lt2 : goal.apart-requires-then-coeffs-lt2
apart-requires-then-coeffs-lt2 g c =
    let few : length c.args.q.now ≤ 1 = subst (λ xs. length xs ≤ 1) c.coeffs-2.ensures.value (omega (arith, c.if-coeffs-lt2.true)) in
    constant_apart g.F.Field.val (poly (map g.F.Field.val c.args.p.now)) c.args.q.now few c.requires
