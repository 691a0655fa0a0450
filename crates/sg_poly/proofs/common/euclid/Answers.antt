use Rattle.std.proofs.Common.{arith, map, IsTrue}
use Rattle.sg_algebra.proofs.Polynomial.{poly}
use Rattle.sg_poly.proofs.Dividers.{divisors_start, divisors_step, divisors_monic, divisors_nonzero, divisors_gcd}
use Rattle.sg_poly.proofs.common.euclid.Goals as goal

pub loop-b-init : goal.loop-b-init
loop-b-init g c = rw (c.in_ok-a.ensures.value, c.in_ok-b.ensures.value) (divisors_start (poly (map g.F.Field.val c.args.p.now)) (poly (map g.F.Field.val c.args.q.now)))

pub loop-b-preserved : goal.loop-b-preserved
loop-b-preserved g c = divisors_step _ _ _ _ _ _ (divisors_monic _ _ _ _ _ c.loop-b.invariant c.in_ok-divisor.ensures.divisors) c.in_ok-quotient.ensures.value

pub monic-requires-2 : goal.monic-requires-2
monic-requires-2 g c =
    let t : IsTrue c.is_zero.result = grind (arith, c.loop-b-test.false) in
    divisors_nonzero _ _ _ _ c.loop-b.invariant (c.is_zero.ensures.0 t) c.requires

pub returns-clause-divisor : goal.returns-clause-divisor
returns-clause-divisor g c =
    let t : IsTrue c.is_zero.result = grind (arith, c.loop-b-test.false) in
    divisors_gcd _ _ _ _ _ c.loop-b.invariant (c.is_zero.ensures.0 t) c.in_ok-r.ensures.divisors
