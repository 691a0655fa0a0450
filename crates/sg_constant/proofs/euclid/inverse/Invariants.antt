use Rattle.std.proofs.Common.{length, map}
use Rattle.sg_algebra.proofs.Coprime.{Coprime}
use Rattle.sg_algebra.proofs.Polynomial.{PolynomialR, poly}
use Rattle.sg_poly.specs.Divisors.{IsMonic}
use Rattle.sg_constant.specs.Multiples.{IsMultiple}
use Rattle.sg_constant.proofs.euclid.inverse.Given as goal

abbrev pub invariant-loop-alloc : goal.invariant-loop-alloc
invariant-loop-alloc g l = record {
  monic : IsMonic (map g.F.Field.val l.a.value);
  first : IsMultiple (poly (map g.F.Field.val l.fn.w)) (poly (map g.F.Field.val l.fn.u)) (poly (map g.F.Field.val l.a.value)) (poly (map g.F.Field.val l.a.factor));
  second : IsMultiple (poly (map g.F.Field.val l.fn.w)) (poly (map g.F.Field.val l.fn.u)) (poly (map g.F.Field.val l.b.value)) (poly (map g.F.Field.val l.b.factor));
  apart : Coprime (PolynomialR g.F.Field.vars) (poly (map g.F.Field.val l.a.value)) (poly (map g.F.Field.val l.b.value));
}

abbrev pub decreases-loop-alloc : goal.decreases-loop-alloc
decreases-loop-alloc g l = length l.b.value
