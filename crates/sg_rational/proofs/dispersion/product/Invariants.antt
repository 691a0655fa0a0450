use Rattle.std.proofs.Common.{◌≡◌, ◌-◌, ◌<◌, ◌≤◌}
use Rattle.sg_algebra.proofs.Polynomial.{PolynomialD}
use Rattle.sg_poly.specs.Polynomials.{polynomial}
use Rattle.sg_first_order_theory.proofs.Next.{next, nextH}
use Rattle.sg_first_order_theory.proofs.Reduction.{images}
use Rattle.sg_rational.proofs.dispersion.product.Given as goal

abbrev pub invariant-loop-i : goal.invariant-loop-i
invariant-loop-i g l = record {
  some : 0 < l.i;
  within : l.i ≤ l.n;
  is : polynomial g.F.Field.val l.product ≡ next (images (PolynomialD g.F.Field.vars) (nextH g.F.Field.vars) (polynomial g.F.Field.val l.d) (l.i - 1));
}
