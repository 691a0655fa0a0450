use Rattle.std.proofs.Common.{◌≡◌, map, take, length}
use Rattle.sg_algebra.proofs.Polynomial.{◌*ᵖ◌}
use Rattle.sg_poly.specs.Polynomials.{polynomial}
use Rattle.sg_ratfun.specs.Fractions.{ratio}
use Rattle.sg_first_order_theory.proofs.Weighted.{Cleared}
use Rattle.sg_rational.proofs.ansatz.sides.Given as goal

abbrev pub invariant-loop-i : goal.invariant-loop-i
invariant-loop-i g l = record {
  value : Cleared (polynomial g.F.Field.val l.factor *ᵖ polynomial g.F.Field.val l.v) (map (ratio g.F.Field.val) (take l.i l.fs)) (map (polynomial g.F.Field.val) l.list);
  size : length l.list ≡ l.i;
}
