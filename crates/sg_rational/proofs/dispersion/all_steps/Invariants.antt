use Rattle.std.proofs.Common.{◌≤◌, length}
use Rattle.sg_poly.specs.Polynomials.{polynomial}
use Rattle.sg_rational.specs.Reductions.{Advances}
use Rattle.sg_rational.proofs.Taking.{Done}
use Rattle.sg_rational.proofs.dispersion.all_steps.Given as goal

abbrev pub invariant-loop-i : goal.invariant-loop-i
invariant-loop-i g l = record {
  within : l.i ≤ length l.shifts;
  is : Advances (polynomial g.F.Field.val l.fn.given.a) (polynomial g.F.Field.val l.fn.given.b) (polynomial g.F.Field.val l.fn.given.lower) (polynomial g.F.Field.val l.fn.given.factor) (polynomial g.F.Field.val l.r.a) (polynomial g.F.Field.val l.r.b) (polynomial g.F.Field.val l.r.lower) (polynomial g.F.Field.val l.r.factor);
  done : Done l.shifts l.i (polynomial g.F.Field.val l.r.a) (polynomial g.F.Field.val l.r.b);
}

abbrev pub decreases-loop-i : goal.decreases-loop-i
decreases-loop-i g l = l.i
