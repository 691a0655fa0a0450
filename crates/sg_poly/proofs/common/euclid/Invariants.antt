use Rattle.std.proofs.Common.{length, map}
use Rattle.sg_algebra.proofs.Polynomial.{poly}
use Rattle.sg_poly.proofs.Dividers.{SameDivisors}
use Rattle.sg_poly.proofs.common.euclid.Given as goal

abbrev pub invariant-loop-b : goal.invariant-loop-b
invariant-loop-b g l = SameDivisors (poly (map g.F.Field.val l.a)) (poly (map g.F.Field.val l.b)) (poly (map g.F.Field.val l.p)) (poly (map g.F.Field.val l.q))

abbrev pub decreases-loop-b : goal.decreases-loop-b
decreases-loop-b g l = length l.b
