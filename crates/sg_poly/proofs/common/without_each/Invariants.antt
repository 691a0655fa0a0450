use Rattle.std.proofs.Common.{map}
use Rattle.sg_algebra.proofs.Polynomial.{Polynomial, poly}
use Rattle.sg_poly.specs.Splits.{KeepsGcd}
use Rattle.sg_poly.proofs.common.without_each.Given as goal

abbrev pub invariant-loop-i : goal.invariant-loop-i
invariant-loop-i g l = (p q : Polynomial g.F.Field.vars) → KeepsGcd (poly (map g.F.Field.val l.fn.rests.common)) (poly (map g.F.Field.val l.fn.rests.left)) (poly (map g.F.Field.val l.fn.rests.right)) p q → KeepsGcd (poly (map g.F.Field.val l.left.common)) (poly (map g.F.Field.val l.left.left)) (poly (map g.F.Field.val l.left.right)) p q
