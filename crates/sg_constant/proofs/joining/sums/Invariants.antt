use Rattle.std.proofs.Common.{map, take}
use Rattle.sg_algebra.proofs.Polynomial.{poly}
use Rattle.sg_reduction_theory.proofs.Steps.{Adds}
use Rattle.sg_constant.specs.Shares.{polys}
use Rattle.sg_constant.proofs.joining.sums.Given as goal

abbrev pub invariant-loop-i : goal.invariant-loop-i
invariant-loop-i g l = Adds (poly (map g.F.Field.val l.x)) (poly (map g.F.Field.val l.y)) (polys g.F.Field.val l.sums) (polys g.F.Field.val (take l.i l.left)) (polys g.F.Field.val (take l.i l.right))
