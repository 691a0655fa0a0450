use Rattle.std.proofs.Common.{drop, length, ◌-◌}
use Rattle.sg_sums.specs.Polynomials.{PolyProduct}
use Rattle.sg_sums.proofs.polys.product.Given as goal

abbrev pub invariant-loop-i : goal.invariant-loop-i
invariant-loop-i g l = PolyProduct (g.T.Tower.reading g.T.K.Field.vars g.T.K.Field.val l.below) (drop (length l.x - l.i) l.x) l.y l.r
