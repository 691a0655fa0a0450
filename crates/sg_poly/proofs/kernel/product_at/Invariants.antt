use Rattle.std.proofs.Common.{map}
use Rattle.sg_algebra.proofs.Rows.{Product}
use Rattle.sg_poly.proofs.kernel.product_at.Given as goal

abbrev pub invariant-loop-j : goal.invariant-loop-j
invariant-loop-j g l = Product g.F.Field.val l.p (map g.F.Field.val l.q) l.n l.j (g.F.Field.val l.sum)

abbrev pub decreases-loop-j : goal.decreases-loop-j
decreases-loop-j g l = l.j
