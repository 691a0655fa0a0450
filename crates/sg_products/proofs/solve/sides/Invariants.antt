use Rattle.std.proofs.Common.{take}
use Rattle.sg_algebra.proofs.Place.{Pairwise}
use Rattle.sg_products.specs.Solving.{IsSide}
use Rattle.sg_products.proofs.solve.sides.Given as goal

abbrev pub invariant-loop-i : goal.invariant-loop-i
invariant-loop-i g l = Pairwise (IsSide g.F.Field.val l.alphas l.e) (take l.i l.rows) l.ls
