use Rattle.std.proofs.Common.{take}
use Rattle.sg_algebra.proofs.Place.{Pairwise}
use Rattle.sg_products.specs.Solving.{IsNextRow}
use Rattle.sg_products.proofs.solve.all_next.Given as goal

abbrev pub invariant-loop-i : goal.invariant-loop-i
invariant-loop-i g l = Pairwise (IsNextRow g.F.Field.val l.alphas l.e l.rows) (take l.i l.inner) l.new
