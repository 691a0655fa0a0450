use Rattle.std.proofs.Common.{map}
use Rattle.sg_algebra.proofs.Polynomial.{coefficient}
use Rattle.sg_algebra.proofs.Rows.{Builds}
use Rattle.sg_matrix.proofs.rows.copied.Given as goal

abbrev pub invariant-loop-i : goal.invariant-loop-i
invariant-loop-i g l = Builds g.F.Field.val (λ k. coefficient (map g.F.Field.val l.r) k) l.i l.row
