use Rattle.sg_algebra.proofs.Rows.{Builds}
use Rattle.sg_matrix.specs.Systems.{IsEchelon}
use Rattle.sg_matrix.specs.Steps.{image}
use Rattle.sg_matrix.proofs.vectors.vector.Given as goal

abbrev pub invariant-loop-i : goal.invariant-loop-i
invariant-loop-i g l = (e : IsEchelon g.F.Field.val l.rows) → Builds g.F.Field.val (image g.F.Field.val l.rows e.pivot l.k) l.i l.r
