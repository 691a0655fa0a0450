use Rattle.sg_algebra.proofs.Linear.{unit}
use Rattle.sg_algebra.proofs.Rows.{Builds}
use Rattle.sg_matrix.proofs.constants.unit_row.Given as goal

abbrev pub invariant-loop-j : goal.invariant-loop-j
invariant-loop-j g l = Builds g.F.Field.val (unit l.i) l.j l.r
