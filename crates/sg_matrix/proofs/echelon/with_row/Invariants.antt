use Rattle.sg_algebra.proofs.Tables.{Each}
use Rattle.sg_matrix.specs.Steps.{IsAfter}
use Rattle.sg_matrix.proofs.echelon.with_row.Given as goal

abbrev pub invariant-loop-i : goal.invariant-loop-i
invariant-loop-i g l = Each (IsAfter g.F.Field.val l.rows l.rest l.j l.place) l.i l.new
