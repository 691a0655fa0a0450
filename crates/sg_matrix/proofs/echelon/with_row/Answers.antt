use Rattle.sg_algebra.proofs.Tables.{each_push}
use Rattle.sg_matrix.proofs.echelon.with_row.Goals as goal

pub loop-i-preserved : goal.loop-i-preserved
loop-i-preserved g c = each_push _ _ _ _ _ c.loop-i.invariant c.in_ok-row_after.ensures.value c.in_ok-push.ensures.ok
