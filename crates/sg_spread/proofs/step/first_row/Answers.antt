use Rattle.sg_algebra.proofs.Rows.{builds_push}
use Rattle.sg_num.specs.Value.{number}
use Rattle.sg_spread.proofs.step.first_row.Goals as goal

pub loop-p-preserved : goal.loop-p-preserved
loop-p-preserved c = builds_push number _ _ _ _ _ c.loop-p.invariant c.unit_item.ensures c.in_ok-push.ensures.ok
