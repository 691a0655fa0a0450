use Rattle.std.proofs.Common.{arith}
use Rattle.sg_algebra.proofs.Tables.{each_push, row_read}
use Rattle.sg_poly.proofs.plane.fronts.Goals as goal

pub loop-i-preserved : goal.loop-i-preserved
loop-i-preserved c = each_push _ _ _ _ _ c.loop-i.invariant
    (rw (row_read c.args.rows.now c.loop-i.i c.index-rows-i.result (omega arith) c.index-rows-i.is, ← c.as_slice.ensures) c.in_ok-trimmed.ensures.value) c.in_ok-push.ensures.ok
