use Rattle.std.proofs.Common.{refl}
use Rattle.sg_bottom.proofs.Solving.{raised_next}
use Rattle.sg_bottom.proofs.functions.raised.Goals as goal

pub loop-row-preserved : goal.loop-row-preserved
loop-row-preserved g c = raised_next g.F.Field.val c.loop-row.yielded c.loop-row.elements _ c.in-Some.row _ c.loop-row.invariant refl c.in_ok-value.ensures.value c.in_ok-push.ensures.ok
