use Rattle.sg_tower_theory.proofs.Formal.{elements}
use Rattle.std.proofs.Common.{arith}
use Rattle.sg_sums.proofs.Building.{builds_push}
use Rattle.sg_sums.proofs.Steps.{low_built}
use Rattle.sg_sums.proofs.polys.low_difference.Goals as goal

pub loop-i-preserved : goal.loop-i-preserved
loop-i-preserved g c = builds_push (elements (g.T.Tower.reading g.T.K.Field.vars g.T.K.Field.val c.args.below.now).formal) (g.T.Tower.reading g.T.K.Field.vars g.T.K.Field.val c.args.below.now).of _ c.loop-i.i c.loop-i.r _ _ c.loop-i.invariant c.in_ok-difference_at.ensures.value c.in_ok-push.ensures.ok

pub returns-clause-value : goal.returns-clause-value
returns-clause-value g c = low_built (g.T.Tower.reading g.T.K.Field.vars g.T.K.Field.val c.args.below.now) c.args.x.now c.args.y.now c.loop-i.r c.loop-i.i c.args.n c.loop-i.invariant (omega arith)
