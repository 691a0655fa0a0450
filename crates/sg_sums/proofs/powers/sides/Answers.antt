use Rattle.std.proofs.Common.{arith}
use Rattle.sg_sums.proofs.Building.{pairwise_next, pairwise_whole}
use Rattle.sg_sums.proofs.powers.sides.Goals as goal

pub loop-i-preserved : goal.loop-i-preserved
loop-i-preserved g c = pairwise_next _ c.args.rows.now c.loop-i.ls _ c.loop-i.i _ _ c.loop-i.invariant (omega arith) c.get-row.ensures c.in_ok-coefficient.ensures.value c.in_ok-push.ensures.ok

pub returns-clause-value : goal.returns-clause-value
returns-clause-value g c = pairwise_whole _ c.args.rows.now c.loop-i.ls c.loop-i.i c.loop-i.invariant (omega arith)
