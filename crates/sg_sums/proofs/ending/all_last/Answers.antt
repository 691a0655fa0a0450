use Rattle.std.proofs.Common.{arith}
use Rattle.sg_sums.proofs.Building.{pairwise_next, pairwise_whole}
use Rattle.sg_sums.proofs.ending.all_last.Goals as goal

pub loop-i-preserved : goal.loop-i-preserved
loop-i-preserved g c = pairwise_next _ c.args.inner.now c.loop-i.new _ c.loop-i.i _ _ c.loop-i.invariant (omega arith) c.get.ensures c.in_ok-last.ensures.value c.in_ok-push.ensures.ok

pub returns-clause-value : goal.returns-clause-value
returns-clause-value g c = pairwise_whole _ c.args.inner.now c.loop-i.new c.loop-i.i c.loop-i.invariant (omega arith)
