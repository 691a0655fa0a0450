use Rattle.std.proofs.Common.{arith}
use Rattle.sg_products.specs.Solving.{IsNextRow}
use Rattle.sg_products.proofs.Flattening.{pairwise_next, pairwise_whole}
use Rattle.sg_products.proofs.solve.all_next.Goals as goal

pub loop-i-init : goal.loop-i-init
loop-i-init g c = rw c.new-new.ensures tt

pub loop-i-preserved : goal.loop-i-preserved
loop-i-preserved g c = pairwise_next (IsNextRow g.F.Field.val c.args.alphas.now c.args.e.now c.args.rows.now) c.args.inner.now c.loop-i.new _ c.loop-i.i c.get.result.now c.in_ok-r.r c.loop-i.invariant (omega arith) c.get.ensures c.in_ok-r.ensures.value c.in_ok-push.ensures.ok

pub returns-clause-value : goal.returns-clause-value
returns-clause-value g c = pairwise_whole (IsNextRow g.F.Field.val c.args.alphas.now c.args.e.now c.args.rows.now) c.args.inner.now c.loop-i.new c.loop-i.i c.loop-i.invariant (omega arith)
