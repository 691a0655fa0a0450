use Rattle.std.proofs.Common.{arith}
use Rattle.sg_sums.proofs.Shifting.{behind_is, product_start, product_next, product_end}
use Rattle.sg_sums.proofs.polys.product.Goals as goal

pub loop-i-init : goal.loop-i-init
loop-i-init g c = product_start (g.T.Tower.reading g.T.K.Field.vars g.T.K.Field.val c.args.below.now) c.args.x.now c.args.y.now c.new-r.result c.new-r.ensures

pub loop-i-preserved : goal.loop-i-preserved
loop-i-preserved g c = product_next (g.T.Tower.reading g.T.K.Field.vars g.T.K.Field.val c.args.below.now) c.args.x.now c.args.y.now c.loop-i.r c.in_ok-own.own c.in_ok-higher.higher c.in_ok-r.r _ c.loop-i.i c.get.result.now c.in_ok-zero.zero
    c.loop-i.invariant (omega arith) (omega arith) c.get.ensures c.in_ok-zero.ensures.value (behind_is (g.T.Tower.reading g.T.K.Field.vars g.T.K.Field.val c.args.below.now) c.in_ok-zero.zero c.loop-i.r c.in_ok-higher.higher c.in_ok-higher.ensures.value) c.in_ok-own.ensures.value c.in_ok-r.ensures.value

pub returns-clause-value : goal.returns-clause-value
returns-clause-value g c = product_end (g.T.Tower.reading g.T.K.Field.vars g.T.K.Field.val c.args.below.now) c.args.x.now c.args.y.now c.loop-i.r c.loop-i.i c.loop-i.invariant (omega arith)
