use Rattle.std.proofs.Common.{arith}
use Rattle.sg_sums.proofs.Shifting.{behind_is, shifted_start, shifted_next, shifted_end}
use Rattle.sg_sums.proofs.powers.shifted_poly.Goals as goal

pub loop-i-init : goal.loop-i-init
loop-i-init g c = shifted_start (g.T.Tower.reading g.T.K.Field.vars g.T.K.Field.val c.args.below.now) c.args.beta.now c.args.x.now c.new-r.result c.new-r.ensures

pub loop-i-preserved : goal.loop-i-preserved
loop-i-preserved g c = shifted_next (g.T.Tower.reading g.T.K.Field.vars g.T.K.Field.val c.args.below.now) c.args.beta.now c.args.x.now c.loop-i.r c.in_ok-moved.moved c.in_ok-product.product c.in_ok-r.r _ c.loop-i.i c.get.result.now c.in_ok-a.a c.in_ok-a.a
    c.loop-i.invariant (omega arith) (omega arith) c.get.ensures c.in_ok-a.ensures.value (behind_is (g.T.Tower.reading g.T.K.Field.vars g.T.K.Field.val c.args.below.now) c.in_ok-a.a c.loop-i.r c.in_ok-moved.moved c.in_ok-moved.ensures.value) c.in_ok-product.ensures.value c.in_ok-r.ensures.value

pub returns-clause-value : goal.returns-clause-value
returns-clause-value g c = shifted_end (g.T.Tower.reading g.T.K.Field.vars g.T.K.Field.val c.args.below.now) c.args.beta.now c.args.x.now c.loop-i.r c.loop-i.i c.loop-i.invariant (omega arith)
