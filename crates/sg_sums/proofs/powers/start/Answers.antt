use Rattle.std.proofs.Common.{refl, arith}
use Rattle.sg_sums.proofs.Extending.{start_row, start_next, start_whole}
use Rattle.sg_sums.proofs.powers.start.Goals as goal

pub loop-i-preserved : goal.loop-i-preserved
loop-i-preserved g c = start_next (g.T.Tower.reading g.T.K.Field.vars g.T.K.Field.val c.args.below.now) g.T.K.Field.val c.args.beta.now c.args.fs.now c.loop-i.rows _ c.loop-i.i c.get.result.now _ c.loop-i.invariant (omega arith) c.get.ensures
    (start_row (g.T.Tower.reading g.T.K.Field.vars g.T.K.Field.val c.args.below.now) g.T.K.Field.val c.args.beta.now c.args.fs.now c.loop-i.i c.get.result.now c.row.result.now c.new-none.result c.in_ok-left.left _ (omega arith) c.get.ensures c.row.ensures c.new-none.ensures c.in_ok-coeffs.ensures.value refl c.in_ok-left.ensures.value)
    c.in_ok-push.ensures.ok

pub returns-clause-value : goal.returns-clause-value
returns-clause-value g c = start_whole (g.T.Tower.reading g.T.K.Field.vars g.T.K.Field.val c.args.below.now) g.T.K.Field.val c.args.beta.now c.args.fs.now c.loop-i.rows c.loop-i.i c.loop-i.invariant (omega arith)
