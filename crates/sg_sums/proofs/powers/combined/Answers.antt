use Rattle.std.proofs.Common.{arith, map}
use Rattle.sg_algebra.proofs.Polynomial.{coefficient}
use Rattle.sg_sums.proofs.Steps.{combined_start, combined_next, combined_whole}
use Rattle.sg_sums.proofs.powers.combined.Goals as goal

pub loop-i-init : goal.loop-i-init
loop-i-init g c = combined_start (g.T.Tower.reading g.T.K.Field.vars g.T.K.Field.val c.args.below.now) g.T.K.Field.val _ _ _ c.new.ensures c.new-2.ensures c.new-3.ensures

pub loop-i-preserved : goal.loop-i-preserved
loop-i-preserved g c = combined_next (g.T.Tower.reading g.T.K.Field.vars g.T.K.Field.val c.args.below.now) g.T.K.Field.val _ (coefficient (map g.T.K.Field.val c.args.cs.now)) c.args.rows.now c.loop-i.i _ _ c.loop-i.sum _
    c.loop-i.invariant (omega arith) c.get.ensures c.in_ok-c.ensures.value c.in_ok-sum.ensures.value

pub returns-clause-value : goal.returns-clause-value
returns-clause-value g c = combined_whole (g.T.Tower.reading g.T.K.Field.vars g.T.K.Field.val c.args.below.now) g.T.K.Field.val _ (coefficient (map g.T.K.Field.val c.args.cs.now)) c.args.rows.now c.loop-i.i c.loop-i.sum c.loop-i.invariant (omega arith)
