use Rattle.std.proofs.Common.{arith}
use Rattle.sg_sums.proofs.Trivial.{trivial_begin, trivial_next, trivial_whole}
use Rattle.sg_sums.proofs.constants.constants.Goals as goal

pub loop-i-init : goal.loop-i-init
loop-i-init g c = trivial_begin (g.T.Tower.reading g.T.K.Field.vars g.T.K.Field.val c.args.below.now) g.T.K.Field.val c.args.ls.now _ _ c.new.ensures c.in_ok-one.ensures.value (rw c.new-rows.ensures at c.in_ok-push.ensures.ok)

pub loop-i-preserved : goal.loop-i-preserved
loop-i-preserved g c = trivial_next (g.T.Tower.reading g.T.K.Field.vars g.T.K.Field.val c.args.below.now) g.T.K.Field.val c.args.ls.now c.loop-i.rows _ c.loop-i.i _ _ c.requires.zero c.loop-i.invariant (omega arith) c.get.ensures c.in_ok-coeffs.ensures.value c.in_ok-value.ensures.value c.in_ok-push-2.ensures.ok

pub returns-clause-value : goal.returns-clause-value
returns-clause-value g c = trivial_whole (g.T.Tower.reading g.T.K.Field.vars g.T.K.Field.val c.args.below.now) g.T.K.Field.val c.args.ls.now c.loop-i.rows c.loop-i.i c.loop-i.invariant (omega arith)
