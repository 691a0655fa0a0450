use Rattle.std.proofs.Common.{◌∙◌, arith}
use Rattle.sg_tower_theory.proofs.Formal.{elements, shifted}
use Rattle.sg_sums.proofs.Building.{builds_push}
use Rattle.sg_sums.proofs.Skipping.{scaled_one}
use Rattle.sg_sums.proofs.Steps.{multiple_built, multiple_step}
use Rattle.sg_sums.proofs.polys.scaled.Goals as goal

pub loop-i-preserved : goal.loop-i-preserved
loop-i-preserved g c = builds_push (elements (g.T.Tower.reading g.T.K.Field.vars g.T.K.Field.val c.args.below.now).formal) (g.T.Tower.reading g.T.K.Field.vars g.T.K.Field.val c.args.below.now).of _ c.loop-i.i c.loop-i.r _ _ c.loop-i.invariant
    (multiple_step (g.T.Tower.reading g.T.K.Field.vars g.T.K.Field.val c.args.below.now) ((shifted (g.T.Tower.reading g.T.K.Field.vars g.T.K.Field.val c.args.below.now).formal).κ.on (g.T.K.Field.val c.args.c.now)) c.args.x.now c.loop-i.i c.get.result.now _ (omega arith) c.get.ensures c.in_ok-scale.ensures.value) c.in_ok-push.ensures.ok

pub returns-clause-value : goal.returns-clause-value
returns-clause-value g c = multiple_built (g.T.Tower.reading g.T.K.Field.vars g.T.K.Field.val c.args.below.now) ((shifted (g.T.Tower.reading g.T.K.Field.vars g.T.K.Field.val c.args.below.now).formal).κ.on (g.T.K.Field.val c.args.c.now)) c.args.x.now c.loop-i.r c.loop-i.i c.loop-i.invariant (omega arith)

pub returns-then-is_one-clause-value : goal.returns-then-is_one-clause-value
returns-then-is_one-clause-value g c = scaled_one (g.T.Tower.reading g.T.K.Field.vars g.T.K.Field.val c.args.below.now) (g.T.K.Field.val c.args.c.now) _ c.args.x.now _ (c.in_ok-is_one.ensures.value.0 c.if-is_one.true ∙ c.in_ok-one.ensures.value) c.new.ensures c.in_ok-same.ensures.value
