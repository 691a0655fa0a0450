use Rattle.sg_sums.proofs.Skipping.{difference_right}
use Rattle.sg_sums.proofs.polys.difference_of.Goals as goal

pub returns-then-is_zero-clause-value : goal.returns-then-is_zero-clause-value
returns-then-is_zero-clause-value g c = difference_right (g.T.Tower.reading g.T.K.Field.vars g.T.K.Field.val c.args.below.now) c.args.x.now c.args.y.now c.in_ok-a.a (c.is_zero.ensures.0 c.if-is_zero.true) c.in_ok-a.ensures.value
