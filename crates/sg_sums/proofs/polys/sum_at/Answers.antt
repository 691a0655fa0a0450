use Rattle.std.proofs.Common.{arith}
use Rattle.sg_sums.proofs.Skipping.{sum_past_left, sum_past_right, sum_inside}
use Rattle.sg_sums.proofs.polys.sum_at.Goals as goal

pub returns-then-i-len-clause-value : goal.returns-then-i-len-clause-value
returns-then-i-len-clause-value g c = sum_past_left (g.T.Tower.reading g.T.K.Field.vars g.T.K.Field.val c.args.below.now) c.args.x.now c.args.y.now c.args.i c.in_ok-b.b (omega arith) c.in_ok-b.ensures.value

pub returns-then-i-len-2-clause-value : goal.returns-then-i-len-2-clause-value
returns-then-i-len-2-clause-value g c = sum_past_right (g.T.Tower.reading g.T.K.Field.vars g.T.K.Field.val c.args.below.now) c.args.x.now c.args.y.now c.args.i c.in_ok-a.a (omega arith) c.in_ok-a.ensures.value

pub returns-clause-value : goal.returns-clause-value
returns-clause-value g c = sum_inside (g.T.Tower.reading g.T.K.Field.vars g.T.K.Field.val c.args.below.now) c.args.x.now c.args.y.now c.args.i _ _ c.in_ok-r.r (omega arith) c.get.ensures (omega arith) c.get-2.ensures c.in_ok-r.ensures.value
