use Rattle.std.proofs.Common.{arith}
use Rattle.sg_sums.proofs.Zeros.{zeros_next, zeros_whole}
use Rattle.sg_sums.proofs.sums.greatest_length.Goals as goal

pub loop-i-preserved : goal.loop-i-preserved
loop-i-preserved g c = zeros_next (g.T.Tower.reading g.T.K.Field.vars g.T.K.Field.val c.args.below.now) c.args.fs.now c.loop-i.i c.get.result.now c.row.result.now c.loop-i.most c.length_without_zeros-own.result _ c.loop-i.invariant (omega arith) c.get.ensures c.row.ensures c.length_without_zeros-own.ensures (omega arith) (omega arith)

pub returns : goal.returns
returns g c = zeros_whole (g.T.Tower.reading g.T.K.Field.vars g.T.K.Field.val c.args.below.now) c.args.fs.now c.loop-i.i c.loop-i.most c.loop-i.invariant (omega arith)
