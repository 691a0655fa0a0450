use Rattle.std.proofs.Common.{arith}
use Rattle.sg_sums.proofs.Zeros.{zero_past}
use Rattle.sg_sums.proofs.sums.length_without_zeros.Goals as goal

pub returns : goal.returns
returns g c = zero_past (g.T.Tower.reading g.T.K.Field.vars g.T.K.Field.val c.args.below.now) c.args.p.now c.len.result (omega arith)
