use Rattle.std.proofs.Common.{◌∙◌, arith}
use Rattle.sg_num.proofs.Probed.{probed, taken_whole}
use Rattle.sg_num.proofs.rational.RatField.probe.Goals as goal

pub returns-clause-value : goal.returns-clause-value
returns-clause-value c = rw (c.new.ensures, c.loop-i.invariant ∙ taken_whole c.args.list.now c.loop-i.i (omega arith)) (probed c.args.list.now)
