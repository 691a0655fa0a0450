use Rattle.std.proofs.Common.{sym}
use Rattle.sg_num.specs.Value.{number}
use Rattle.sg_algebra.proofs.Rows.{at_read}
use Rattle.sg_spread.proofs.step.item.Goals as goal

pub returns : goal.returns
returns c = sym (at_read number c.args.row.now c.args.p c.index-row-p.result c.requires c.index-row-p.is)
