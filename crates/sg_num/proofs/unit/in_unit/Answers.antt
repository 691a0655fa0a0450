use Rattle.std.proofs.Common.{arith}
use Rattle.sg_num.specs.Value.{number}
use Rattle.sg_num.proofs.Units.{unit_row}
use Rattle.sg_num.proofs.unit.in_unit.Goals as goal

pub returns-clause-value : goal.returns-clause-value
returns-clause-value c = unit_row (number c.args.c) c.args.list.now c.loop-i.row c.loop-i.i (omega arith) c.loop-i.invariant
