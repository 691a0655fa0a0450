use Rattle.std.proofs.Common.{take}
use Rattle.sg_constant.specs.Conditions.{AreConditions}
use Rattle.sg_constant.proofs.conditions.rows.Given as goal

abbrev pub invariant-loop-i : goal.invariant-loop-i
invariant-loop-i g l = AreConditions g.F.Field.val (take l.i l.list) l.rows
