use Rattle.std.proofs.Common.{take}
use Rattle.sg_spread.proofs.Lists.{Divided}
use Rattle.sg_spread.proofs.meetings.divided.Given as goal

abbrev pub invariant-loop-i : goal.invariant-loop-i
invariant-loop-i l = Divided l.c (take l.i l.list) l.row
