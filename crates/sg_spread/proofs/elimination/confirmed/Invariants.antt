use Rattle.std.proofs.Common.{map, take}
use Rattle.sg_spread.specs.Shifts.{AreShifts}
use Rattle.sg_spread.proofs.elimination.confirmed.Given as goal

abbrev pub invariant-loop-i : goal.invariant-loop-i
invariant-loop-i g l = AreShifts (map g.F.Field.val l.a) (map g.F.Field.val l.b) (take l.i l.candidates) l.shifts
