use Rattle.std.proofs.Common.{take, AllPairs, ◌<ℤ◌}
use Rattle.sg_spread.proofs.Lists.{Differs}
use Rattle.sg_spread.proofs.meetings.with_differences.Given as goal

abbrev pub invariant-loop-i : goal.invariant-loop-i
invariant-loop-i l = record {
  ascending : AllPairs ◌<ℤ◌ l.row;
  items : Differs l.fn.list l.r (take l.i l.s) l.row;
}
