use Rattle.std.proofs.Common.{take, AllPairs, ◌<ℤ◌}
use Rattle.sg_spread.proofs.Lists.{AllDiffer}
use Rattle.sg_spread.proofs.meetings.with_all_differences.Given as goal

abbrev pub invariant-loop-i : goal.invariant-loop-i
invariant-loop-i l = record {
  ascending : AllPairs ◌<ℤ◌ l.row;
  items : AllDiffer l.fn.list (take l.i l.r) l.s l.row;
}
