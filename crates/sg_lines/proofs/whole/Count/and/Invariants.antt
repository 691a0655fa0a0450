use Rattle.std.proofs.Common.{take}
use Rattle.sg_lines.specs.Counting.{IsAfter}
use Rattle.sg_lines.proofs.whole.Count.and.Given as goal

abbrev pub invariant-loop-b : goal.invariant-loop-b
invariant-loop-b l = IsAfter l.fn.self (take l.b-index l.text) l.count
