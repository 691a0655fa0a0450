use Rattle.std.proofs.Common.{◌<◌, ◌+◌, ◌-◌}
use Rattle.sg_num.proofs.scan.bound.Given as goal

abbrev pub invariant-loop-b : goal.invariant-loop-b
invariant-loop-b l = 0 < l.b

abbrev pub decreases-loop-b : goal.decreases-loop-b
decreases-loop-b l = (l.most + 1) - l.b
