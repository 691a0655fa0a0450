use Rattle.std.proofs.Common.{pos, ◌-ℤ◌, unsigned_abs}
use Rattle.sg_ratfun.proofs.probe.found.Given as goal

abbrev pub decreases-loop-at : goal.decreases-loop-at
decreases-loop-at g l = unsigned_abs (pos 170141183460469231731687303715884105727 -ℤ l.at)
