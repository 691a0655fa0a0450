use Rattle.std.proofs.Common.{ℤ, ◌<◌, ◌≤◌, length, drop, unsigned_abs}
use Rattle.sg_num.specs.Roots.{whole_at}
use Rattle.sg_num.proofs.scan.is_bound.Given as goal

abbrev pub invariant-loop-i : goal.invariant-loop-i
invariant-loop-i l = record {
  within : l.i < length l.list;
  away : (m : ℤ) → l.b ≤ unsigned_abs m → l.size ≤ unsigned_abs (whole_at (drop l.i l.list) m);
}

abbrev pub decreases-loop-i : goal.decreases-loop-i
decreases-loop-i l = l.i
