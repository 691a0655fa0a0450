use Rattle.std.proofs.Common.{◌≡◌, ◌-◌, ◌≤◌, length, drop, ℤ, pos, ◌+ℤ◌, ◌-ℤ◌}
use Rattle.sg_num.specs.Roots.{whole_at}
use Rattle.sg_roots.proofs.differences.differences.Given as goal

-- the differences of the coefficients from i - 1 on
abbrev pub invariant-loop-i : goal.invariant-loop-i
invariant-loop-i l = record {
  within : l.i ≤ length l.list;
  short : length l.row ≤ length l.list - l.i;
  last : length l.row ≤ length l.list - 1;
  value : (m : ℤ) → whole_at l.row m ≡ whole_at (drop (l.i - 1) l.list) (m +ℤ pos 1) -ℤ whole_at (drop (l.i - 1) l.list) m;
}

abbrev pub decreases-loop-i : goal.decreases-loop-i
decreases-loop-i l = l.i
