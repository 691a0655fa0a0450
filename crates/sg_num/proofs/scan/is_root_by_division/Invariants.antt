use Rattle.std.proofs.Common.{◌≡◌, ◌↔◌, drop, pos, ◌+ℤ◌}
use Rattle.sg_num.specs.Roots.{whole_at}
use Rattle.sg_num.proofs.scan.is_root_by_division.Given as goal

abbrev pub invariant-loop-i : goal.invariant-loop-i
invariant-loop-i l = (whole_at l.list l.m ≡ pos 0) ↔ (l.carry +ℤ whole_at (drop l.i l.list) l.m ≡ pos 0)
