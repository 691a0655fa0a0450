use Rattle.std.proofs.Common.{◌≡◌, ◌↔◌, ◌+◌, ◌^◌, ◌<◌, drop, pos, ◌+ℤ◌, unsigned_abs}
use Rattle.sg_algebra.specs.Coefficients.{eval}
use Rattle.sg_algebra.proofs.Whole.{ℤR}
use Rattle.sg_parts.specs.Planes.{row_size}
use Rattle.sg_parts.proofs.roots.is_root.Given as goal

abbrev pub invariant-loop-i : goal.invariant-loop-i
invariant-loop-i l = record {
  value : (eval ℤR l.list l.m ≡ pos 0) ↔ (l.carry +ℤ eval ℤR (drop l.i l.list) l.m ≡ pos 0);
  small : unsigned_abs l.carry + row_size (drop l.i l.list) < 2 ^ 127;
}
