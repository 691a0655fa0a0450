use Rattle.std.proofs.Common.{◌≤◌, length, drop}
use Rattle.sg_num.specs.Roots.{whole_at}
use Rattle.sg_roots.specs.Signs.{StandsFor}
use Rattle.sg_roots.proofs.signs.far_sign.Given as goal

abbrev pub invariant-loop-i : goal.invariant-loop-i
invariant-loop-i l = record {
  within : l.i ≤ length l.list;
  stands : StandsFor l.sign (whole_at (drop l.i l.list) l.x);
}

abbrev pub decreases-loop-i : goal.decreases-loop-i
decreases-loop-i l = l.i
