use Rattle.std.proofs.Common.{◌≡◌, ◌≤◌, drop, take}
use Rattle.sg_parts.specs.Planes.{greatest}
use Rattle.sg_parts.proofs.roots.greatest.Given as goal

abbrev pub invariant-loop-i : goal.invariant-loop-i
invariant-loop-i l = record {
  within : l.i ≤ l.n;
  size : l.size ≡ greatest (drop l.i (take l.n l.list));
}

abbrev pub decreases-loop-i : goal.decreases-loop-i
decreases-loop-i l = l.i
