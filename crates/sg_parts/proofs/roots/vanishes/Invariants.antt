use Rattle.std.proofs.Common.{◌↔◌, ◌^◌, ◌<◌, drop}
use Rattle.sg_parts.specs.Planes.{plane_size}
use Rattle.sg_parts.specs.Planes.{VanishesAt}
use Rattle.sg_parts.proofs.roots.vanishes.Given as goal

abbrev pub invariant-loop-i : goal.invariant-loop-i
invariant-loop-i l = record {
  value : VanishesAt l.plane l.m ↔ VanishesAt (drop l.i l.plane) l.m;
  small : plane_size (drop l.i l.plane) < 2 ^ 127;
}
