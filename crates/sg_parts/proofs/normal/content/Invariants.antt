use Rattle.std.proofs.Common.{◌≡◌, drop}
use Rattle.sg_parts.specs.Normal.{plane_gcd}
use Rattle.sg_parts.proofs.normal.content.Given as goal

abbrev pub invariant-loop-row : goal.invariant-loop-row
invariant-loop-row l = plane_gcd l.g (drop l.row-index l.plane) ≡ plane_gcd 0 l.plane
