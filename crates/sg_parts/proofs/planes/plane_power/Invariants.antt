use Rattle.sg_spec.specs.Parts.{plane_power}
use Rattle.sg_parts.specs.Planes.{SamePlane}
use Rattle.sg_parts.proofs.planes.plane_power.Given as goal

abbrev pub invariant-loop-i : goal.invariant-loop-i
invariant-loop-i l = SamePlane l.power (plane_power l.base l._i)
