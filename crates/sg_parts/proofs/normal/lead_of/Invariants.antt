use Rattle.std.proofs.Common.{◌≡◌, drop}
use Rattle.sg_parts.specs.Planes.{unless_none}
use Rattle.sg_parts.specs.Normal.{plane_lead}
use Rattle.sg_parts.proofs.normal.lead_of.Given as goal

abbrev pub invariant-loop-row : goal.invariant-loop-row
invariant-loop-row l = unless_none (plane_lead (drop l.row-index l.rows)) l.lead ≡ plane_lead l.rows
