use Rattle.std.proofs.Common.{◌≡◌, drop}
use Rattle.sg_parts.specs.Planes.{unless_none}
use Rattle.sg_parts.specs.Normal.{row_lead}
use Rattle.sg_parts.proofs.normal.row_lead_of.Given as goal

abbrev pub invariant-loop-c : goal.invariant-loop-c
invariant-loop-c l = unless_none (row_lead (drop l.c-index l.list)) l.lead ≡ row_lead l.list
