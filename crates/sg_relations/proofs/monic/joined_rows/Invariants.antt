use Rattle.std.proofs.Common.{◌≡◌, take}
use Rattle.sg_relations.specs.Parts.{joined_from}
use Rattle.sg_relations.proofs.monic.joined_rows.Given as goal

abbrev pub invariant-loop-i : goal.invariant-loop-i
invariant-loop-i g l = l.rows ≡ joined_from l.factors 0 (take l.i l.others)
