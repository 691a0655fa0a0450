use Rattle.std.proofs.Common.{◌≡◌, take}
use Rattle.sg_relations.specs.Parts.{row_at}
use Rattle.sg_relations.proofs.monic.exponents_at.Given as goal

abbrev pub invariant-loop-c : goal.invariant-loop-c
invariant-loop-c g l = l.row ≡ row_at (take l.c l.factors) l.place
