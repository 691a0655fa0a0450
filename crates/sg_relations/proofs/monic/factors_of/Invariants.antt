use Rattle.std.proofs.Common.{length}
use Rattle.sg_relations.specs.Parts.{IsReached}
use Rattle.sg_relations.proofs.monic.factors_of.Given as goal

abbrev pub invariant-loop-i : goal.invariant-loop-i
invariant-loop-i g l = IsReached g.F.Field.val (length l.list) l.i l.list l.factors
