use Rattle.sg_bottom.specs.Functions.{AreRaised}
use Rattle.sg_bottom.proofs.functions.raised.Given as goal

abbrev pub invariant-loop-row : goal.invariant-loop-row
invariant-loop-row g l = AreRaised g.F.Field.val l.yielded l.elements
