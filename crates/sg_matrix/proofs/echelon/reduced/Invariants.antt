use Rattle.sg_matrix.specs.Steps.{IsRest}
use Rattle.sg_matrix.proofs.echelon.reduced.Given as goal

abbrev pub invariant-loop-i : goal.invariant-loop-i
invariant-loop-i g l = IsRest g.F.Field.val l.rows l.i l.fn.given l.rest
