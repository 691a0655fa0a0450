use Rattle.sg_matrix.specs.Systems.{IsEchelon}
use Rattle.sg_matrix.proofs.Solutions.{IsColumns}
use Rattle.sg_matrix.proofs.vectors.vectors.Given as goal

abbrev pub invariant-loop-k : goal.invariant-loop-k
invariant-loop-k g l = (e : IsEchelon g.F.Field.val l.rows) → IsColumns g.F.Field.val l.rows e.pivot l.width l.k l.basis
