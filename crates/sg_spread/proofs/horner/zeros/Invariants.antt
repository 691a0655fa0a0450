use Rattle.sg_algebra.proofs.Rows.{Builds}
use Rattle.sg_algebra.proofs.Value.{zero_value}
use Rattle.sg_num.specs.Value.{number}
use Rattle.sg_spread.proofs.horner.zeros.Given as goal

abbrev pub invariant-loop-p : goal.invariant-loop-p
invariant-loop-p l = Builds number (λ p. zero_value) l.p l.row
