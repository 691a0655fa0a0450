use Rattle.std.proofs.Common.{[], ◌∷◌}
use Rattle.sg_algebra.proofs.Value.{one_value}
use Rattle.sg_algebra.proofs.Polynomial.{coefficient}
use Rattle.sg_algebra.proofs.Rows.{Builds}
use Rattle.sg_num.specs.Value.{number}
use Rattle.sg_spread.proofs.step.first_row.Given as goal

abbrev pub invariant-loop-p : goal.invariant-loop-p
invariant-loop-p l = Builds number (coefficient (one_value ∷ [])) l.p l.row
