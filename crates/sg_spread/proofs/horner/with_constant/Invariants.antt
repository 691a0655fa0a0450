use Rattle.std.proofs.Common.{[], ◌∷◌, map}
use Rattle.sg_algebra.proofs.Polynomial.{coefficient}
use Rattle.sg_algebra.proofs.Rows.{Builds}
use Rattle.sg_algebra.proofs.Value.{◌+ᵛ◌}
use Rattle.sg_num.specs.Value.{number}
use Rattle.sg_spread.proofs.horner.with_constant.Given as goal

abbrev pub invariant-loop-p : goal.invariant-loop-p
invariant-loop-p l = Builds number (λ p. coefficient (map number l.row) p +ᵛ coefficient (number l.c ∷ []) p) l.p l.new
