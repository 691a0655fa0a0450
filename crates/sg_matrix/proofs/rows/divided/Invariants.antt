use Rattle.std.proofs.Common.{map}
use Rattle.sg_algebra.proofs.Value.{◌*ᵛ◌, inv_value}
use Rattle.sg_algebra.proofs.Polynomial.{coefficient}
use Rattle.sg_algebra.proofs.Rows.{Builds}
use Rattle.sg_matrix.proofs.rows.divided.Given as goal

abbrev pub invariant-loop-i : goal.invariant-loop-i
invariant-loop-i g l = Builds g.F.Field.val (λ k. coefficient (map g.F.Field.val l.r) k *ᵛ inv_value (g.F.Field.val l.t)) l.i l.row
