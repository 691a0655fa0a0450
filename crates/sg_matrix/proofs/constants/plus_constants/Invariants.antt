use Rattle.std.proofs.Common.{map}
use Rattle.sg_algebra.proofs.Value.{◌+ᵛ◌, ◌*ᵛ◌}
use Rattle.sg_algebra.proofs.Polynomial.{coefficient}
use Rattle.sg_algebra.proofs.Rows.{Builds}
use Rattle.sg_matrix.proofs.constants.plus_constants.Given as goal

abbrev pub invariant-loop-i : goal.invariant-loop-i
invariant-loop-i g l = Builds g.F.Field.val (λ k. coefficient (map g.F.Field.val l.x) k +ᵛ g.F.Field.val l.c *ᵛ coefficient (map g.F.Field.val l.y) k) l.i l.r
