use Rattle.std.proofs.Common.{map}
use Rattle.sg_algebra.proofs.Value.{◌-ᵛ◌}
use Rattle.sg_algebra.proofs.Polynomial.{coefficient}
use Rattle.sg_algebra.proofs.Rows.{Builds}
use Rattle.sg_poly.proofs.poly.Poly.sub.Given as goal

abbrev pub invariant-loop-i : goal.invariant-loop-i
invariant-loop-i g l = Builds g.F.Field.val (λ k. coefficient (map g.F.Field.val l.p) k -ᵛ coefficient (map g.F.Field.val l.q) k) l.i l.difference
