use Rattle.std.proofs.Common.{map}
use Rattle.sg_algebra.proofs.ValueField.{ValueR}
use Rattle.sg_algebra.proofs.Derivative.{derivative}
use Rattle.sg_algebra.proofs.Polynomial.{coefficient}
use Rattle.sg_algebra.proofs.Rows.{Builds}
use Rattle.sg_poly.proofs.poly.Poly.derivative.Given as goal

abbrev pub invariant-loop-i : goal.invariant-loop-i
invariant-loop-i g l = Builds g.F.Field.val (λ k. coefficient (derivative (ValueR g.F.Field.vars) (map g.F.Field.val l.p)) k) l.i l.row
