use Rattle.std.proofs.Common.{◌≡◌, All}
use Rattle.sg_algebra.proofs.Value.{zero_value}
use Rattle.sg_poly.specs.Polynomials.{polynomial_at}
use Rattle.sg_poly.proofs.poly.Poly.rational_roots.Given as goal

abbrev pub invariant-loop-i : goal.invariant-loop-i
invariant-loop-i g l = All (λ x. polynomial_at g.F.Field.val l.self (g.F.Field.val x) ≡ zero_value) l.roots
