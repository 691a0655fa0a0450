use Rattle.std.proofs.Common.{◌≡◌, ℕ, ◌<◌, map}
use Rattle.sg_algebra.proofs.Polynomial.{coefficient}
use Rattle.sg_poly.proofs.kernel.rows_same.Given as goal

abbrev pub invariant-loop-i : goal.invariant-loop-i
invariant-loop-i g l = (k : ℕ) → k < l.i → coefficient (map g.F.Field.val l.p) k ≡ coefficient (map g.F.Field.val l.q) k
