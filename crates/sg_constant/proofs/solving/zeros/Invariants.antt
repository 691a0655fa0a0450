use Rattle.std.proofs.Common.{◌≡◌, ℕ, length, map}
use Rattle.sg_algebra.proofs.Value.{zero_value}
use Rattle.sg_algebra.proofs.Polynomial.{coefficient}
use Rattle.sg_constant.proofs.solving.zeros.Given as goal

abbrev pub invariant-zeros : goal.invariant-zeros
invariant-zeros g l = record { size : length l.row ≡ l.i; zeros : (j : ℕ) → coefficient (map g.F.Field.val l.row) j ≡ zero_value }
