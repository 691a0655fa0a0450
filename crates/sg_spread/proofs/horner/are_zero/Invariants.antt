use Rattle.std.proofs.Common.{◌≡◌, ℕ, ◌<◌, map}
use Rattle.sg_algebra.proofs.Polynomial.{coefficient}
use Rattle.sg_algebra.proofs.Value.{zero_value}
use Rattle.sg_num.specs.Value.{number}
use Rattle.sg_spread.proofs.horner.are_zero.Given as goal

abbrev pub invariant-loop-i : goal.invariant-loop-i
invariant-loop-i l = (p : ℕ) → p < l.i → coefficient (map number l.row) p ≡ zero_value
