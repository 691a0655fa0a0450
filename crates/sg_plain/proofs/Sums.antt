-- Sums of polynomials of degree at most four.
--   sum-step         the polynomial times 60 is the difference of its sum's numerator
use Rattle.std.proofs.Common.{◌≡◌, ℤ, pos, ◌+ℤ◌, ◌-ℤ◌, ◌*ℤ◌, [], ◌∷◌, refl}
use Rattle.sg_algebra.specs.Coefficients.{eval}
use Rattle.sg_algebra.proofs.Solver.{ring}
use Rattle.sg_algebra.proofs.Whole.{ℤR, readsℤ}
use Rattle.sg_plain.specs.Sums.{sum_at}

pub sum-step : (a b c d e m : ℤ) → sum_at (a ∷ b ∷ c ∷ d ∷ e ∷ []) m ≡ sum_at (a ∷ b ∷ c ∷ d ∷ e ∷ []) (m -ℤ pos 1) +ℤ pos 60 *ℤ eval ℤR
    (a ∷ b ∷ c ∷ d ∷ e ∷ []) m
sum-step a b c d e m = ring ℤR (a ∷ b ∷ c ∷ d ∷ e ∷ m ∷ []) (search readsℤ depth 60 fits 60000) refl
