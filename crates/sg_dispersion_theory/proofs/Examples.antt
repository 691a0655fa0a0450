-- Two pairs of polynomials over the whole numbers, the steps of their arrays and their certificates.
use Rattle.std.proofs.Common.{◌≡◌, ℕ, zero, suc, ◌<◌, refl, [], ◌∷◌, pos, negsuc, arith}
use Rattle.sg_algebra.proofs.Whole.{ℤR}
use Rattle.sg_dispersion_theory.proofs.Step.{iterate}
use Rattle.sg_dispersion_theory.proofs.Certificate.{Certificate, weighted}
use Rattle.sg_dispersion_theory.proofs.StepRow.{step_at}

-- k + 2 and (k + m) + 5 have a common divisor where m = -3: the array has one entry, and a step multiplies it by -3
one_entry : iterate ℤR 1 1 (pos 2 ∷ pos 1 ∷ []) (pos 5 ∷ pos 1 ∷ []) 1 0 0 ≡ negsuc 2
one_entry = refl

two_steps : iterate ℤR 1 1 (pos 2 ∷ pos 1 ∷ []) (pos 5 ∷ pos 1 ∷ []) 2 0 0 ≡ pos 9
two_steps = refl

-- so 3 + m is a certificate
linear : Certificate ℤR 1 1 (pos 2 ∷ pos 1 ∷ []) (pos 5 ∷ pos 1 ∷ []) (pos 3 ∷ pos 1 ∷ [])
linear = record { none = none }
  where
    none : (l i : ℕ) → l < 1 → i < 1 → weighted ℤR 1 1 (pos 2 ∷ pos 1 ∷ []) (pos 5 ∷ pos 1 ∷ []) (pos 3 ∷ pos 1 ∷ []) 2 l i ≡ pos 0
    none zero zero p q = refl
    none (suc l) i p q = absurd (omega arith)
    none zero (suc i) p q = absurd (omega arith)

-- k (k + 1) and k + m, one line of two entries: they have a common divisor where m = 0 and where m = 1, and m^2 - m is a certificate
square : Certificate ℤR 2 1 (pos 0 ∷ pos 1 ∷ pos 1 ∷ []) (pos 0 ∷ pos 1 ∷ []) (pos 0 ∷ negsuc 0 ∷ pos 1 ∷ [])
square = record { none = none }
  where
    none : (l i : ℕ) → l < 1 → i < 2 → weighted ℤR 2 1 (pos 0 ∷ pos 1 ∷ pos 1 ∷ []) (pos 0 ∷ pos 1 ∷ []) (pos 0 ∷ negsuc 0 ∷ pos 1 ∷ []) 3 l i ≡ pos 0
    none zero zero p q = refl
    none zero (suc zero) p q = refl
    none zero (suc (suc i)) p q = absurd (omega arith)
    none (suc l) i p q = absurd (omega arith)

-- k^2 + 2 k + 3 and j^2 + 5 j + 7, and the row of the array with the lines 1, 10 and 100, 1000. At (1, 1): 10 - 5 * 1000 - 100 + 2 * 1000
last_entry : step_at ℤR 2 2 (pos 3 ∷ pos 2 ∷ pos 1 ∷ []) (pos 7 ∷ pos 5 ∷ pos 1 ∷ []) (pos 1 ∷ pos 10 ∷ pos 100 ∷ pos 1000 ∷ []) 3 ≡ negsuc 3089
last_entry = refl

-- at (0, 0), where no entry is above and none is before: 0 - 7 * 100 - 0 + 3 * 10
first_entry : step_at ℤR 2 2 (pos 3 ∷ pos 2 ∷ pos 1 ∷ []) (pos 7 ∷ pos 5 ∷ pos 1 ∷ []) (pos 1 ∷ pos 10 ∷ pos 100 ∷ pos 1000 ∷ []) 0 ≡ negsuc 669
first_entry = refl
