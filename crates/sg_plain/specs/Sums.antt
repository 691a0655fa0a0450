-- Sums of polynomials of degree at most four over 60. The lists are coefficients, the lowest first.
--   sum_terms cs      the numerators over 60, from the first power on, of the polynomial that is 0 at 0 and grows by the one with the coefficients cs
--   sum_at cs m       its value at m, times 60
use Rattle.std.specs.Prelude.{List, [], ◌∷◌, ℤ, pos, negsuc, ◌*ℤ◌}
use Rattle.sg_algebra.specs.Coefficients.{eval}
use Rattle.sg_algebra.proofs.Whole.{ℤR}
use Rattle.sg_plain.specs.Plain.{dot}

abbrev pub sum_terms : List ℤ → List ℤ
sum_terms cs =
    dot (pos 60 ∷ pos 30 ∷ pos 10 ∷ pos 0 ∷ negsuc 1 ∷ []) cs
    ∷ dot (pos 0 ∷ pos 30 ∷ pos 30 ∷ pos 15 ∷ pos 0 ∷ []) cs
    ∷ dot (pos 0 ∷ pos 0 ∷ pos 20 ∷ pos 30 ∷ pos 20 ∷ []) cs
    ∷ dot (pos 0 ∷ pos 0 ∷ pos 0 ∷ pos 15 ∷ pos 30 ∷ []) cs
    ∷ dot (pos 0 ∷ pos 0 ∷ pos 0 ∷ pos 0 ∷ pos 12 ∷ []) cs
    ∷ []

abbrev pub sum_at : List ℤ → ℤ → ℤ
sum_at cs m = m *ℤ eval ℤR (sum_terms cs) m
