-- Polynomials in the variable and the parameter, as divisors are kept: a list over the powers of the variable of lists over those of the
-- parameter, the lowest first.
--   value_at p n k     its value at a parameter and a variable
--   HasParameter p     the parameter stands in it
--   IsSomewhere p k    at this variable it isn't 0 at every parameter
use Rattle.std.specs.Prelude.{◌≢◌, ℕ, suc, ℤ, pos}
use Rattle.sg_algebra.specs.Coefficients.{horner, eval}
use Rattle.sg_algebra.proofs.Whole.{ℤR}
use Rattle.sg_spec.specs.Parts.{Plane}
use Rattle.sg_answers_theory.specs.Recurrences.{coefficient}

abbrev pub value_at : Plane → ℤ → ℤ → ℤ
value_at p n k = horner ℤR (λ row. eval ℤR row n) k p

abbrev pub HasParameter : Plane → Type 0
HasParameter p = (i : ℕ) × (j : ℕ) × (coefficient p i (suc j) ≢ pos 0)

abbrev pub IsSomewhere : Plane → ℤ → Type 0
IsSomewhere p k = (n : ℤ) × (value_at p n k ≢ pos 0)
