-- Telescoping: a solution for one right side, with the constant 1.
--   IsAntidifference ρ f g    σ(g) - g = f
--   StartsWithZero v w        the first constant of the solution w is 0
--   IsScaledToOne ρ v w g     that constant c isn't 0, and g is the element of w over c
--   IsScaledOf ρ v rows g     so for one of the solutions
use Rattle.std.specs.Prelude.{◌≡◌, ℕ, ◌<◌, List, length, get_or, map}
use Rattle.sg_algebra.proofs.Value.{Value, zero_value, inv_value}
use Rattle.sg_algebra.proofs.Polynomial.{coefficient}
use Rattle.sg_matrix.specs.declared.solution.Solution.{Solution}
use Rattle.sg_tower_theory.proofs.Difference.{delta}
use Rattle.sg_tower_theory.proofs.Formal.{shifted}
use Rattle.sg_tower.specs.Elements.{Reading, Same, IsMultiple}

abbrev pub IsAntidifference : {E : Type 0} {d : ℕ} → Reading d E → E → E → Type 0
IsAntidifference ρ f g = Same ρ (delta (shifted ρ.formal) (ρ.of g)) (ρ.of f)

abbrev pub first_of : {K E : Type 0} {d : ℕ} → (K → Value d) → Solution K E → Value d
first_of v w = coefficient (map v w.coeffs) 0

abbrev pub StartsWithZero : {K E : Type 0} {d : ℕ} → (K → Value d) → Solution K E → Type 0
StartsWithZero v w = first_of v w ≡ zero_value

pub record IsScaledToOne {K E : Type 0} {d : ℕ} (ρ : Reading d E) (v : K → Value d) (w : Solution K E) (g : E) : Type 0 where
  pub some : ¬ (first_of v w ≡ zero_value)
  pub multiple : IsMultiple ρ (inv_value (first_of v w)) w.value g

pub record IsScaledOf {K E : Type 0} {d : ℕ} (ρ : Reading d E) (v : K → Value d) (rows : List (Solution K E)) (g : E) : Type 0 where
  pub solution : Solution K E
  pub place : ℕ
  pub inside : place < length rows
  pub at : solution ≡ get_or rows place solution
  pub scaled : IsScaledToOne ρ v solution g
