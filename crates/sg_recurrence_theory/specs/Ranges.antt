-- Where the divisors of a recurrence aren't 0.
--   put x y p          the polynomial p with the polynomials x and y, in two other letters, in place of the variable and of the parameter
--   IsOneSign p        all coefficients are 0 or of one sign, and the constant one isn't 0
--   from_limit l       l + u, where u is the first letter; beyond l    l + u + w; second    the second letter
--   KeepsAll d         for k = limit + u the coefficients in u and n are so
--   KeepsBelow d       for k = limit + u and n = limit + u + w those in u and w
--   Range, IsRange     the first that holds
use Rattle.std.specs.Prelude.{List, [], ◌∷◌, ℤ, pos, ◌≤ℤ◌, ◌<ℤ◌, ◌⊎◌}
use Rattle.sg_algebra.specs.Coefficients.{Each}
use Rattle.sg_spec.specs.Parts.{Plane, plane_add, plane_mul}
use Rattle.sg_limits.specs.declared.divisors.Divisor.{Divisor}
use Rattle.sg_answers_theory.specs.Recurrences.{coefficient}

abbrev pub put_row : Plane → List ℤ → Plane
put_row y [] = []
put_row y (c ∷ row) = plane_add ((c ∷ []) ∷ []) (plane_mul y (put_row y row))

abbrev pub put : Plane → Plane → Plane → Plane
put x y [] = []
put x y (row ∷ p) = plane_add (put_row y row) (plane_mul x (put x y p))

abbrev pub IsOneSign : Plane → Type 0
IsOneSign p =
    (Each (λ row. Each (λ c. pos 0 ≤ℤ c) row) p × (pos 0 <ℤ coefficient p 0 0))
    ⊎ (Each (λ row. Each (λ c. c ≤ℤ pos 0) row) p × (coefficient p 0 0 <ℤ pos 0))

abbrev pub from_limit : ℤ → Plane
from_limit l = (l ∷ []) ∷ ((pos 1 ∷ []) ∷ [])

abbrev pub beyond : ℤ → Plane
beyond l = (l ∷ (pos 1 ∷ [])) ∷ ((pos 1 ∷ []) ∷ [])

abbrev pub second : Plane
second = (pos 0 ∷ (pos 1 ∷ [])) ∷ []

abbrev pub KeepsAll : Divisor → Type 0
KeepsAll d = IsOneSign (put (from_limit d.limit) second d.poly)

abbrev pub KeepsBelow : Divisor → Type 0
KeepsBelow d = IsOneSign (put (from_limit d.limit) (beyond d.limit) d.poly)

pub data Range : Type 0 where
  all : Range
  below : Range
  nothing_said : Range

abbrev pub IsRange : Range → List Divisor → Type 0
IsRange all V = Each KeepsAll V
IsRange below V = ¬ Each KeepsAll V × Each KeepsBelow V
IsRange nothing_said V = ¬ Each KeepsAll V × ¬ Each KeepsBelow V
