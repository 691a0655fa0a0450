-- Polynomials as lists: over the powers of the parameter lists over the powers of the variable, the lowest first.
--   total, row_size, plane_size    the sum of the sizes of the coefficients
--   IsLightRow, IsLight            it is below 2^127
--   entry, coefficient             the coefficient at a power, and at two; 0 past the end
--   SameRow, SamePlane             all coefficients are equal
--   row_product                    the product of two rows
--   moved, moved_row               the coefficient of a row, the row of a polynomial, moved up by some powers
--   IsRootOf, VanishesAt           a row is 0, all rows are 0 at a number
--   IsLeastZero p first m          the least number from the first on at which all rows are 0
--   lowest                         the lowest coefficient other than 0; 0 where there is none
--   LimitsZeros p low              a number other than 0 at which all rows are 0 divides a number of this size
--   greatest                       the greatest size of a coefficient
use Rattle.std.specs.Prelude.{◌≡◌, ◌≢◌, ℕ, zero, suc, ◌+◌, ◌^◌, ◌<◌, ◌≤ℤ◌, ◌<ℤ◌, ◌+ℤ◌, ◌*ℤ◌, unsigned_abs, List, [], ◌∷◌, max, get_or, ℤ, pos, negsuc}
use Rattle.sg_algebra.specs.Coefficients.{conv, eval, Each}
use Rattle.sg_algebra.proofs.Whole.{ℤR}
use Rattle.sg_spec.specs.Parts.{Plane}

abbrev pub total : {C : Type 0} → (C → ℕ) → List C → ℕ
total size [] = 0
total size (c ∷ p) = size c + total size p

abbrev pub row_size : List ℤ → ℕ
row_size p = total unsigned_abs p

abbrev pub plane_size : Plane → ℕ
plane_size p = total row_size p

abbrev pub IsLightRow : List ℤ → Type 0
IsLightRow p = row_size p < 2 ^ 127

abbrev pub IsLight : Plane → Type 0
IsLight p = plane_size p < 2 ^ 127

abbrev pub entry : List ℤ → ℕ → ℤ
entry p i = get_or p i (pos 0)

abbrev pub coefficient : Plane → ℕ → ℕ → ℤ
coefficient p i j = entry (get_or p i []) j

abbrev pub SameRow : List ℤ → List ℤ → Type 0
SameRow p q = (i : ℕ) → entry p i ≡ entry q i

abbrev pub SamePlane : Plane → Plane → Type 0
SamePlane p q = (i j : ℕ) → coefficient p i j ≡ coefficient q i j

abbrev pub row_product : List ℤ → List ℤ → List ℤ
row_product p q = conv ◌+ℤ◌ ◌*ℤ◌ (pos 0) p q

abbrev pub moved : ℕ → List ℤ → ℕ → ℤ
moved zero p i = entry p i
moved (suc m) p zero = pos 0
moved (suc m) p (suc i) = moved m p i

abbrev pub moved_row : ℕ → Plane → ℕ → List ℤ
moved_row zero p i = get_or p i []
moved_row (suc m) p zero = []
moved_row (suc m) p (suc i) = moved_row m p i

abbrev pub IsRootOf : List ℤ → ℤ → Type 0
IsRootOf p m = eval ℤR p m ≡ pos 0

abbrev pub VanishesAt : Plane → ℤ → Type 0
VanishesAt p k = Each (λ row. eval ℤR row k ≡ pos 0) p

pub record IsLeastZero (p : Plane) (first m : ℤ) : Type 0 where
  pub inside : first ≤ℤ m
  pub zero : VanishesAt p m
  pub least : (k : ℤ) → first ≤ℤ k → k <ℤ m → VanishesAt p k → ⊥

abbrev pub unless_none : ℤ → ℤ → ℤ
unless_none (pos zero) later = later
unless_none (pos (suc n)) later = pos (suc n)
unless_none (negsuc n) later = negsuc n

abbrev pub lowest : List ℤ → ℤ
lowest [] = pos 0
lowest (c ∷ p) = unless_none c (lowest p)

abbrev pub LimitsZeros : Plane → ℕ → Type 0
LimitsZeros p low = (m : ℤ) → m ≢ pos 0 → VanishesAt p m → (l : ℤ) × (q : ℤ) × (unsigned_abs l ≡ low) × (q *ℤ m ≡ l)

abbrev pub greatest : List ℤ → ℕ
greatest [] = 0
greatest (c ∷ p) = max (unsigned_abs c) (greatest p)
