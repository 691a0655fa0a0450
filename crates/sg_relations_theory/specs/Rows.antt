-- Rows of exponents.
--   sum_row e f        the sum of two rows, missing entries being 0
--   multiple_row x e   x times a row
--   total xs rows      the sum of the rows, each times the number of xs in its place
use Rattle.std.specs.Prelude.{List, [], ◌∷◌, map, ℤ, ◌+ℤ◌, ◌*ℤ◌}
use Rattle.sg_algebra.specs.Coefficients.{zip_longest}

abbrev pub sum_row : List ℤ → List ℤ → List ℤ
sum_row e f = zip_longest ◌+ℤ◌ e f

abbrev pub multiple_row : ℤ → List ℤ → List ℤ
multiple_row x e = map (λ y. x *ℤ y) e

abbrev pub total : List ℤ → List (List ℤ) → List ℤ
total [] rows = []
total (x ∷ xs) [] = []
total (x ∷ xs) (e ∷ rows) = sum_row (multiple_row x e) (total xs rows)
