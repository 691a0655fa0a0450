-- The sum of rows, each times its exponent, column by column.
--   column_in rows j    the entries of the rows at j
--   sum_row-at, multiple_row-at    the entries of the sum of two rows, and of a multiple
--   total-at            the sum of the rows, at j, is the product of the column at j and the exponents
use Rattle.std.proofs.Common.{◌≡◌, ℕ, zero, suc, refl, ap₂, ◌∙◌, List, [], ◌∷◌, map, length, ℤ, ◌+ℤ◌, ◌*ℤ◌, arith}
use Rattle.sg_algebra.proofs.Solver.{ring}
use Rattle.sg_algebra.proofs.Whole.{ℤR, readsℤ}
use Rattle.sg_relations_theory.specs.Rows.{sum_row, multiple_row, total}
use Rattle.sg_relations_theory.proofs.NullVectors.{number_at, dot}

abbrev pub column_in : List (List ℤ) → ℕ → List ℤ
column_in rows j = map (λ r. number_at r j) rows

pub sum_row-at : (a b : List ℤ) (j : ℕ) → number_at (sum_row a b) j ≡ number_at a j +ℤ number_at b j
sum_row-at [] [] j = refl
sum_row-at [] (y ∷ b) j = ring ℤR (number_at (y ∷ b) j ∷ []) (search readsℤ depth 12) refl
sum_row-at (x ∷ a) [] j = ring ℤR (number_at (x ∷ a) j ∷ []) (search readsℤ depth 12) refl
sum_row-at (x ∷ a) (y ∷ b) zero = refl
sum_row-at (x ∷ a) (y ∷ b) (suc j) = sum_row-at a b j

pub multiple_row-at : (t : ℤ) (a : List ℤ) (j : ℕ) → number_at (multiple_row t a) j ≡ t *ℤ number_at a j
multiple_row-at t [] j = ring ℤR (t ∷ []) (search readsℤ depth 12) refl
multiple_row-at t (x ∷ a) zero = refl
multiple_row-at t (x ∷ a) (suc j) = multiple_row-at t a j

pub total-at : (xs : List ℤ) (rows : List (List ℤ)) (j : ℕ) → length xs ≡ length rows → number_at (total xs rows) j ≡ dot (column_in rows j) (number_at xs)
total-at [] [] j l = refl
total-at [] (r ∷ rows) j l = absurd (omega arith)
total-at (x ∷ xs) [] j l = absurd (omega arith)
total-at (x ∷ xs) (r ∷ rows) j l = sum_row-at (multiple_row x r) (total xs rows) j
    ∙ ap₂ ◌+ℤ◌ (multiple_row-at x r j ∙ ring ℤR (x ∷ number_at r j ∷ []) (search readsℤ depth 12) refl) (total-at xs rows j (omega arith))
