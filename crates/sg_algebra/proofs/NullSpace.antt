-- Products of rows and vectors, and the unit vectors.
--   row_times_cong, row_times_zero    the product of a row and equal vectors; of a row and 0
--   axis_one, axis_zero, axis_skip    the entries of a unit vector; where a place is left out, `unit (skip p i) (skip p j)` is `unit i j`
--   table_at, past_row_dot            a row of a table of values; past the end of a table the product is 0
--   zero_less                         0 - t 0 = 0
use Rattle.std.proofs.Common.{◌≡◌, ℕ, zero, suc, ◌≤◌, refl, ap, ap₂, List, [], ◌∷◌, map, length, get_or}
use Rattle.sg_algebra.proofs.Solver.{ring, by, reads}
use Rattle.sg_algebra.proofs.Value.{Value, zero_value, one_value, ◌+ᵛ◌, ◌-ᵛ◌, ◌*ᵛ◌}
use Rattle.sg_algebra.proofs.ValueField.{ValueR}
use Rattle.sg_algebra.proofs.Polynomial.{coefficient}
use Rattle.sg_algebra.proofs.Tables.{past_table, skip}
use Rattle.sg_algebra.proofs.Linear.{row_times, unit, table}

module _ {d : ℕ} where
  pub row_times_cong : (r : List (Value d)) (f g : ℕ → Value d) → ((k : ℕ) → f k ≡ g k) → row_times r f ≡ row_times r g
  row_times_cong [] f g h = refl
  row_times_cong (x ∷ r) f g h = ap₂ (λ a b. x *ᵛ a +ᵛ b) (h 0) (row_times_cong r (λ k. f (suc k)) (λ k. g (suc k)) (λ k. h (suc k)))

  pub row_times_zero : (r : List (Value d)) → row_times r (λ k. zero_value) ≡ zero_value
  row_times_zero [] = refl
  row_times_zero (x ∷ r) = by (ValueR d) (x ∷ row_times r (λ k. zero_value) ∷ []) (row_times_zero r) (search reads depth 16) refl

  axis_same : (o : ℕ) → unit {d = d} o o ≡ one_value
  axis_same zero = refl
  axis_same (suc o) = axis_same o

  axis_other : (o k : ℕ) → ¬ (o ≡ k) → unit {d = d} o k ≡ zero_value
  axis_other zero zero n = absurd (n refl)
  axis_other zero (suc k) n = refl
  axis_other (suc o) zero n = refl
  axis_other (suc o) (suc k) n = axis_other o k (λ e. n (ap suc e))

  pub axis_one : (o k : ℕ) → o ≡ k → unit {d = d} o k ≡ one_value
  axis_one o k e = rw e (axis_same k)

  pub axis_zero : (o k : ℕ) → ¬ (o ≡ k) → unit {d = d} o k ≡ zero_value
  axis_zero o k n = axis_other o k n

  pub axis_skip : (p i j : ℕ) → unit {d = d} (skip p i) (skip p j) ≡ unit i j
  axis_skip zero i j = refl
  axis_skip (suc p) zero zero = refl
  axis_skip (suc p) zero (suc j) = refl
  axis_skip (suc p) (suc i) zero = refl
  axis_skip (suc p) (suc i) (suc j) = axis_skip p i j

module _ {K : Type 0} {d : ℕ} (v : K → Value d) where
  pub table_at : (xs : List (List K)) (i : ℕ) → get_or (table v xs) i [] ≡ map v (get_or xs i [])
  table_at [] i = refl
  table_at (x ∷ xs) zero = refl
  table_at (x ∷ xs) (suc i) = table_at xs i

  pub past_row_dot : (xs : List (List K)) (r : List (Value d)) (j : ℕ) → length xs ≤ j → row_times r (coefficient (map v (get_or xs j []))) ≡ zero_value
  past_row_dot xs r j h = rw (past_table xs j h) (row_times_zero r)

  pub zero_less : (t : Value d) → zero_value -ᵛ t *ᵛ zero_value ≡ zero_value
  zero_less t = ring (ValueR d) (t ∷ []) (search reads depth 12) refl
