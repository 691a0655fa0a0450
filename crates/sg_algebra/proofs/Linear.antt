-- Vectors and rows over the values of one depth. A vector is a function from places to values.
--   row_times r f      the product of the row r and the vector f
--   unit j             the vector with 1 at j and 0 elsewhere
--   combined cs bs     the sum of the vectors bs times the constants cs
--   Span bs f          f is such a sum
--   table v xs         the values of a list of rows
--   row v bs i k       the value at the place k of the row i
--   Form v bs          the rows are in reduced form: each has a place of its own, with 1 there, 0 at the places of the others and 0 past it, and these places ascend
use Rattle.std.proofs.Common.{◌≡◌, ℕ, zero, suc, ◌<◌, List, [], ◌∷◌, map, length, get_or}
use Rattle.sg_algebra.proofs.Value.{Value, zero_value, one_value, ◌+ᵛ◌, ◌*ᵛ◌}
use Rattle.sg_algebra.proofs.Polynomial.{coefficient}

module _ {d : ℕ} where
  -- the product of a row and a vector
  abbrev pub row_times : List (Value d) → (ℕ → Value d) → Value d
  row_times [] f = zero_value
  row_times (x ∷ r) f = x *ᵛ f 0 +ᵛ row_times r (λ k. f (suc k))

  -- the sum of vectors times constants
  abbrev pub combined : List (Value d) → List (List (Value d)) → ℕ → Value d
  combined [] bs k = zero_value
  combined (c ∷ cs) [] k = zero_value
  combined (c ∷ cs) (b ∷ bs) k = c *ᵛ coefficient b k +ᵛ combined cs bs k

  -- the vector is a combination of the list
  pub record Span (bs : List (List (Value d))) (f : ℕ → Value d) : Type 0 where
    pub coeffs : List (Value d)
    pub is : (k : ℕ) → f k ≡ combined coeffs bs k

  -- the vector in the list, zero past its end
  abbrev pub vector : List (List (Value d)) → ℕ → ℕ → Value d
  vector bs i = coefficient (get_or bs i [])

  abbrev pub unit : ℕ → ℕ → Value d
  unit zero zero = one_value
  unit zero (suc k) = zero_value
  unit (suc o) zero = zero_value
  unit (suc o) (suc k) = unit o k

module _ {K : Type 0} {d : ℕ} (v : K → Value d) where
  abbrev pub table : List (List K) → List (List (Value d))
  table xs = map (map v) xs

  abbrev pub row : List (List K) → ℕ → ℕ → Value d
  row bs i k = coefficient (map v (get_or bs i [])) k

  pub record Form (bs : List (List K)) : Type 0 where
    pub own : ℕ → ℕ
    pub one : (i j : ℕ) → i < length bs → j < length bs → row bs i (own j) ≡ unit i j
    pub ascending : (i j : ℕ) → i < j → j < length bs → own i < own j
    pub last : (i : ℕ) → i < length bs → (k : ℕ) → own i < k → row bs i k ≡ zero_value
