-- The null space of rows, whose items stand for the values that `v` says.
--   AreNull v rows basis         each row sends each vector of the basis to 0
--   SpanNull v w rows basis      each vector of width w that each row sends to 0 is a combination of the basis
use Rattle.std.specs.Prelude.{◌≡◌, ℕ, ◌<◌, ◌≤◌, List, [], length, map, get_or}
use Rattle.sg_algebra.proofs.Value.{Value, zero_value}
use Rattle.sg_algebra.proofs.Polynomial.{coefficient}
use Rattle.sg_algebra.proofs.Linear.{row_times, Span, table}

module _ {K : Type 0} {d : ℕ} (v : K → Value d) where
  abbrev pub AreNull : List (List K) → List (List K) → Type 0
  AreNull rows basis = (j : ℕ) → j < length rows → (i : ℕ) → row_times (map v (get_or rows j [])) (coefficient (map v (get_or basis i []))) ≡ zero_value

  abbrev pub SpanNull : ℕ → List (List K) → List (List K) → Type 0
  SpanNull w rows basis = (f : ℕ → Value d) → ((k : ℕ) → w ≤ k → f k ≡ zero_value) → ((j : ℕ) → j < length rows → row_times (map v (get_or rows j [])) f ≡ zero_value) → Span (table v basis) f
