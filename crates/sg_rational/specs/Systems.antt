-- The rows of a linear system that are given one by one, no more once there are as many as columns.
--   Sends v rows f          each of the rows sends the vector f to 0
--   IsFilled v bs w m held  the rows held, of width w, stand for the rows of the coefficients at 0, .., m - 1 of the polynomials bs: what these send to 0
--                           they do, and where they are fewer than w the other way round
use Rattle.std.specs.Prelude.{◌≡◌, ℕ, ◌<◌, List, [], length, map, get_or}
use Rattle.sg_algebra.proofs.Value.{Value, zero_value}
use Rattle.sg_algebra.proofs.Linear.{row_times}
use Rattle.sg_first_order_theory.proofs.System.{row_of}

module _ {K : Type 0} {d : ℕ} (v : K → Value d) where
  abbrev pub Sends : List (List K) → (ℕ → Value d) → Type 0
  Sends rows f = (l : ℕ) → l < length rows → row_times (map v (get_or rows l [])) f ≡ zero_value

  pub record IsFilled (bs : List (List (Value d))) (w m : ℕ) (held : List (List K)) : Type 0 where
    pub below : (f : ℕ → Value d) → ((t : ℕ) → t < m → row_times (row_of bs t) f ≡ zero_value) → Sends held f
    pub above : ¬ (length held ≡ w) → (f : ℕ → Value d) → Sends held f → (t : ℕ) → t < m → row_times (row_of bs t) f ≡ zero_value
