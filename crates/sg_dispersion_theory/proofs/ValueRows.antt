-- Rows of items that are built one item after the other, and the arrays that they stand for.
--   v                   which value an item stands for
--   step_built          a row whose items are `step_at` of the row before it
--   table_of_arrays     the rows of the start after 0, 1, .., n - 1 steps, as the columns of a table
use Rattle.std.proofs.Common.{◌≡◌, ℕ, ◌+◌, ◌*◌, ◌<◌, ◌∙◌, List, [], length, map, get_or}
use Rattle.sg_algebra.specs.Ring.{Ring}
use Rattle.sg_algebra.proofs.Lists.{length_map}
use Rattle.sg_algebra.proofs.Value.{Value}
use Rattle.sg_algebra.proofs.ValueField.{ValueR}
use Rattle.sg_algebra.proofs.Polynomial.{coefficient}
use Rattle.sg_algebra.proofs.Rows.{Builds}
use Rattle.sg_dispersion_theory.proofs.Step.{step, iterate}
use Rattle.sg_dispersion_theory.proofs.StepRow.{Stands, step_at, step_stands}
use Rattle.sg_dispersion_theory.proofs.RowPlaces.{place_below}
use Rattle.sg_dispersion_theory.proofs.PowerTable.{PowerTable}

module _ {K : Type 0} {depth : ℕ} (v : K → Value depth) (d e : ℕ) where
  abbrev R : Ring
  R = ValueR depth

  module _ (a b : List (Value depth)) where
    pub step_built : (row new : List K) (w : ℕ → ℕ → Value depth) → Stands R d e (map v row) w → Builds v (step_at R d e a b (map v row)) (d * e) new
        → Stands R d e (map v new) (step R d e a b w)
    step_built row new w s c = step_stands R d e a b (map v row) (map v new) w s (length_map v new ∙ c.size) (λ p h. c.built p h)

    pub table_of_arrays : (n : ℕ) (arrays rows : List (List K)) → ((t : ℕ) → t < n → Stands R d e (map v (get_or arrays t [])) (iterate R d e a b t))
        → length rows ≡ d * e → ((p : ℕ) → p < d * e → Builds v (λ t. coefficient (map v (get_or arrays t [])) p) n (get_or rows p [])) → PowerTable v d e a b n rows
    table_of_arrays n arrays rows s size c = record {
      count = size;
      size = λ p h. (c p h).size;
      entry = λ l i t p q h. (c (l * d + i) (place_below l i d e p q)).built t h ∙ (s t h).entry l i p q;
    }
