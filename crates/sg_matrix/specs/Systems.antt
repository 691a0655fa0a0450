-- Systems of rows in reduced echelon form, whatever the items of a row are: `v` says which value an item stands for.
--   LeadsAt f p         p is the first place at which f isn't 0
--   IsEchelon v bs      the rows are in reduced echelon form: each has a pivot, with 1 there, 0 before it and 0 there in the other rows; the pivots ascend
--   System K            a width, and rows; `system w bs` is the one of these
--   IsSystem v w bs     the rows have the width and are in reduced echelon form
--   ConstantsPlus v x c y r    the constants r are x + c y, place by place
--   SameSpan v xs ys    the rows xs and the rows ys have the same combinations
use Rattle.std.specs.Prelude.{◌≡◌, ℕ, ◌<◌, List, [], length, map, get_or, ◌↔◌}
use Rattle.sg_algebra.proofs.Value.{Value, ◌+ᵛ◌, ◌*ᵛ◌, zero_value}
use Rattle.sg_algebra.proofs.Polynomial.{coefficient}
use Rattle.sg_algebra.proofs.Linear.{row, unit, table, Span}

pub record LeadsAt {d : ℕ} (f : ℕ → Value d) (p : ℕ) : Type 0 where
  pub zeros : (k : ℕ) → k < p → f k ≡ zero_value
  pub some : ¬ (f p ≡ zero_value)

abbrev pub ConstantsPlus : {K : Type 0} {d : ℕ} → (K → Value d) → List K → Value d → List K → List K → Type 0
ConstantsPlus v x c y r = (i : ℕ) → coefficient (map v r) i ≡ coefficient (map v x) i +ᵛ c *ᵛ coefficient (map v y) i

pub record System (K : Type 0) : Type 0 where
  pub width : ℕ
  pub rows : List (List K)

abbrev pub system : {K : Type 0} → ℕ → List (List K) → System K
system w bs = record { width = w; rows = bs }

module _ {K : Type 0} {d : ℕ} (v : K → Value d) where
  pub record IsEchelon (bs : List (List K)) : Type 0 where
    pub pivot : ℕ → ℕ
    pub one : (i j : ℕ) → i < length bs → j < length bs → row v bs i (pivot j) ≡ unit i j
    pub ascending : (i j : ℕ) → i < j → j < length bs → pivot i < pivot j
    pub first : (i : ℕ) → i < length bs → (k : ℕ) → k < pivot i → row v bs i k ≡ zero_value

  pub record IsSystem (w : ℕ) (bs : List (List K)) : Type 0 where
    pub sized : (i : ℕ) → i < length bs → length (get_or bs i []) ≡ w
    pub echelon : IsEchelon bs

  abbrev pub SameSpan : List (List K) → List (List K) → Type 0
  SameSpan xs ys = (f : ℕ → Value d) → Span (table v xs) f ↔ Span (table v ys) f
