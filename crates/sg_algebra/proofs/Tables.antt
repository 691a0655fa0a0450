-- Lists of rows: facts of each row, and places past one that is left out.
--   Each P n xs          there are n rows, and P j holds of the row j for each j below n
--   each_push            it grows by a push: get_below, get_last, push_size
--   row_read, past_table the row that is read at a place; past the end it is empty
--   skip p i             the place of the item i where the place p is left out: i below p, else one more; skip_other
use Rattle.std.proofs.Common.{◌≡◌, ℕ, zero, suc, ◌+◌, ◌<◌, ◌≤◌, refl, sym, List, [], ◌∷◌, ◌++◌, length, get_or, ◌⊎◌, inl, inr, arith}

module _ {K : Type 0} where
  -- a fact of each row below n
  pub record Each (P : ℕ → List K → Type 0) (n : ℕ) (xs : List (List K)) : Type 0 where
    pub size : length xs ≡ n
    pub each : (j : ℕ) → j < n → P j (get_or xs j [])

  pub get_below : (xs : List (List K)) (c : List K) (j : ℕ) → j < length xs → get_or (xs ++ c ∷ []) j [] ≡ get_or xs j []
  get_below [] c j h = absurd (omega arith)
  get_below (x ∷ xs) c zero h = refl
  get_below (x ∷ xs) c (suc j) h = get_below xs c j (omega arith)

  pub get_last : (xs : List (List K)) (c : List K) (j : ℕ) → j ≡ length xs → get_or (xs ++ c ∷ []) j [] ≡ c
  get_last [] c zero h = refl
  get_last [] c (suc j) h = absurd (omega arith)
  get_last (x ∷ xs) c zero h = absurd (omega arith)
  get_last (x ∷ xs) c (suc j) h = get_last xs c j (omega arith)

  pub push_size : (xs : List (List K)) (c : List K) → length (xs ++ c ∷ []) ≡ length xs + 1
  push_size [] c = refl
  push_size (x ∷ xs) c = omega (arith, push_size xs c)

  pub each_push : (P : ℕ → List K → Type 0) (n : ℕ) (xs new : List (List K)) (c : List K) → Each P n xs → P n c → new ≡ xs ++ c ∷ [] → Each P (n + 1) new
  each_push P n xs new c b p e = rw e (record { size = omega (arith, push_size xs c, b.size); each = go })
    where
      split : (k n : ℕ) → (k < n) ⊎ (n ≤ k)
      split k n = grind arith

      go : (j : ℕ) → j < n + 1 → P j (get_or (xs ++ c ∷ []) j [])
      go j h = elim (split j n) [
        | inl l ↦ rw (get_below xs c j (omega (arith, b.size))) (b.each j l)
        | inr g ↦ let same : j ≡ n = omega arith in rw (get_last xs c j (omega (arith, b.size)), same) p
      ]

pub past_table : {K : Type 0} (xs : List (List K)) (j : ℕ) → length xs ≤ j → get_or xs j [] ≡ []
past_table [] j h = refl
past_table (x ∷ xs) zero h = absurd (omega arith)
past_table (x ∷ xs) (suc j) h = past_table xs j (omega arith)

pub row_read : {K : Type 0} (xs : List (List K)) (i : ℕ) (x : List K) → i < length xs → x ≡ get_or xs i x → get_or xs i [] ≡ x
row_read [] i x h e = absurd (omega arith)
row_read (y ∷ xs) zero x h e = sym e
row_read (y ∷ xs) (suc i) x h e = row_read xs i x (omega arith) e

abbrev pub skip : ℕ → ℕ → ℕ
skip zero i = suc i
skip (suc p) zero = zero
skip (suc p) (suc i) = suc (skip p i)

pub skip_other : (p i : ℕ) → ¬ (p ≡ skip p i)
skip_other zero i e = absurd (omega arith)
skip_other (suc p) zero e = absurd (omega arith)
skip_other (suc p) (suc i) e = skip_other p i (omega arith)
