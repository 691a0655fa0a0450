-- Rows of whole numbers.
--   at_default      an item within a list is the same whatever stands past its end
--   row_step        Horner's rule, from the last coefficient of a row on
--   front_same, front_ends    a list without the zeros at its end
--   cut_same, cut_trimmed     such lists without the empty ones at the end
use Rattle.std.proofs.Common.{◌≡◌, ◌≢◌, ℕ, zero, suc, ◌-◌, ◌<◌, ◌≤◌, refl, sym, ◌∙◌, ap, List, [], ◌∷◌, length, take, drop, get_or, ℤ, pos, ◌⊎◌, inl, inr, arith}
use Rattle.sg_algebra.specs.Coefficients.{eval}
use Rattle.sg_algebra.proofs.Value.{Value, ◌+ᵛ◌, ◌*ᵛ◌}
use Rattle.sg_algebra.proofs.ValueField.{ValueR}
use Rattle.sg_algebra.proofs.Rational.{whole_value}
use Rattle.sg_algebra.proofs.Rows.{drop_step}
use Rattle.sg_algebra.proofs.Tables.{Each, past_table}
use Rattle.sg_poly.specs.Plane.{entry, row_at, EndsNotZero, IsFront, IsTrimmed}

split : (k n : ℕ) → (k < n) ⊎ (n ≤ k)
split k n = grind arith

pub at_default : {A : Type 0} (xs : List A) (j : ℕ) (x y : A) → j < length xs → get_or xs j x ≡ get_or xs j y
at_default [] j x y h = absurd (omega arith)
at_default (z ∷ xs) zero x y h = refl
at_default (z ∷ xs) (suc j) x y h = at_default xs j x y (omega arith)

pub row_step : (list : List ℤ) (i j : ℕ) (x : Value 0) → i ≡ suc j → j < length list → row_at (drop j list) x ≡ whole_value 0 (get_or list j (pos 0)) +ᵛ x *ᵛ row_at (drop i list) x
row_step list i j x e h = ap (λ (p : List (Value 0)). eval (ValueR 0) p x) (drop_step (whole_value 0) list i j (get_or list j (pos 0)) e h (at_default list j (pos 0) (get_or list j (pos 0)) h))

-- ---- Without the zeros at the end

past : (xs : List ℤ) (k : ℕ) → length xs ≤ k → get_or xs k (pos 0) ≡ pos 0
past [] k h = refl
past (x ∷ xs) zero h = absurd (omega arith)
past (x ∷ xs) (suc k) h = past xs k (omega arith)

front : (xs : List ℤ) (n k : ℕ) → k < n → get_or (take n xs) k (pos 0) ≡ get_or xs k (pos 0)
front xs zero k h = absurd (omega arith)
front [] (suc n) k h = refl
front (x ∷ xs) (suc n) zero h = refl
front (x ∷ xs) (suc n) (suc k) h = front xs n k (omega arith)

front_length : {A : Type 0} (xs : List A) (n : ℕ) → n ≤ length xs → length (take n xs) ≡ n
front_length xs zero h = refl
front_length [] (suc n) h = absurd (omega arith)
front_length (x ∷ xs) (suc n) h = ap suc (front_length xs n (omega arith))

pub front_same : (xs : List ℤ) (n : ℕ) → n ≤ length xs → ((k : ℕ) → n ≤ k → get_or xs k (pos 0) ≡ pos 0) → (k : ℕ) → get_or (take n xs) k (pos 0) ≡ get_or xs k (pos 0)
front_same xs n l z k = elim (split k n) [
  | inl h ↦ front xs n k h
  | inr g ↦ past (take n xs) k (omega (arith, front_length xs n l)) ∙ sym (z k g)
]

pub front_ends : (xs : List ℤ) (n : ℕ) → n ≤ length xs → (0 < n → get_or xs (n - 1) (pos 0) ≢ pos 0) → EndsNotZero (take n xs)
front_ends xs n l h m e z =
    let same : n ≡ suc m = sym (front_length xs n l) ∙ e in
    let last : n - 1 ≡ m = omega (arith, same) in
    h (omega (arith, same)) (ap (λ k. get_or xs k (pos 0)) last ∙ sym (front xs n m (omega (arith, same))) ∙ z)

-- ---- Rows of rows

cut_row : (xs : List (List ℤ)) (n k : ℕ) → k < n → get_or (take n xs) k [] ≡ get_or xs k []
cut_row xs zero k h = absurd (omega arith)
cut_row [] (suc n) k h = refl
cut_row (x ∷ xs) (suc n) zero h = refl
cut_row (x ∷ xs) (suc n) (suc k) h = cut_row xs n k (omega arith)

no_end : EndsNotZero []
no_end n e = absurd (omega arith)

module _ (rows new : List (List ℤ)) (n : ℕ) (c : Each (λ j r. IsFront (get_or rows j []) r) (length rows) new) (l : n ≤ length new)
    (z : (k : ℕ) → n ≤ k → get_or new k [] ≡ []) (h : (k : ℕ) → n ≡ suc k → get_or new k [] ≢ [])
  where
    pub cut_same : (i j : ℕ) → entry (take n new) i j ≡ entry rows i j
    cut_same i j = elim (split i n) [
      | inl a ↦ ap (λ (r : List ℤ). get_or r j (pos 0)) (cut_row new n i a) ∙ (c.each i (omega (arith, c.size))).same j
      | inr b ↦ ap (λ (r : List ℤ). get_or r j (pos 0)) (past_table (take n new) i (omega (arith, front_length new n l))) ∙ elim (split i (length rows)) [
        | inl a ↦ ap (λ (r : List ℤ). get_or r j (pos 0)) (sym (z i b)) ∙ (c.each i a).same j
        | inr d ↦ ap (λ (r : List ℤ). get_or r j (pos 0)) (sym (past_table rows i d))
      ]
    ]

    pub cut_trimmed : IsTrimmed (take n new)
    cut_trimmed = record {
      rows = λ i. elim (split i n) [
        | inl a ↦ rw (cut_row new n i a) (c.each i (omega (arith, c.size))).ends
        | inr b ↦ rw (past_table (take n new) i (omega (arith, front_length new n l))) no_end
      ];
      last = λ m e s.
          let same : n ≡ suc m = sym (front_length new n l) ∙ e in
          h m same (sym (cut_row new n m (omega arith)) ∙ s);
    }
