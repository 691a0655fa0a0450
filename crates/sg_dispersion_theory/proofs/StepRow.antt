-- The array of e lines with d entries as one row of d e items: the entry (l, i) stands at the place l d + i.
--   entries R d row             the array that a row holds
--   Stands R d e row w          the row has d e items, and they are the entries of the array w
--   step_at R d e a b row p     what stands at the place p after a step: with l = p / d and i = p % d, the entry at (l, i) after the step of the array that the row holds
--   step_at_by                  it is  up - b_l low - left + a_i last,  for the items that `Parts` says
--   Parts R d e row p up low left last    `up` is the item d places before p, or 0 in the first line; `left` is the item before p, or 0 at the start of a line;
--                               `low` stands in the last line in the column of p, and `last` ends the line of p
--   stands_by                   a row whose items are the entries of an array, place by place
--   step_stands                 a row whose items are `step_at` of a row before it is the array after a step
use Rattle.std.proofs.Common.{◌≡◌, ℕ, zero, suc, ◌+◌, ◌*◌, ◌-◌, ◌/◌, ◌%◌, ◌≤◌, ◌<◌, refl, sym, List, length, arith}
use Rattle.std.proofs.lemmas.Nat.{div-mul-add, mod-mul-add}
use Rattle.sg_algebra.specs.Ring.{Ring}
use Rattle.sg_algebra.specs.Coefficients.{coef}
use Rattle.sg_dispersion_theory.proofs.Terms.{earlier}
use Rattle.sg_dispersion_theory.proofs.Step.{step, step_cong}
use Rattle.sg_dispersion_theory.proofs.RowPlaces.{place_below, some_below, column_below, place_is}

module _ (R : Ring) (d e : ℕ) where
  open R use {A, ◌≈◌, ◌⊞◌, ◌⊠◌, ⊟, O, rfl, symm, trans, add_cong, mul_cong, neg_cong}

  abbrev pub entries : List A → ℕ → ℕ → A
  entries row l i = coef R row (l * d + i)

  pub record Stands (row : List A) (w : ℕ → ℕ → A) : Type 0 where
    pub size : length row ≡ d * e
    pub entry : (l i : ℕ) → l < e → i < d → coef R row (l * d + i) ≈ w l i

  abbrev pub step_at : (a b row : List A) → ℕ → A
  step_at a b row p = step R d e a b (entries row) (p / d) (p % d)

  -- ---- The items that a step takes

  pub record Parts (row : List A) (p : ℕ) (up low left last : A) : Type 0 where
    pub up_none : p < d → up ≈ O
    pub up_some : d ≤ p → up ≈ coef R row (p - d)
    pub low_is : low ≈ coef R row ((e - 1) * d + p % d)
    pub left_none : p % d ≡ 0 → left ≈ O
    pub left_some : 0 < p % d → left ≈ coef R row (p - 1)
    pub last_is : last ≈ coef R row (p / d * d + (d - 1))

  earlier_up : (row : List A) (l i p : ℕ) (up : A) → p ≡ l * d + i → i < d → (p < d → up ≈ O) → (d ≤ p → up ≈ coef R row (p - d)) → earlier R (λ n. coef R row (n * d + i)) l ≈ up
  earlier_up row zero i p up e q none some = symm (none (omega arith))
  earlier_up row (suc l) i p up e q none some = symm (trans (some (omega arith)) (rw (before p l i e) rfl))
    where
      before : (p l i : ℕ) → p ≡ suc l * d + i → p - d ≡ l * d + i
      before p l i e = omega arith

  earlier_left : (row : List A) (l i p : ℕ) (left : A) → p ≡ l * d + i → (i ≡ 0 → left ≈ O) → (0 < i → left ≈ coef R row (p - 1)) → earlier R (λ n. coef R row (l * d + n)) i ≈ left
  earlier_left row l zero p left e none some = symm (none refl)
  earlier_left row l (suc i) p left e none some = symm (trans (some (omega arith)) (rw (before p l i e) rfl))
    where
      before : (p l i : ℕ) → p ≡ l * d + suc i → p - 1 ≡ l * d + i
      before p l i e = omega arith

  earlier_last : (f : ℕ → A) (n : ℕ) (x : A) → 0 < n → x ≈ f (n - 1) → earlier R f n ≈ x
  earlier_last f zero x l h = absurd (omega arith)
  earlier_last f (suc n) x l h = symm (rw (same n) at h)
    where
      same : (n : ℕ) → suc n - 1 ≡ n
      same n = omega arith

  pub step_at_by : (a b row : List A) (p : ℕ) (up low left last : A) → p < d * e → Parts row p up low left last
      → step_at a b row p ≈ up ⊞ ⊟ (coef R b (p / d) ⊠ low) ⊞ ⊟ left ⊞ coef R a (p % d) ⊠ last
  step_at_by a b row p up low left last s h =
      add_cong (add_cong (add_cong (earlier_up row (p / d) (p % d) p up (sym (place_is p d)) (column_below p d e s) h.up_none h.up_some)
      (neg_cong (mul_cong rfl (earlier_last (λ n. coef R row (n * d + p % d)) e low (some_below p d e s).1 h.low_is))))
      (neg_cong (earlier_left row (p / d) (p % d) p left (sym (place_is p d)) h.left_none h.left_some)))
      (mul_cong rfl (earlier_last (λ n. coef R row (p / d * d + n)) d last (some_below p d e s).0 h.last_is))

  -- ---- Rows that are built item by item

  -- the items of a row, place by place, are entries of an array
  pub stands_by : (row : List A) (w : ℕ → ℕ → A) → length row ≡ d * e → ((p : ℕ) → p < d * e → coef R row p ≈ w (p / d) (p % d)) → Stands row w
  stands_by row w s h = record {
    size = s;
    entry = λ l i p q. rw (div-mul-add l d i q, mod-mul-add l d i q) at (h (l * d + i) (place_below l i d e p q));
  }

  pub step_stands : (a b row new : List A) (w : ℕ → ℕ → A) → Stands row w → length new ≡ d * e → ((p : ℕ) → p < d * e → coef R new p ≈ step_at a b row p)
      → Stands new (step R d e a b w)
  step_stands a b row new w s size h =
      let n = stands_by new (step R d e a b (entries row)) size h in
      record { size = size; entry = λ l i p q. trans (n.entry l i p q) (step_cong R d e a b (entries row) w s.entry l i p q) }
