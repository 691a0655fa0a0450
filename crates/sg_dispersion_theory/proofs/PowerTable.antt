-- The search of a certificate as a system of linear equations: one row of the table for each entry of the arrays, one column for each power of the step.
--   v                       which value an item of the table stands for
--   PowerTable v d e a b n rows    the row at the place l d + i holds the entries at (l, i) of the start after 0, 1, .., n - 1 steps
--   null_certificate        what each row sends to 0 is a certificate
--   certificate_null        each certificate of at most n factors is sent to 0 by each row
--   basis_some              where n is above d e, what spans all that each row sends to 0 isn't empty
--   row_times-sum           the product of a row and a vector is a sum
use Rattle.std.proofs.Common.{◌≡◌, ℕ, zero, suc, ◌+◌, ◌*◌, ◌/◌, ◌%◌, ◌<◌, ◌≤◌, refl, sym, ◌∙◌, ap, ap₂, List, [], ◌∷◌, length, map, get_or, arith}
use Rattle.sg_algebra.specs.Ring.{Ring}
use Rattle.sg_algebra.proofs.Ring.{mul_O, O_mul}
use Rattle.sg_algebra.proofs.Lists.{length_map}
use Rattle.sg_algebra.proofs.Sums.{sum, sum_cong, sum-zero, sum-first, sum-split}
use Rattle.sg_algebra.proofs.Value.{Value, zero_value, ◌+ᵛ◌, ◌*ᵛ◌}
use Rattle.sg_algebra.proofs.ValueField.{ValueR, ValueF, value_mul_comm}
use Rattle.sg_algebra.proofs.Polynomial.{coefficient}
use Rattle.sg_algebra.proofs.Rows.{at_past}
use Rattle.sg_algebra.proofs.Linear.{row_times, combined, Span}
use Rattle.sg_dispersion_theory.proofs.Step.{iterate}
use Rattle.sg_dispersion_theory.proofs.Certificate.{Certificate, weighted}
use Rattle.sg_dispersion_theory.proofs.RowPlaces.{place_below, line_below, column_below, place_is}
use Rattle.sg_dispersion_theory.proofs.SomeCertificate.{SomeCertificate, some_certificate}

-- sums of different lengths, where all terms past either are zero
module _ (R : Ring) where
  open R use {A, ◌≈◌, O, rfl, symm, trans, add_cong, add_O}

  sum_past : (f : ℕ → A) (n k : ℕ) → ((i : ℕ) → n ≤ i → f i ≈ O) → sum R f (n + k) ≈ sum R f n
  sum_past f n k h = trans (sum-split R f n k) (trans (add_cong rfl (sum-zero R (λ i. f (n + i)) k (λ i l. h (n + i) (omega arith)))) add_O)

  sums_same : (f : ℕ → A) (m n : ℕ) → ((i : ℕ) → m ≤ i → f i ≈ O) → ((i : ℕ) → n ≤ i → f i ≈ O) → sum R f m ≈ sum R f n
  sums_same f m n h k = trans (symm (sum_past f m n h)) (trans (rw (turned m n) rfl) (sum_past f n m k))
    where
      turned : (m n : ℕ) → m + n ≡ n + m
      turned m n = omega arith

module _ {depth : ℕ} where
  pub row_times-sum : (r : List (Value depth)) (f : ℕ → Value depth) (n : ℕ) → length r ≤ n → row_times r f ≡ sum (ValueR depth) (λ t. f t *ᵛ coefficient r t) n
  row_times-sum [] f n l = sym (sum-zero (ValueR depth) (λ t. f t *ᵛ zero_value) n (λ t h. mul_O (ValueR depth)))
  row_times-sum (x ∷ r) f zero l = absurd (omega arith)
  row_times-sum (x ∷ r) f (suc n) l =
      ap₂ ◌+ᵛ◌ (value_mul_comm depth x (f 0)) (row_times-sum r (λ t. f (suc t)) n (omega arith)) ∙ sym (sum-first (ValueR depth) (λ t. f t *ᵛ coefficient (x ∷ r) t) n)

  combined-none : (cs : List (Value depth)) (k : ℕ) → combined cs [] k ≡ zero_value
  combined-none [] k = refl
  combined-none (c ∷ cs) k = refl

module _ {K : Type 0} {depth : ℕ} (v : K → Value depth) (d e : ℕ) (a b : List (Value depth)) where
  abbrev R : Ring
  R = ValueR depth

  abbrev power : ℕ → ℕ → ℕ → Value depth
  power = iterate R d e a b

  gone : (D : List (Value depth)) (l i t : ℕ) → coefficient D t ≡ zero_value → coefficient D t *ᵛ power t l i ≡ zero_value
  gone D l i t h = rw h (O_mul R)

  pub record PowerTable (n : ℕ) (rows : List (List K)) : Type 0 where
    pub count : length rows ≡ d * e
    pub size : (p : ℕ) → p < d * e → length (get_or rows p []) ≡ n
    pub entry : (l i t : ℕ) → l < e → i < d → t < n → coefficient (map v (get_or rows (l * d + i) [])) t ≡ power t l i

  module _ (n : ℕ) (rows : List (List K)) (m : PowerTable n rows) where
    row_is : (f : ℕ → Value depth) (l i : ℕ) → l < e → i < d → row_times (map v (get_or rows (l * d + i) [])) f ≡ sum R (λ t. f t *ᵛ power t l i) n
    row_is f l i p q =
        row_times-sum (map v (get_or rows (l * d + i) [])) f n (rw (length_map v (get_or rows (l * d + i) [])) (omega (arith, m.size (l * d + i) (place_below l i d e p q))))
        ∙ sum_cong R (λ t. f t *ᵛ coefficient (map v (get_or rows (l * d + i) [])) t) (λ t. f t *ᵛ power t l i) n (λ t h. ap (◌*ᵛ◌ (f t)) (m.entry l i t p q h))

    pub null_certificate : (D : List (Value depth)) → ((k : ℕ) → n ≤ k → coefficient D k ≡ zero_value)
        → ((j : ℕ) → j < length rows → row_times (map v (get_or rows j [])) (coefficient D) ≡ zero_value) → Certificate R d e a b D
    null_certificate D past null = record { none = none }
      where
        none : (l i : ℕ) → l < e → i < d → weighted R d e a b D (length D) l i ≡ zero_value
        none l i p q =
            sums_same R (λ t. coefficient D t *ᵛ power t l i) (length D) n (λ t h. gone D l i t (at_past D t h)) (λ t h. gone D l i t (past t h))
            ∙ sym (row_is (coefficient D) l i p q) ∙ null (l * d + i) (rw m.count (place_below l i d e p q))

    pub certificate_null : (D : List (Value depth)) → length D ≤ n → Certificate R d e a b D → (j : ℕ) → j < length rows → row_times (map v (get_or rows j [])) (coefficient D) ≡ zero_value
    certificate_null D s c j h = at_place j (rw m.count at h)
      where
        at_entry : (l i : ℕ) → l < e → i < d → row_times (map v (get_or rows (l * d + i) [])) (coefficient D) ≡ zero_value
        at_entry l i p q =
            row_is (coefficient D) l i p q
            ∙ sums_same R (λ t. coefficient D t *ᵛ power t l i) n (length D) (λ t k. gone D l i t (at_past D t (omega arith))) (λ t k. gone D l i t (at_past D t k)) ∙ c.none l i p q

        at_place : (j : ℕ) → j < d * e → row_times (map v (get_or rows j [])) (coefficient D) ≡ zero_value
        at_place j h = rw (place_is j d) at (at_entry (j / d) (j % d) (line_below j d e h) (column_below j d e h))

    pub basis_some : (basis : List (List (Value depth))) → d * e < n
        → ((f : ℕ → Value depth) → ((k : ℕ) → n ≤ k → f k ≡ zero_value) → ((j : ℕ) → j < length rows → row_times (map v (get_or rows j [])) f ≡ zero_value) → Span basis f)
        → 0 < length basis
    basis_some basis l complete = go basis (complete (coefficient c.D) (λ k h. at_past c.D k (omega (arith, c.short))) (certificate_null c.D (omega (arith, c.short)) c.is))
      where
        c : SomeCertificate (ValueF depth) d e a b
        c = some_certificate (ValueF depth) d e a b

        go : (bs : List (List (Value depth))) → Span bs (coefficient c.D) → 0 < length bs
        go [] s = absurd (c.some.ne (s.is c.some.place ∙ combined-none s.coeffs c.some.place))
        go (x ∷ bs) s = omega arith
