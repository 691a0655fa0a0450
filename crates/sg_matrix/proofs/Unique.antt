-- Rows in reduced form are known from what they span: those of a system in echelon form, and the basis of all null vectors.
--   Owns v bs p         each row has a column p of its own, with 1 there and 0 in those of the others, and these ascend
--   entries             a vector that is spanned is the sum of such rows times its own entries in their columns
--   met                 the column of each row is the column of a row of another such list
--   late, fewer, reach  ascending columns that are among others are no more and no earlier
--   one_list            two such lists, each spanning the other's rows, have equal rows
--   one_system          two systems in reduced echelon form with the same combinations have equal rows
--   IsNullBasis v w rows basis    what `null_basis` answers; one_null_basis: there is one
use Rattle.std.proofs.Common.{◌≡◌, ℕ, zero, suc, ◌<◌, ◌≤◌, refl, sym, ◌∙◌, ap, List, [], ◌∷◌, map, length, get_or, ◌⊎◌, inl, inr, arith}
use Rattle.sg_algebra.proofs.Solver.{by, scale, reads}
use Rattle.sg_algebra.proofs.Lists.{length_map}
use Rattle.sg_algebra.proofs.Value.{Value, zero_value, ◌*ᵛ◌}
use Rattle.sg_algebra.proofs.ValueField.{ValueR, zero_mul_value, mul_zero_value, value_mul_comm, value_one_ne}
use Rattle.sg_algebra.proofs.Polynomial.{coefficient}
use Rattle.sg_algebra.proofs.Sums.{sum, sum_cong, sum-zero, sum_unit}
use Rattle.sg_algebra.proofs.Rows.{past_row}
use Rattle.sg_algebra.proofs.Tables.{past_table}
use Rattle.sg_algebra.proofs.Linear.{row_times, Span, vector, unit, table, row, Form}
use Rattle.sg_algebra.proofs.NullSpace.{axis_one, axis_zero}
use Rattle.sg_matrix.specs.Systems.{IsEchelon, SameSpan}
use Rattle.sg_matrix.proofs.Spans.{span_total, span_row, span_entry, in_table}

order : (p q : ℕ) → (p ≡ q) ⊎ ((p < q) ⊎ (q < p))
order p q = grind arith

split : (k n : ℕ) → (k < n) ⊎ (n ≤ k)
split k n = grind arith

-- a column is among the first n, or it isn't
search_column : (own : ℕ → ℕ) (p n : ℕ) → ((j : ℕ) × (j < n) × (own j ≡ p)) ⊎ ((j : ℕ) → j < n → ¬ (own j ≡ p))
search_column own p zero = inr (λ j h. absurd (omega arith))
search_column own p (suc n) = go (order (own n) p) (search_column own p n)
  where
    up : (j : ℕ) → j < n → j < suc n
    up j h = omega arith

    last : (j : ℕ) → j < suc n → (j ≡ n) ⊎ (j < n)
    last j h = grind arith

    more : ¬ (own n ≡ p) → ((j : ℕ) → j < n → ¬ (own j ≡ p)) → (j : ℕ) → j < suc n → ¬ (own j ≡ p)
    more k f j h s = elim (last j h) [ inl t ↦ k (ap own (sym t) ∙ s) | inr q ↦ f j q s ]

    other : ¬ (own n ≡ p) → ((j : ℕ) × (j < n) × (own j ≡ p)) ⊎ ((j : ℕ) → j < n → ¬ (own j ≡ p)) → ((j : ℕ) × (j < suc n) × (own j ≡ p)) ⊎ ((j : ℕ) → j < suc n → ¬ (own j ≡ p))
    other k (inl s) = inl (s.0, up s.0 s.1, s.2)
    other k (inr f) = inr (more k f)

    go : (own n ≡ p) ⊎ ((own n < p) ⊎ (p < own n)) → ((j : ℕ) × (j < n) × (own j ≡ p)) ⊎ ((j : ℕ) → j < n → ¬ (own j ≡ p)) → ((j : ℕ) × (j < suc n) × (own j ≡ p)) ⊎ ((j : ℕ) → j < suc n → ¬ (own j ≡ p))
    go (inl e) r = inl (n, omega arith, e)
    go (inr (inl l)) r = other (λ s. omega arith) r
    go (inr (inr l)) r = other (λ s. omega arith) r

-- ---- Ascending columns that are among other ascending ones
module _ (n m : ℕ) (own other : ℕ → ℕ) (rises : (i j : ℕ) → i < j → j < n → own i < own j) (goes : (i j : ℕ) → i < j → j < m → other i < other j) (found : (i : ℕ) → i < n → (j : ℕ) × (j < m) × (other j ≡ own i)) where
  next : (i a b : ℕ) → a < m → b < m → other a ≡ own i → other b ≡ own (suc i) → suc i < n → i ≤ a → suc i ≤ b
  next i a b p q s t h l = go (order a b)
    where
      go : (a ≡ b) ⊎ ((a < b) ⊎ (b < a)) → suc i ≤ b
      go (inl e) = let r : own i < own (suc i) = rises i (suc i) (omega arith) h in absurd (omega (arith, ap other e, s, t))
      go (inr (inl e)) = omega arith
      go (inr (inr e)) = let r : own i < own (suc i) = rises i (suc i) (omega arith) h in let u : other b < other a = goes b a e p in absurd (omega (arith, s, t))

  late : (i : ℕ) (h : i < n) → i ≤ (found i h).0
  late zero h = omega arith
  late (suc i) h = next i (found i q).0 (found (suc i) h).0 (found i q).1 (found (suc i) h).1 (found i q).2 (found (suc i) h).2 h (late i q)
    where
      q : i < n
      q = omega arith

  fewer : n ≤ m
  fewer = elim (split m n) [ inl l ↦ (let a = late m l in let b = (found m l).1 in absurd (omega (arith, late m l, (found m l).1))) | inr g ↦ g ]

  reach : (i : ℕ) → i < n → other i ≤ own i
  reach i h = go (order i (found i h).0)
    where
      go : (i ≡ (found i h).0) ⊎ ((i < (found i h).0) ⊎ ((found i h).0 < i)) → other i ≤ own i
      go (inl e) = omega (arith, ap other e, (found i h).2)
      go (inr (inl l)) = let r : other i < other (found i h).0 = goes i (found i h).0 l (found i h).1 in omega (arith, (found i h).2)
      go (inr (inr l)) = absurd (omega (arith, late i h))

module _ {K : Type 0} {d : ℕ} (v : K → Value d) where
  pub record Owns (bs : List (List K)) (p : ℕ → ℕ) : Type 0 where
    pub one : (i j : ℕ) → i < length bs → j < length bs → row v bs i (p j) ≡ unit i j
    pub ascending : (i j : ℕ) → i < j → j < length bs → p i < p j

  past_entry : (bs : List (List K)) (l k : ℕ) → length bs ≤ l → row v bs l k ≡ zero_value
  past_entry bs l k h = ap (λ (q : List K). coefficient (map v q) k) (past_table bs l h)

  own_entry : (bs : List (List K)) (p : ℕ → ℕ) (f : Owns bs p) (l i : ℕ) → i < length bs → row v bs l (p i) ≡ unit l i
  own_entry bs p f l i h = elim (split l (length bs)) [
    | inl q ↦ f.one l i q h
    | inr g ↦ past_entry bs l (p i) g ∙ sym (axis_zero l i (λ s. omega arith))
  ]

  pub entries : (bs : List (List K)) (p : ℕ → ℕ) → Owns bs p → (g : ℕ → Value d) → Span (table v bs) g → (k : ℕ) → g k ≡ sum (ValueR d) (λ l. g (p l) *ᵛ row v bs l k) (length bs)
  entries bs p f g s k = span_total (table v bs) g s k ∙ ap (sum (ValueR d) (λ l. coefficient s.coeffs l *ᵛ vector (table v bs) l k)) (length_map (map v) bs)
      ∙ sum_cong (ValueR d) (λ l. coefficient s.coeffs l *ᵛ vector (table v bs) l k) (λ l. g (p l) *ᵛ row v bs l k) (length bs)
      (λ l h. ap (λ x. x *ᵛ vector (table v bs) l k) (sym (span_entry v bs p (own_entry bs p f) g s l h)) ∙ ap (λ x. g (p l) *ᵛ x) (in_table v bs l k))

  -- where two columns differ one of the two entries is 0
  Apart : List (List K) → (ℕ → ℕ) → List (List K) → (ℕ → ℕ) → Type 0
  Apart bs p cs q = (i j : ℕ) → i < length bs → j < length cs → ¬ (q j ≡ p i) → row v bs i (q j) *ᵛ row v cs j (p i) ≡ zero_value

  met : (bs cs : List (List K)) (p q : ℕ → ℕ) → Owns bs p → Owns cs q → Apart bs p cs q → ((i : ℕ) → i < length bs → Span (table v cs) (row v bs i)) → (i : ℕ) → i < length bs → (j : ℕ) × (j < length cs) × (q j ≡ p i)
  unfolding Apart
  met bs cs p q f e a s i h = elim (search_column q (p i) (length cs)) [
    | inl r ↦ r
    | inr none ↦ absurd (value_one_ne d (sym (f.one i i h h ∙ axis_one i i refl) ∙ entries cs q e (row v bs i) (s i h) (p i)
        ∙ sum-zero (ValueR d) (λ j. row v bs i (q j) *ᵛ row v cs j (p i)) (length cs) (λ j l. a i j h l (none j l))))
  ]

  turned : (bs cs : List (List K)) (p q : ℕ → ℕ) → Apart bs p cs q → Apart cs q bs p
  unfolding Apart
  turned bs cs p q a i j h l n = value_mul_comm d (row v cs i (p j)) (row v bs j (q i)) ∙ a j i l h (λ s. n (sym s))

  one_list : (bs cs : List (List K)) (p q : ℕ → ℕ) → Owns bs p → Owns cs q → Apart bs p cs q → ((i : ℕ) → i < length bs → Span (table v cs) (row v bs i)) → ((i : ℕ) → i < length cs → Span (table v bs) (row v cs i))
      → (length bs ≡ length cs) × ((i k : ℕ) → i < length bs → row v bs i k ≡ row v cs i k)
  one_list bs cs p q f e a s t = (
    size,
    λ i k h. entries cs q e (row v bs i) (s i h) k
        ∙ sum_unit (ValueR d) (λ j. row v bs i (q j) *ᵛ row v cs j k) (length cs) i (omega (arith, size)) (λ j n. elim (split j (length bs)) [
          | inl l ↦ ap (λ x. x *ᵛ row v cs j k) (ap (row v bs i) (sym (columns j l)) ∙ f.one i j h l ∙ axis_zero i j (λ z. n (sym z))) ∙ zero_mul_value (row v cs j k)
          | inr g ↦ ap (λ x. row v bs i (q j) *ᵛ x) (past_entry cs j k (omega (arith, size))) ∙ mul_zero_value (row v bs i (q j))
        ])
        ∙ by (ValueR d) (row v bs i (q i) ∷ row v cs i k ∷ []) (scale (ValueR d) (row v cs i k) (ap (row v bs i) (sym (columns i h)) ∙ f.one i i h h ∙ axis_one i i refl)) (search reads depth 16) refl,
  )
    where
      size : length bs ≡ length cs
      size = omega (arith, fewer (length bs) (length cs) p q f.ascending e.ascending (met bs cs p q f e a s), fewer (length cs) (length bs) q p e.ascending f.ascending (met cs bs q p e f (turned bs cs p q a) t))

      columns : (i : ℕ) → i < length bs → p i ≡ q i
      columns i h = omega (
        arith,
        reach (length bs) (length cs) p q f.ascending e.ascending (met bs cs p q f e a s) i h,
        reach (length cs) (length bs) q p e.ascending f.ascending (met cs bs q p e f (turned bs cs p q a) t) i (omega (arith, size)),
      )

  pub one_system : (bs cs : List (List K)) → IsEchelon v bs → IsEchelon v cs → SameSpan v bs cs → (length bs ≡ length cs) × ((i k : ℕ) → i < length bs → row v bs i k ≡ row v cs i k)
  unfolding Apart
  one_system bs cs f e s = one_list bs cs f.pivot e.pivot (record { one = f.one; ascending = f.ascending }) (record { one = e.one; ascending = e.ascending }) (λ i j h l n. term i j h l n (order (e.pivot j) (f.pivot i)))
      (λ i h. (s (row v bs i)).0 (span_row v bs i)) (λ i h. (s (row v cs i)).1 (span_row v cs i))
    where
      term : (i j : ℕ) → i < length bs → j < length cs → ¬ (e.pivot j ≡ f.pivot i) → (e.pivot j ≡ f.pivot i) ⊎ ((e.pivot j < f.pivot i) ⊎ (f.pivot i < e.pivot j)) → row v bs i (e.pivot j) *ᵛ row v cs j (f.pivot i) ≡ zero_value
      term i j h l n (inl t) = absurd (n t)
      term i j h l n (inr (inl t)) = ap (λ x. x *ᵛ row v cs j (f.pivot i)) (f.first i h (e.pivot j) t) ∙ zero_mul_value (row v cs j (f.pivot i))
      term i j h l n (inr (inr t)) = ap (λ x. row v bs i (e.pivot j) *ᵛ x) (e.first j l (f.pivot i) t) ∙ mul_zero_value (row v bs i (e.pivot j))

  one_form : (bs cs : List (List K)) → Form v bs → Form v cs → ((i : ℕ) → i < length bs → Span (table v cs) (row v bs i)) → ((i : ℕ) → i < length cs → Span (table v bs) (row v cs i))
      → (length bs ≡ length cs) × ((i k : ℕ) → i < length bs → row v bs i k ≡ row v cs i k)
  unfolding Apart
  one_form bs cs f e s t = one_list bs cs f.own e.own (record { one = f.one; ascending = f.ascending }) (record { one = e.one; ascending = e.ascending }) (λ i j h l n. term i j h l n (order (e.own j) (f.own i))) s t
    where
      term : (i j : ℕ) → i < length bs → j < length cs → ¬ (e.own j ≡ f.own i) → (e.own j ≡ f.own i) ⊎ ((e.own j < f.own i) ⊎ (f.own i < e.own j)) → row v bs i (e.own j) *ᵛ row v cs j (f.own i) ≡ zero_value
      term i j h l n (inl r) = absurd (n r)
      term i j h l n (inr (inl r)) = ap (λ x. row v bs i (e.own j) *ᵛ x) (e.last j l (f.own i) r) ∙ mul_zero_value (row v bs i (e.own j))
      term i j h l n (inr (inr r)) = ap (λ x. x *ᵛ row v cs j (f.own i)) (f.last i h (e.own j) r) ∙ zero_mul_value (row v cs j (f.own i))

  pub record IsNullBasis (w : ℕ) (rows basis : List (List K)) : Type 0 where
    pub sized : (i : ℕ) → i < length basis → length (get_or basis i []) ≡ w
    pub sound : (j : ℕ) → j < length rows → (i : ℕ) → row_times (map v (get_or rows j [])) (coefficient (map v (get_or basis i []))) ≡ zero_value
    pub form : Form v basis
    pub complete : (f : ℕ → Value d) → ((k : ℕ) → w ≤ k → f k ≡ zero_value) → ((j : ℕ) → j < length rows → row_times (map v (get_or rows j [])) f ≡ zero_value) → Span (table v basis) f

  pub one_null_basis : (w : ℕ) (rows bs cs : List (List K)) → IsNullBasis w rows bs → IsNullBasis w rows cs → (length bs ≡ length cs) × ((i k : ℕ) → i < length bs → row v bs i k ≡ row v cs i k)
  one_null_basis w rows bs cs a b = one_form bs cs a.form b.form
      (λ i h. b.complete (row v bs i) (λ k g. past_row v (get_or bs i []) k (omega (arith, a.sized i h))) (λ j q. a.sound j q i))
      (λ i h. a.complete (row v cs i) (λ k g. past_row v (get_or cs i []) k (omega (arith, b.sized i h))) (λ j q. b.sound j q i))
