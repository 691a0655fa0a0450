-- A row added to a system in reduced echelon form.
--   leads_pivot, pivot_entry  the rows lead at the pivots, and are unit vectors there
--   system_start, place_after the system without rows; which rows lead before a place
--   echelon_zero              a combination that is 0 at the pivots is 0
--   rest_start, rest_more     what is left of a row, one row of the system after the other
--   after_own, after_other    one row of the system with a row more
--   nothing_left, nothing_new where nothing is left the row is spanned, and adds nothing
--   not_spanned               where something is left it isn't
--   after_echelon, after_system, after_span    the system with the row is in reduced echelon form, and spans what the old rows and the row span
use Rattle.std.proofs.Common.{◌≡◌, ℕ, ◌+◌, ◌<◌, ◌≤◌, refl, sym, subst, ◌∙◌, ap, List, [], ◌∷◌, ◌++◌, map, length, get_or, ◌⊎◌, inl, inr, arith}
use Rattle.sg_algebra.proofs.Solver.{ring, by, scale, reads}
use Rattle.sg_algebra.proofs.Lists.{length_map}
use Rattle.sg_algebra.proofs.Value.{Value, zero_value, one_value, ◌-ᵛ◌, ◌*ᵛ◌, neg_value, inv_value}
use Rattle.sg_algebra.proofs.ValueField.{ValueR, value_mul-inv, value_one_ne, zero_mul_value}
use Rattle.sg_algebra.proofs.Polynomial.{coefficient}
use Rattle.sg_algebra.proofs.Sums.{sum-zero}
use Rattle.sg_algebra.proofs.Tables.{Each, past_table, skip, skip_other}
use Rattle.sg_algebra.proofs.Linear.{Span, vector, unit, table, row}
use Rattle.sg_algebra.proofs.NullSpace.{axis_one, axis_zero, axis_skip}
use Rattle.sg_matrix.specs.Systems.{LeadsAt, IsEchelon, IsSystem, SameSpan}
use Rattle.sg_matrix.specs.Steps.{IsRest, IsAfter}
use Rattle.sg_matrix.proofs.Leads.{leads_unique}
use Rattle.sg_matrix.proofs.Places.{spot_of, skip_inside, skip_room, skip_above, skip_below, skip_order, skip_same, spot, spot_own, spot_skip}
use Rattle.sg_matrix.proofs.Spans.{span_total, span_zero, span_same, span_times, span_row, span_rows, span_entry, all_pushed, span_push, span_last}

split : (k n : ℕ) → (k < n) ⊎ (n ≤ k)
split k n = grind arith

last_or_below : (n i : ℕ) → i < n + 1 → (i < n) ⊎ (i ≡ n)
last_or_below n i l = grind arith

module _ {K : Type 0} {d : ℕ} (v : K → Value d) where
  pub leads_pivot : (bs : List (List K)) (e : IsEchelon v bs) (i : ℕ) → i < length bs → LeadsAt (row v bs i) (e.pivot i)
  leads_pivot bs e i l = record { zeros = e.first i l; some = λ z. value_one_ne d (sym (e.one i i l l ∙ axis_one i i refl) ∙ z) }

  pub pivot_entry : (bs : List (List K)) (e : IsEchelon v bs) (l i : ℕ) → i < length bs → row v bs l (e.pivot i) ≡ unit l i
  pivot_entry bs e l i h = elim (split l (length bs)) [
    | inl q ↦ e.one l i q h
    | inr g ↦ ap (λ (p : List K). coefficient (map v p) (e.pivot i)) (past_table bs l g) ∙ sym (axis_zero l i (λ s. omega arith))
  ]

  pub system_start : (w : ℕ) → IsSystem v w []
  system_start w = record {
    sized = λ i l. absurd (omega arith);
    echelon = record { pivot = λ i. i; one = λ i j l h. absurd (omega arith); ascending = λ i j l h. absurd (omega arith); first = λ i l k h. absurd (omega arith) };
  }

  -- the rows from m on lead no earlier than the row m
  pub place_after : (bs : List (List K)) (e : IsEchelon v bs) (m j : ℕ) (b : List K) → m < length bs → get_or bs m [] ≡ b → ((p : ℕ) → LeadsAt (coefficient (map v b)) p → j ≤ p)
      → (i p : ℕ) → m ≤ i → i < length bs → LeadsAt (row v bs i) p → j ≤ p
  place_after bs e m j b l t h i p g q a = go (split m i)
    where
      from : j ≤ e.pivot m
      from = h (e.pivot m) (subst (λ (r : List K). LeadsAt (coefficient (map v r)) (e.pivot m)) t (leads_pivot bs e m l))

      is : p ≡ e.pivot i
      is = leads_unique (row v bs i) p (e.pivot i) a (leads_pivot bs e i q)

      go : (m < i) ⊎ (i ≤ m) → j ≤ p
      go (inl s) = let r : e.pivot m < e.pivot i = e.ascending m i s q in omega (arith, is, from)
      go (inr s) = let r : i ≡ m = omega arith in omega (arith, is, from, ap e.pivot r)

  pub echelon_zero : (bs : List (List K)) (e : IsEchelon v bs) (f : ℕ → Value d) → Span (table v bs) f → ((i : ℕ) → i < length bs → f (e.pivot i) ≡ zero_value) → (k : ℕ) → f k ≡ zero_value
  echelon_zero bs e f s z k = span_total (table v bs) f s k
      ∙ sum-zero (ValueR d) (λ l. coefficient s.coeffs l *ᵛ vector (table v bs) l k) (length (table v bs)) (λ l h. ap (λ x. x *ᵛ vector (table v bs) l k) (none l (omega (arith, length_map (map v) bs))) ∙ zero_mul_value (vector (table v bs) l k))
    where
      none : (i : ℕ) → i < length bs → coefficient s.coeffs i ≡ zero_value
      none i h = sym (span_entry v bs e.pivot (pivot_entry bs e) f s i h) ∙ z i h

  -- ---- What is left of a row
  pub rest_start : (bs : List (List K)) (given : List K) → IsRest v bs 0 given given
  rest_start bs given = record {
    size = refl;
    span = span_zero (table v bs) (λ k. coefficient (map v given) k -ᵛ coefficient (map v given) k) (λ k. ring (ValueR d) (coefficient (map v given) k ∷ []) (search reads depth 16) refl);
    zeros = λ i p h a. absurd (omega arith);
  }

  rest_row : (bs : List (List K)) (e : IsEchelon v bs) (i : ℕ) (given rest new : List K) → i < length bs → length new ≡ length rest
      → ((p : ℕ) → LeadsAt (row v bs i) p → (k : ℕ) → coefficient (map v new) k ≡ coefficient (map v rest) k -ᵛ coefficient (map v rest) p *ᵛ row v bs i k)
      → IsRest v bs i given rest → IsRest v bs (i + 1) given new
  rest_row bs e i given rest new l s h r = record {
    size = s ∙ r.size;
    span = span_times (coefficient (map v rest) (e.pivot i)) (table v bs) (row v bs i) (λ k. coefficient (map v given) k -ᵛ coefficient (map v rest) k) (λ k. coefficient (map v given) k -ᵛ coefficient (map v new) k) (span_row v bs i) r.span
        (λ k. by (ValueR d) (coefficient (map v given) k ∷ coefficient (map v rest) k ∷ coefficient (map v new) k ∷ coefficient (map v rest) (e.pivot i) ∷ row v bs i k ∷ []) ((ValueR d).symm (h (e.pivot i) (leads_pivot bs e i l) k)) (search reads depth 20) refl);
    zeros = λ m p q a. elim (last_or_below i m q) [
      | inl g ↦ old m p g a
      | inr t ↦ own p (rw (sym t) a)
    ];
  }
    where
      old : (m p : ℕ) → m < i → LeadsAt (row v bs m) p → coefficient (map v new) p ≡ zero_value
      old m p g a = h (e.pivot i) (leads_pivot bs e i l) p
          ∙ by (ValueR d) (coefficient (map v rest) p ∷ coefficient (map v rest) (e.pivot i) ∷ row v bs i p ∷ []) ((ValueR d).add_cong (r.zeros m p g a) (scale (ValueR d) (neg_value (coefficient (map v rest) (e.pivot i))) off)) (search reads depth 20) refl
        where
          off : row v bs i p ≡ zero_value
          off = ap (row v bs i) (leads_unique (row v bs m) p (e.pivot m) a (leads_pivot bs e m (omega arith))) ∙ e.one i m l (omega arith) ∙ axis_zero i m (λ z. omega arith)

      own : (p : ℕ) → LeadsAt (row v bs i) p → coefficient (map v new) p ≡ zero_value
      own p a = h p a p ∙ by (ValueR d) (coefficient (map v rest) p ∷ row v bs i p ∷ []) (scale (ValueR d) (neg_value (coefficient (map v rest) p)) on) (search reads depth 20) refl
        where
          on : row v bs i p ≡ one_value
          on = ap (row v bs i) (leads_unique (row v bs i) p (e.pivot i) a (leads_pivot bs e i l)) ∙ e.one i i l l ∙ axis_one i i refl

  -- by the row that is read
  pub rest_more : (bs : List (List K)) (e : IsEchelon v bs) (i : ℕ) (b given rest new : List K) → i < length bs → get_or bs i [] ≡ b → length new ≡ length rest
      → ((p : ℕ) → LeadsAt (coefficient (map v b)) p → (k : ℕ) → coefficient (map v new) k ≡ coefficient (map v rest) k -ᵛ coefficient (map v rest) p *ᵛ coefficient (map v b) k)
      → IsRest v bs i given rest → IsRest v bs (i + 1) given new
  rest_more bs e i b given rest new l t s h r = rest_row bs e i given rest new l s
      (subst (λ (q : List K). (p : ℕ) → LeadsAt (coefficient (map v q)) p → (k : ℕ) → coefficient (map v new) k ≡ coefficient (map v rest) k -ᵛ coefficient (map v rest) p *ᵛ coefficient (map v q) k) (sym t) h) r

  rest_pivot : (bs : List (List K)) (e : IsEchelon v bs) (given rest : List K) → IsRest v bs (length bs) given rest → (i : ℕ) → i < length bs → coefficient (map v rest) (e.pivot i) ≡ zero_value
  rest_pivot bs e given rest r i l = r.zeros i (e.pivot i) l (leads_pivot bs e i l)

  -- ---- One row of the system with a row more
  pub after_own : (bs : List (List K)) (rest : List K) (j place i : ℕ) (new : List K) → i ≡ place → length new ≡ length rest
      → ((k : ℕ) → coefficient (map v new) k ≡ coefficient (map v rest) k *ᵛ inv_value (coefficient (map v rest) j)) → IsAfter v bs rest j place i new
  after_own bs rest j place i new e s h = record { size = s; own = λ t. h; other = λ m t k. absurd (skip_other place m (sym e ∙ t)) }

  pub after_other : (bs : List (List K)) (rest : List K) (j place i m : ℕ) (new : List K) → i ≡ skip place m → length new ≡ length rest
      → ((k : ℕ) → coefficient (map v new) k ≡ row v bs m k -ᵛ (row v bs m j *ᵛ inv_value (coefficient (map v rest) j)) *ᵛ coefficient (map v rest) k) → IsAfter v bs rest j place i new
  after_other bs rest j place i m new e s h = record { size = s; own = λ t. absurd (skip_other place m (sym t ∙ e)); other = λ n t. rw (skip_same place n m (sym t ∙ e)) h }

  pub nothing_left : (bs : List (List K)) (given rest : List K) → IsRest v bs (length bs) given rest → ((k : ℕ) → coefficient (map v rest) k ≡ zero_value) → Span (table v bs) (coefficient (map v given))
  nothing_left bs given rest r z = span_same (table v bs) (λ k. coefficient (map v given) k -ᵛ coefficient (map v rest) k) (coefficient (map v given))
      (λ k. by (ValueR d) (coefficient (map v given) k ∷ coefficient (map v rest) k ∷ []) (z k) (search reads depth 16) refl) r.span

  pub nothing_new : (bs : List (List K)) (given : List K) → Span (table v bs) (coefficient (map v given)) → SameSpan v bs (bs ++ given ∷ [])
  nothing_new bs given s f = (span_push v bs given f, span_rows v bs (bs ++ given ∷ []) f (all_pushed v (λ r. Span (table v bs) (coefficient (map v r))) bs given (λ i l. span_row v bs i) s))

  pub not_spanned : (bs : List (List K)) (e : IsEchelon v bs) (given rest : List K) (j : ℕ) → IsRest v bs (length bs) given rest → LeadsAt (coefficient (map v rest)) j → ¬ Span (table v bs) (coefficient (map v given))
  not_spanned bs e given rest j r a s = a.some (echelon_zero bs e (coefficient (map v rest))
      (span_times (neg_value one_value) (table v bs) (λ k. coefficient (map v given) k -ᵛ coefficient (map v rest) k) (coefficient (map v given)) (coefficient (map v rest)) r.span s
      (λ k. ring (ValueR d) (coefficient (map v given) k ∷ coefficient (map v rest) k ∷ []) (search reads depth 20) refl))
      (rest_pivot bs e given rest r) j)

-- ---- The system with a row of which something is left, first at j; the rows below `place` lead before j, and the others don't
module _ {K : Type 0} {d : ℕ} (v : K → Value d) (bs new : List (List K)) (given rest : List K) (j place : ℕ) (e : IsEchelon v bs) (r : IsRest v bs (length bs) given rest) (a : LeadsAt (coefficient (map v rest)) j)
    (inside : place ≤ length bs) (before : (i p : ℕ) → i < place → LeadsAt (row v bs i) p → p < j) (after : (i p : ℕ) → place ≤ i → i < length bs → LeadsAt (row v bs i) p → j ≤ p)
    (n : Each (IsAfter v bs rest j place) (length bs + 1) new) where
  own_row : (k : ℕ) → row v new place k ≡ coefficient (map v rest) k *ᵛ inv_value (coefficient (map v rest) j)
  own_row k = (n.each place (omega arith)).own refl k

  old_row : (m : ℕ) → m < length bs → (k : ℕ) → row v new (skip place m) k ≡ row v bs m k -ᵛ (row v bs m j *ᵛ inv_value (coefficient (map v rest) j)) *ᵛ coefficient (map v rest) k
  old_row m l k = (n.each (skip place m) (skip_room place m (length bs) l)).other m refl k

  rest_at : (m : ℕ) → m < length bs → coefficient (map v rest) (e.pivot m) ≡ zero_value
  rest_at m l = r.zeros m (e.pivot m) l (leads_pivot v bs e m l)

  -- the pivots of the old rows aren't j
  apart : (m : ℕ) → m < length bs → ¬ (e.pivot m ≡ j)
  apart m l s = a.some (ap (coefficient (map v rest)) (sym s) ∙ rest_at m l)

  inside_of : (i m : ℕ) → i < length new → i ≡ skip place m → m < length bs
  inside_of i m l s = skip_inside place m (length bs) inside (omega (arith, n.size))

  one_at : (i k : ℕ) → i < length new → k < length new → (i ≡ place) ⊎ ((m : ℕ) × (i ≡ skip place m)) → (k ≡ place) ⊎ ((m : ℕ) × (k ≡ skip place m)) → row v new i (spot place j e.pivot k) ≡ unit i k
  one_at i k l h (inl s) (inl t) = rw (s, t, spot_own place j e.pivot) (own_row j ∙ value_mul-inv d (coefficient (map v rest) j) a.some ∙ sym (axis_one place place refl))
  one_at i k l h (inl s) (inr t) = rw (s, t.1, spot_skip place j e.pivot t.0) (own_row (e.pivot t.0)
      ∙ ap (λ y. y *ᵛ inv_value (coefficient (map v rest) j)) (rest_at t.0 (inside_of k t.0 h t.1)) ∙ zero_mul_value (inv_value (coefficient (map v rest) j)) ∙ sym (axis_zero place (skip place t.0) (skip_other place t.0)))
  one_at i k l h (inr s) (inl t) = rw (s.1, t, spot_own place j e.pivot) (old_row s.0 (inside_of i s.0 l s.1) j
      ∙ by (ValueR d) (row v bs s.0 j ∷ inv_value (coefficient (map v rest) j) ∷ coefficient (map v rest) j ∷ []) (scale (ValueR d) (neg_value (row v bs s.0 j)) (value_mul-inv d (coefficient (map v rest) j) a.some)) (search reads depth 20) refl
      ∙ sym (axis_zero (skip place s.0) place (λ q. skip_other place s.0 (sym q))))
  one_at i k l h (inr s) (inr t) = rw (s.1, t.1, spot_skip place j e.pivot t.0) (old_row s.0 (inside_of i s.0 l s.1) (e.pivot t.0)
      ∙ by (ValueR d) (row v bs s.0 (e.pivot t.0) ∷ row v bs s.0 j ∷ inv_value (coefficient (map v rest) j) ∷ coefficient (map v rest) (e.pivot t.0) ∷ [])
      (scale (ValueR d) (neg_value (row v bs s.0 j *ᵛ inv_value (coefficient (map v rest) j))) (rest_at t.0 (inside_of k t.0 h t.1))) (search reads depth 20) refl
      ∙ e.one s.0 t.0 (inside_of i s.0 l s.1) (inside_of k t.0 h t.1) ∙ sym (axis_skip place s.0 t.0))

  rises : (i k : ℕ) → i < k → k < length new → (i ≡ place) ⊎ ((m : ℕ) × (i ≡ skip place m)) → (k ≡ place) ⊎ ((m : ℕ) × (k ≡ skip place m)) → spot place j e.pivot i < spot place j e.pivot k
  rises i k l h (inl s) (inl t) = absurd (omega arith)
  rises i k l h (inl s) (inr t) = rw (s, t.1, spot_own place j e.pivot, spot_skip place j e.pivot t.0) (above (e.pivot t.0) (apart t.0 (inside_of k t.0 h t.1))
      (after t.0 (e.pivot t.0) (skip_above place t.0 (omega arith)) (inside_of k t.0 h t.1) (leads_pivot v bs e t.0 (inside_of k t.0 h t.1))))
    where
      above : (p : ℕ) → ¬ (p ≡ j) → j ≤ p → j < p
      above p w q = grind arith
  rises i k l h (inr s) (inl t) = rw (s.1, t, spot_own place j e.pivot, spot_skip place j e.pivot s.0)
      (before s.0 (e.pivot s.0) (skip_below place s.0 (omega arith)) (leads_pivot v bs e s.0 (inside_of i s.0 (omega arith) s.1)))
  rises i k l h (inr s) (inr t) = rw (s.1, t.1, spot_skip place j e.pivot s.0, spot_skip place j e.pivot t.0) (e.ascending s.0 t.0 (skip_order place s.0 t.0 (omega arith)) (inside_of k t.0 h t.1))

  first_at : (i : ℕ) → i < length new → (k : ℕ) → k < spot place j e.pivot i → (i ≡ place) ⊎ ((m : ℕ) × (i ≡ skip place m)) → row v new i k ≡ zero_value
  first_at i l k h (inl s) = rw s (own_row k ∙ ap (λ y. y *ᵛ inv_value (coefficient (map v rest) j)) (a.zeros k (rw (s, spot_own place j e.pivot) at h)) ∙ zero_mul_value (inv_value (coefficient (map v rest) j)))
  first_at i l k h (inr s) = rw (s.1) (old_row s.0 m k ∙ go (split k j))
    where
      m : s.0 < length bs
      m = inside_of i s.0 l s.1

      g : k < e.pivot s.0
      g = rw (s.1, spot_skip place j e.pivot s.0) at h

      go : (k < j) ⊎ (j ≤ k) → row v bs s.0 k -ᵛ (row v bs s.0 j *ᵛ inv_value (coefficient (map v rest) j)) *ᵛ coefficient (map v rest) k ≡ zero_value
      go (inl q) = by (ValueR d) (row v bs s.0 k ∷ row v bs s.0 j ∷ inv_value (coefficient (map v rest) j) ∷ coefficient (map v rest) k ∷ [])
          ((ValueR d).add_cong (e.first s.0 m k g) (scale (ValueR d) (neg_value (row v bs s.0 j *ᵛ inv_value (coefficient (map v rest) j))) (a.zeros k q))) (search reads depth 20) refl
      go (inr q) = by (ValueR d) (row v bs s.0 k ∷ row v bs s.0 j ∷ inv_value (coefficient (map v rest) j) ∷ coefficient (map v rest) k ∷ [])
          ((ValueR d).add_cong (e.first s.0 m k g) (scale (ValueR d) (neg_value (inv_value (coefficient (map v rest) j) *ᵛ coefficient (map v rest) k)) (e.first s.0 m j (omega (arith, g))))) (search reads depth 20) refl

  pub after_echelon : IsEchelon v new
  after_echelon = record {
    pivot = spot place j e.pivot;
    one = λ i k l h. one_at i k l h (spot_of place i) (spot_of place k);
    ascending = λ i k l h. rises i k l h (spot_of place i) (spot_of place k);
    first = λ i l k h. first_at i l k h (spot_of place i);
  }

  pub after_system : (w : ℕ) → length given ≡ w → IsSystem v w new
  after_system w h = record { sized = λ i l. (n.each i (omega (arith, n.size))).size ∙ r.size ∙ h; echelon = after_echelon }

  -- ---- What it spans
  rest_old : Span (table v (bs ++ given ∷ [])) (coefficient (map v rest))
  rest_old = span_times (neg_value one_value) (table v (bs ++ given ∷ [])) (λ k. coefficient (map v given) k -ᵛ coefficient (map v rest) k) (coefficient (map v given)) (coefficient (map v rest))
      (span_push v bs given (λ k. coefficient (map v given) k -ᵛ coefficient (map v rest) k) r.span) (span_last v bs given)
      (λ k. ring (ValueR d) (coefficient (map v given) k ∷ coefficient (map v rest) k ∷ []) (search reads depth 20) refl)

  new_old : (i : ℕ) → i < length new → (i ≡ place) ⊎ ((m : ℕ) × (i ≡ skip place m)) → Span (table v (bs ++ given ∷ [])) (row v new i)
  new_old i l (inl s) = rw s (span_times (inv_value (coefficient (map v rest) j)) (table v (bs ++ given ∷ [])) (coefficient (map v rest)) (λ k. zero_value) (row v new place) rest_old (span_zero (table v (bs ++ given ∷ [])) (λ k. zero_value) (λ k. refl))
      (λ k. own_row k ∙ ring (ValueR d) (coefficient (map v rest) k ∷ inv_value (coefficient (map v rest) j) ∷ []) (search reads depth 20) refl))
  new_old i l (inr s) = rw (s.1) (span_times (neg_value (row v bs s.0 j *ᵛ inv_value (coefficient (map v rest) j))) (table v (bs ++ given ∷ [])) (coefficient (map v rest)) (row v bs s.0) (row v new (skip place s.0))
      rest_old (span_push v bs given (row v bs s.0) (span_row v bs s.0))
      (λ k. old_row s.0 (inside_of i s.0 l s.1) k ∙ ring (ValueR d) (row v bs s.0 k ∷ row v bs s.0 j ∷ coefficient (map v rest) k ∷ inv_value (coefficient (map v rest) j) ∷ []) (search reads depth 20) refl))

  rest_new : Span (table v new) (coefficient (map v rest))
  rest_new = span_times (coefficient (map v rest) j) (table v new) (row v new place) (λ k. zero_value) (coefficient (map v rest)) (span_row v new place) (span_zero (table v new) (λ k. zero_value) (λ k. refl))
      (λ k. by (ValueR d) (coefficient (map v rest) j ∷ inv_value (coefficient (map v rest) j) ∷ coefficient (map v rest) k ∷ row v new place k ∷ [])
      ((ValueR d).add_cong (scale (ValueR d) (neg_value (coefficient (map v rest) j)) (own_row k)) (scale (ValueR d) (neg_value (coefficient (map v rest) k)) (value_mul-inv d (coefficient (map v rest) j) a.some))) (search reads depth 20) refl)

  old_new : (m : ℕ) → m < length bs → Span (table v new) (row v bs m)
  old_new m l = span_times (row v bs m j *ᵛ inv_value (coefficient (map v rest) j)) (table v new) (coefficient (map v rest)) (row v new (skip place m)) (row v bs m) rest_new (span_row v new (skip place m))
      (λ k. by (ValueR d) (row v bs m k ∷ row v bs m j ∷ inv_value (coefficient (map v rest) j) ∷ coefficient (map v rest) k ∷ row v new (skip place m) k ∷ []) ((ValueR d).symm (old_row m l k)) (search reads depth 20) refl)

  given_new : Span (table v new) (coefficient (map v given))
  given_new = span_times one_value (table v new) (λ k. coefficient (map v given) k -ᵛ coefficient (map v rest) k) (coefficient (map v rest)) (coefficient (map v given))
      (span_rows v new bs (λ k. coefficient (map v given) k -ᵛ coefficient (map v rest) k) old_new r.span) rest_new
      (λ k. ring (ValueR d) (coefficient (map v given) k ∷ coefficient (map v rest) k ∷ []) (search reads depth 20) refl)

  pub after_span : SameSpan v new (bs ++ given ∷ [])
  after_span f = (
    span_rows v (bs ++ given ∷ []) new f (λ i l. new_old i l (spot_of place i)),
    span_rows v new (bs ++ given ∷ []) f (all_pushed v (λ q. Span (table v new) (coefficient (map v q))) bs given old_new given_new),
  )
