-- The null vectors of a system in reduced echelon form: one for each free column.
--   image_free, image_pivot, image_none    the entries of the vector of a column; that of a pivot's column is 0
--   image_past             past the width it is 0
--   image_null, image_all                  the rows send it to 0; each null vector is the sum of these vectors times its own entries
--   IsColumns v bs p w m basis             the basis has the vectors of the free columns below m
--   columns_start, columns_free, columns_pivot    it grows by a free column, and doesn't by a pivot's
--   columns_full, columns_sound, columns_complete, columns_form    in the end it is the basis in reduced form
--   IsHeld v rows i held                   the rows held stand for the first i rows: each of these is their combination, and what these send to 0 they do
--   held_start, held_more, held_null       it grows by a row
use Rattle.std.proofs.Common.{◌≡◌, ℕ, suc, ◌+◌, ◌<◌, ◌≤◌, refl, sym, subst, ◌∙◌, ap, List, [], ◌∷◌, ◌++◌, map, length, get_or, ◌⊎◌, inl, inr, arith}
use Rattle.sg_algebra.proofs.Solver.{ring, by, scale, reads}
use Rattle.sg_algebra.proofs.Lists.{length_map}
use Rattle.sg_algebra.proofs.Value.{Value, zero_value, ◌+ᵛ◌, ◌-ᵛ◌, ◌*ᵛ◌, neg_value}
use Rattle.sg_algebra.proofs.ValueField.{ValueR, zero_mul_value, mul_zero_value}
use Rattle.sg_algebra.proofs.Polynomial.{coefficient}
use Rattle.sg_algebra.proofs.Sums.{sum, sum_cong, sum-zero, sum_unit, sum-add, sum-neg, sum-swap, sum-scale}
use Rattle.sg_algebra.proofs.Rows.{past_row}
use Rattle.sg_algebra.proofs.Tables.{past_table, get_below, get_last, push_size}
use Rattle.sg_algebra.proofs.Linear.{row_times, Span, unit, table, row, Form}
use Rattle.sg_algebra.proofs.NullSpace.{axis_one, axis_zero, row_times_cong, past_row_dot}
use Rattle.sg_matrix.specs.Systems.{LeadsAt, IsEchelon, IsSystem, SameSpan}
use Rattle.sg_matrix.specs.Steps.{IsFree, IsVector, image}
use Rattle.sg_matrix.proofs.Leads.{leads_unique}
use Rattle.sg_matrix.proofs.Places.{skip_low, spot, spot_own, spot_skip}
use Rattle.sg_matrix.proofs.Spans.{against, row_against, against_unit, against_less, null_span, span_zero, span_same, span_times, span_row, all_pushed, span_push, span_last}
use Rattle.sg_matrix.proofs.Adding.{leads_pivot, pivot_entry}

order : (p q : ℕ) → (p ≡ q) ⊎ ((p < q) ⊎ (q < p))
order p q = grind arith

split : (k n : ℕ) → (k < n) ⊎ (n ≤ k)
split k n = grind arith

last_or_below : (n i : ℕ) → i < n + 1 → (i < n) ⊎ (i ≡ n)
last_or_below n i l = grind arith

module _ {K : Type 0} {d : ℕ} (v : K → Value d) where
  past_entry : (bs : List (List K)) (l k : ℕ) → length bs ≤ l → row v bs l k ≡ zero_value
  past_entry bs l k h = ap (λ (p : List K). coefficient (map v p) k) (past_table bs l h)

  free_pivot : (bs : List (List K)) (e : IsEchelon v bs) (k : ℕ) → IsFree v bs k → (l : ℕ) → l < length bs → ¬ (e.pivot l ≡ k)
  free_pivot bs e k h l q s = h l q (rw (sym s) (leads_pivot v bs e l q))

  pivot_other : (bs : List (List K)) (e : IsEchelon v bs) (m l : ℕ) → m < length bs → l < length bs → ¬ (m ≡ l) → ¬ (e.pivot m ≡ e.pivot l)
  pivot_other bs e m l h q n s = go (order m l)
    where
      go : (m ≡ l) ⊎ ((m < l) ⊎ (l < m)) → ⊥
      go (inl t) = n t
      go (inr (inl t)) = let a : e.pivot m < e.pivot l = e.ascending m l t q in omega arith
      go (inr (inr t)) = let a : e.pivot l < e.pivot m = e.ascending l m t h in omega arith

  pub pivot_within : (w : ℕ) (bs : List (List K)) (e : IsEchelon v bs) → ((i : ℕ) → i < length bs → length (get_or bs i []) ≡ w) → (l : ℕ) → l < length bs → e.pivot l < w
  pivot_within w bs e s l h = go (split (e.pivot l) w)
    where
      go : (e.pivot l < w) ⊎ (w ≤ e.pivot l) → e.pivot l < w
      go (inl t) = t
      go (inr t) = absurd ((leads_pivot v bs e l h).some (past_row v (get_or bs l []) (e.pivot l) (omega (arith, s l h))))

  -- ---- The vector of a column
  pub image_free : (bs : List (List K)) (e : IsEchelon v bs) (k i : ℕ) → IsFree v bs i → image v bs e.pivot k i ≡ unit k i
  image_free bs e k i h = by (ValueR d) (unit k i ∷ sum (ValueR d) (λ l. row v bs l k *ᵛ unit (e.pivot l) i) (length bs) ∷ [])
      ((ValueR d).neg_cong (sum-zero (ValueR d) (λ l. row v bs l k *ᵛ unit (e.pivot l) i) (length bs) (λ l q. ap (λ x. row v bs l k *ᵛ x) (axis_zero (e.pivot l) i (free_pivot bs e i h l q)) ∙ mul_zero_value (row v bs l k)))) (search reads depth 16) refl

  pub image_pivot : (bs : List (List K)) (e : IsEchelon v bs) (k i l : ℕ) → IsFree v bs k → l < length bs → LeadsAt (row v bs l) i → image v bs e.pivot k i ≡ zero_value -ᵛ row v bs l k
  image_pivot bs e k i l h q a = by (ValueR d) (unit k i ∷ sum (ValueR d) (λ m. row v bs m k *ᵛ unit (e.pivot m) i) (length bs) ∷ row v bs l k ∷ unit (e.pivot l) i ∷ [])
      ((ValueR d).add_cong (axis_zero k i off) ((ValueR d).add_cong ((ValueR d).neg_cong one_term) (scale (ValueR d) (neg_value (row v bs l k)) (axis_one (e.pivot l) i at_pivot)))) (search reads depth 20) refl
    where
      at_pivot : e.pivot l ≡ i
      at_pivot = leads_unique (row v bs l) (e.pivot l) i (leads_pivot v bs e l q) a

      off : ¬ (k ≡ i)
      off s = h l q (rw s a)

      one_term : sum (ValueR d) (λ m. row v bs m k *ᵛ unit (e.pivot m) i) (length bs) ≡ row v bs l k *ᵛ unit (e.pivot l) i
      one_term = sum_unit (ValueR d) (λ m. row v bs m k *ᵛ unit (e.pivot m) i) (length bs) l q (λ m n. elim (split m (length bs)) [
        | inl g ↦ ap (λ x. row v bs m k *ᵛ x) (axis_zero (e.pivot m) i (λ s. pivot_other bs e m l g q n (s ∙ sym at_pivot))) ∙ mul_zero_value (row v bs m k)
        | inr g ↦ ap (λ x. x *ᵛ unit (e.pivot m) i) (past_entry bs m k g) ∙ zero_mul_value (unit (e.pivot m) i)
      ])

  -- that of a pivot's column is 0
  pub image_none : (bs : List (List K)) (e : IsEchelon v bs) (k l : ℕ) → l < length bs → LeadsAt (row v bs l) k → (i : ℕ) → image v bs e.pivot k i ≡ zero_value
  image_none bs e k l q a i = by (ValueR d) (unit k i ∷ sum (ValueR d) (λ m. row v bs m k *ᵛ unit (e.pivot m) i) (length bs) ∷ row v bs l k ∷ unit (e.pivot l) i ∷ [])
      ((ValueR d).add_cong ((ValueR d).neg_cong one_term) ((ValueR d).add_cong (scale (ValueR d) (neg_value (unit (e.pivot l) i)) (entry l ∙ axis_one l l refl)) (ap (λ p. unit p i) at_pivot))) (search reads depth 20) refl
    where
      at_pivot : k ≡ e.pivot l
      at_pivot = leads_unique (row v bs l) k (e.pivot l) a (leads_pivot v bs e l q)

      entry : (m : ℕ) → row v bs m k ≡ unit m l
      entry m = ap (row v bs m) at_pivot ∙ pivot_entry v bs e m l q

      one_term : sum (ValueR d) (λ m. row v bs m k *ᵛ unit (e.pivot m) i) (length bs) ≡ row v bs l k *ᵛ unit (e.pivot l) i
      one_term = sum_unit (ValueR d) (λ m. row v bs m k *ᵛ unit (e.pivot m) i) (length bs) l q (λ m n. ap (λ x. x *ᵛ unit (e.pivot m) i) (entry m ∙ axis_zero m l n) ∙ zero_mul_value (unit (e.pivot m) i))

  pub image_null : (w : ℕ) (bs : List (List K)) (e : IsEchelon v bs) → ((i : ℕ) → i < length bs → length (get_or bs i []) ≡ w) → (k : ℕ) → k < w → (j : ℕ) → j < length bs → row_times (map v (get_or bs j [])) (image v bs e.pivot k) ≡ zero_value
  image_null w bs e s k h j q = row_against (map v (get_or bs j [])) (image v bs e.pivot k) w (omega (arith, length_map v (get_or bs j []), s j q))
      ∙ against_less w (row v bs j) (unit k) (λ l. row v bs l k) e.pivot (length bs) (pivot_within w bs e s)
      ∙ by (ValueR d) (against w (row v bs j) (unit k) ∷ row v bs j k ∷ sum (ValueR d) (λ l. row v bs l k *ᵛ row v bs j (e.pivot l)) (length bs) ∷ row v bs j (e.pivot j) ∷ [])
      ((ValueR d).add_cong (against_unit w (row v bs j) k h) ((ValueR d).add_cong ((ValueR d).neg_cong one_term) (scale (ValueR d) (neg_value (row v bs j k)) (pivot_entry v bs e j j q ∙ axis_one j j refl)))) (search reads depth 20) refl
    where
      one_term : sum (ValueR d) (λ l. row v bs l k *ᵛ row v bs j (e.pivot l)) (length bs) ≡ row v bs j k *ᵛ row v bs j (e.pivot j)
      one_term = sum_unit (ValueR d) (λ l. row v bs l k *ᵛ row v bs j (e.pivot l)) (length bs) j q (λ l n. elim (split l (length bs)) [
        | inl g ↦ ap (λ x. row v bs l k *ᵛ x) (pivot_entry v bs e j l g ∙ axis_zero j l (λ z. n (sym z))) ∙ mul_zero_value (row v bs l k)
        | inr g ↦ ap (λ x. x *ᵛ row v bs j (e.pivot l)) (past_entry bs l k g) ∙ zero_mul_value (row v bs j (e.pivot l))
      ])

  -- past the width
  pub image_past : (w : ℕ) (bs : List (List K)) (e : IsEchelon v bs) → ((i : ℕ) → i < length bs → length (get_or bs i []) ≡ w) → (k : ℕ) → k < w → (i : ℕ) → w ≤ i → image v bs e.pivot k i ≡ zero_value
  image_past w bs e s k h i g = image_free bs e k i (λ l q a. a.some (past_row v (get_or bs l []) i (omega (arith, s l q)))) ∙ axis_zero k i (λ t. omega arith)

  expanded : (w : ℕ) (f : ℕ → Value d) → ((k : ℕ) → w ≤ k → f k ≡ zero_value) → (i : ℕ) → sum (ValueR d) (λ k. f k *ᵛ unit k i) w ≡ f i
  expanded w f z i = elim (split i w) [
    | inl l ↦ sum_unit (ValueR d) (λ k. f k *ᵛ unit k i) w i l (λ k n. ap (λ x. f k *ᵛ x) (axis_zero k i n) ∙ mul_zero_value (f k)) ∙ by (ValueR d) (f i ∷ unit i i ∷ []) (scale (ValueR d) (f i) (axis_one i i refl)) (search reads depth 16) refl
    | inr g ↦ sum-zero (ValueR d) (λ k. f k *ᵛ unit k i) w (λ k l. ap (λ x. f k *ᵛ x) (axis_zero k i (λ s. omega arith)) ∙ mul_zero_value (f k)) ∙ sym (z i g)
  ]

  pub image_all : (w : ℕ) (bs : List (List K)) (e : IsEchelon v bs) (f : ℕ → Value d) → ((k : ℕ) → w ≤ k → f k ≡ zero_value) → ((l : ℕ) → l < length bs → against w (row v bs l) f ≡ zero_value)
      → (i : ℕ) → f i ≡ sum (ValueR d) (λ k. f k *ᵛ image v bs e.pivot k i) w
  image_all w bs e f z s i = sym (
      sum_cong (ValueR d) (λ k. f k *ᵛ image v bs e.pivot k i) (λ k. f k *ᵛ unit k i +ᵛ neg_value (sum (ValueR d) (λ l. f k *ᵛ (row v bs l k *ᵛ unit (e.pivot l) i)) (length bs))) w
      (λ k l. by (ValueR d) (f k ∷ unit k i ∷ sum (ValueR d) (λ l. row v bs l k *ᵛ unit (e.pivot l) i) (length bs) ∷ sum (ValueR d) (λ l. f k *ᵛ (row v bs l k *ᵛ unit (e.pivot l) i)) (length bs) ∷ [])
      (sum-scale (ValueR d) (f k) (λ l. row v bs l k *ᵛ unit (e.pivot l) i) (length bs)) (search reads depth 20) refl)
      ∙ sum-add (ValueR d) (λ k. f k *ᵛ unit k i) (λ k. neg_value (sum (ValueR d) (λ l. f k *ᵛ (row v bs l k *ᵛ unit (e.pivot l) i)) (length bs))) w
      ∙ by (ValueR d) (f i ∷ sum (ValueR d) (λ k. f k *ᵛ unit k i) w ∷ sum (ValueR d) (λ k. neg_value (sum (ValueR d) (λ l. f k *ᵛ (row v bs l k *ᵛ unit (e.pivot l) i)) (length bs))) w ∷ sum (ValueR d) (λ k. sum (ValueR d) (λ l. f k *ᵛ (row v bs l k *ᵛ unit (e.pivot l) i)) (length bs)) w ∷ [])
      ((ValueR d).add_cong (expanded w f z i) ((ValueR d).add_cong (sum-neg (ValueR d) (λ k. sum (ValueR d) (λ l. f k *ᵛ (row v bs l k *ᵛ unit (e.pivot l) i)) (length bs)) w) ((ValueR d).neg_cong none))) (search reads depth 20) refl)
    where
      none : sum (ValueR d) (λ k. sum (ValueR d) (λ l. f k *ᵛ (row v bs l k *ᵛ unit (e.pivot l) i)) (length bs)) w ≡ zero_value
      none = sum-swap (ValueR d) (λ k l. f k *ᵛ (row v bs l k *ᵛ unit (e.pivot l) i)) w (length bs) ∙ sum-zero (ValueR d) (λ l. sum (ValueR d) (λ k. f k *ᵛ (row v bs l k *ᵛ unit (e.pivot l) i)) w) (length bs) (λ l q.
          sum_cong (ValueR d) (λ k. f k *ᵛ (row v bs l k *ᵛ unit (e.pivot l) i)) (λ k. unit (e.pivot l) i *ᵛ (row v bs l k *ᵛ f k)) w (λ k h. ring (ValueR d) (f k ∷ row v bs l k ∷ unit (e.pivot l) i ∷ []) (search reads depth 16) refl)
          ∙ sum-scale (ValueR d) (unit (e.pivot l) i) (λ k. row v bs l k *ᵛ f k) w ∙ ap (λ x. unit (e.pivot l) i *ᵛ x) (s l q) ∙ mul_zero_value (unit (e.pivot l) i))

  -- ---- The basis, one column after the other
  pub record IsColumns (bs : List (List K)) (p : ℕ → ℕ) (w m : ℕ) (basis : List (List K)) : Type 0 where
    pub own : ℕ → ℕ
    pub below : (i : ℕ) → i < length basis → own i < m
    pub free : (i : ℕ) → i < length basis → IsFree v bs (own i)
    pub ascending : (i j : ℕ) → i < j → j < length basis → own i < own j
    pub vectors : (i : ℕ) → i < length basis → IsVector v bs p w (own i) (get_or basis i [])
    pub spans : (c : ℕ → Value d) → Span (table v basis) (λ i. sum (ValueR d) (λ k. c k *ᵛ image v bs p k i) m)

  pub columns_start : (bs : List (List K)) (p : ℕ → ℕ) (w : ℕ) → IsColumns bs p w 0 []
  columns_start bs p w = record {
    own = λ i. i;
    below = λ i l. absurd (omega arith);
    free = λ i l. absurd (omega arith);
    ascending = λ i j h l. absurd (omega arith);
    vectors = λ i l. absurd (omega arith);
    spans = λ c. span_zero (table v []) (λ i. zero_value) (λ i. refl);
  }

  one_more : (f : ℕ → Value d) (m : ℕ) → sum (ValueR d) f (m + 1) ≡ sum (ValueR d) f m +ᵛ f m
  one_more f m = let e : m + 1 ≡ suc m = omega arith in ap (sum (ValueR d) f) e

  pub columns_free : (bs : List (List K)) (p : ℕ → ℕ) (w m : ℕ) (basis new : List (List K)) (c : List K) → IsFree v bs m → IsVector v bs p w m c → new ≡ basis ++ c ∷ [] → IsColumns bs p w m basis → IsColumns bs p w (m + 1) new
  columns_free bs p w m basis new c h s e b = rw e (record {
    own = spot (length basis) m b.own;
    below = λ i l. elim (last i l) [ inl q ↦ rw (old i q) (let t : b.own i < m = b.below i q in omega arith) | inr t ↦ rw (t, here) (omega arith) ];
    free = λ i l. elim (last i l) [ inl q ↦ rw (old i q) (b.free i q) | inr t ↦ rw (t, here) h ];
    ascending = λ i j g l. elim (last j l) [
      | inl q ↦ rw (old i (omega arith), old j q) (b.ascending i j g q)
      | inr t ↦ rw (old i (omega arith), t, here) (b.below i (omega arith))
    ];
    vectors = λ i l. elim (last i l) [ inl q ↦ rw (old i q, get_below basis c i q) (b.vectors i q) | inr t ↦ rw (get_last basis c i t, t, here) s ];
    spans = λ a. span_times (a m) (table v (basis ++ c ∷ [])) (coefficient (map v c)) (λ i. sum (ValueR d) (λ k. a k *ᵛ image v bs p k i) m) (λ i. sum (ValueR d) (λ k. a k *ᵛ image v bs p k i) (m + 1))
        (span_last v basis c) (span_push v basis c (λ i. sum (ValueR d) (λ k. a k *ᵛ image v bs p k i) m) (b.spans a))
        (λ i. one_more (λ k. a k *ᵛ image v bs p k i) m
        ∙ by (ValueR d) (a m ∷ image v bs p m i ∷ coefficient (map v c) i ∷ sum (ValueR d) (λ k. a k *ᵛ image v bs p k i) m ∷ []) (scale (ValueR d) (neg_value (a m)) (s.is i)) (search reads depth 20) refl);
  })
    where
      last : (i : ℕ) → i < length (basis ++ c ∷ []) → (i < length basis) ⊎ (i ≡ length basis)
      last i l = last_or_below (length basis) i (omega (arith, push_size basis c))

      old : (i : ℕ) → i < length basis → spot (length basis) m b.own i ≡ b.own i
      old i q = ap (spot (length basis) m b.own) (skip_low (length basis) i q) ∙ spot_skip (length basis) m b.own i

      here : spot (length basis) m b.own (length basis) ≡ m
      here = spot_own (length basis) m b.own

  pub columns_pivot : (bs : List (List K)) (e : IsEchelon v bs) (w m l : ℕ) (basis : List (List K)) → l < length bs → LeadsAt (row v bs l) m → IsColumns bs e.pivot w m basis → IsColumns bs e.pivot w (m + 1) basis
  columns_pivot bs e w m l basis h a b = record {
    own = b.own;
    below = λ i q. let t : b.own i < m = b.below i q in omega arith;
    free = b.free;
    ascending = b.ascending;
    vectors = b.vectors;
    spans = λ c. span_same (table v basis) (λ i. sum (ValueR d) (λ k. c k *ᵛ image v bs e.pivot k i) m) (λ i. sum (ValueR d) (λ k. c k *ᵛ image v bs e.pivot k i) (m + 1))
        (λ i. one_more (λ k. c k *ᵛ image v bs e.pivot k i) m
        ∙ by (ValueR d) (c m ∷ image v bs e.pivot m i ∷ sum (ValueR d) (λ k. c k *ᵛ image v bs e.pivot k i) m ∷ []) (scale (ValueR d) (c m) (image_none bs e m l h a i)) (search reads depth 20) refl)
        (b.spans c);
  }

  pub columns_full : (bs : List (List K)) (p : ℕ → ℕ) (w m : ℕ) (basis : List (List K)) → m ≡ w → IsColumns bs p w m basis → IsColumns bs p w w basis
  columns_full bs p w m basis e b = subst (λ (n : ℕ). IsColumns bs p w n basis) e b

  pub columns_sound : (w : ℕ) (bs : List (List K)) (e : IsEchelon v bs) (basis : List (List K)) → ((i : ℕ) → i < length bs → length (get_or bs i []) ≡ w) → IsColumns bs e.pivot w w basis
      → (j : ℕ) → j < length bs → (i : ℕ) → row_times (map v (get_or bs j [])) (coefficient (map v (get_or basis i []))) ≡ zero_value
  columns_sound w bs e basis s b j h i = elim (split i (length basis)) [
    | inl l ↦ row_times_cong (map v (get_or bs j [])) (row v basis i) (image v bs e.pivot (b.own i)) (b.vectors i l).is ∙ image_null w bs e s (b.own i) (b.below i l) j h
    | inr g ↦ past_row_dot v basis (map v (get_or bs j [])) i g
  ]

  pub columns_complete : (w : ℕ) (bs : List (List K)) (e : IsEchelon v bs) (basis : List (List K)) → ((i : ℕ) → i < length bs → length (get_or bs i []) ≡ w) → IsColumns bs e.pivot w w basis
      → (f : ℕ → Value d) → ((k : ℕ) → w ≤ k → f k ≡ zero_value) → ((j : ℕ) → j < length bs → row_times (map v (get_or bs j [])) f ≡ zero_value) → Span (table v basis) f
  columns_complete w bs e basis s b f z n = span_same (table v basis) (λ i. sum (ValueR d) (λ k. f k *ᵛ image v bs e.pivot k i) w) f
      (image_all w bs e f z (λ l h. sym (row_against (map v (get_or bs l [])) f w (omega (arith, length_map v (get_or bs l []), s l h))) ∙ n l h)) (b.spans f)

  pub columns_form : (w : ℕ) (bs : List (List K)) (e : IsEchelon v bs) (basis : List (List K)) → IsColumns bs e.pivot w w basis → Form v basis
  columns_form w bs e basis b = record {
    own = b.own;
    one = λ i j h l. (b.vectors i h).is (b.own j) ∙ image_free bs e (b.own i) (b.own j) (b.free j l) ∙ units i j h l (order i j);
    ascending = b.ascending;
    last = λ i h k g. (b.vectors i h).is k ∙ past i h k g;
  }
    where
      units : (i j : ℕ) → i < length basis → j < length basis → (i ≡ j) ⊎ ((i < j) ⊎ (j < i)) → unit {d = d} (b.own i) (b.own j) ≡ unit i j
      units i j h l (inl s) = axis_one (b.own i) (b.own j) (ap b.own s) ∙ sym (axis_one i j s)
      units i j h l (inr (inl s)) = let a : b.own i < b.own j = b.ascending i j s l in axis_zero (b.own i) (b.own j) (λ t. omega arith) ∙ sym (axis_zero i j (λ t. omega arith))
      units i j h l (inr (inr s)) = let a : b.own j < b.own i = b.ascending j i s h in axis_zero (b.own i) (b.own j) (λ t. omega arith) ∙ sym (axis_zero i j (λ t. omega arith))

      past : (i : ℕ) → i < length basis → (k : ℕ) → b.own i < k → image v bs e.pivot (b.own i) k ≡ zero_value
      past i h k g = by (ValueR d) (unit (b.own i) k ∷ sum (ValueR d) (λ l. row v bs l (b.own i) *ᵛ unit (e.pivot l) k) (length bs) ∷ [])
          ((ValueR d).add_cong (axis_zero (b.own i) k (λ t. omega arith)) ((ValueR d).neg_cong (sum-zero (ValueR d) (λ l. row v bs l (b.own i) *ᵛ unit (e.pivot l) k) (length bs) (λ l q. none l q (split (b.own i) (e.pivot l)))))) (search reads depth 20) refl
        where
          none : (l : ℕ) → l < length bs → (b.own i < e.pivot l) ⊎ (e.pivot l ≤ b.own i) → row v bs l (b.own i) *ᵛ unit (e.pivot l) k ≡ zero_value
          none l q (inl t) = ap (λ x. x *ᵛ unit (e.pivot l) k) (e.first l q (b.own i) t) ∙ zero_mul_value (unit (e.pivot l) k)
          none l q (inr t) = ap (λ x. row v bs l (b.own i) *ᵛ x) (axis_zero (e.pivot l) k (λ z. omega arith)) ∙ mul_zero_value (row v bs l (b.own i))

  -- ---- The rows held
  pub record IsHeld (rows : List (List K)) (i : ℕ) (held : List (List K)) : Type 0 where
    pub within : (j : ℕ) → j < i → Span (table v held) (row v rows j)
    pub null : (f : ℕ → Value d) → ((j : ℕ) → j < i → row_times (map v (get_or rows j [])) f ≡ zero_value) → (l : ℕ) → l < length held → row_times (map v (get_or held l [])) f ≡ zero_value

  pub held_start : (rows : List (List K)) → IsHeld rows 0 []
  held_start rows = record { within = λ j h. absurd (omega arith); null = λ f z l h. absurd (omega arith) }

  pub held_more : (w : ℕ) (rows : List (List K)) (i : ℕ) (held new : List (List K)) (given : List K) → IsSystem v w held → IsSystem v w new → length given ≡ w → length (get_or rows i []) ≡ w → ((k : ℕ) → coefficient (map v given) k ≡ row v rows i k)
      → SameSpan v new (held ++ given ∷ []) → IsHeld rows i held → IsHeld rows (i + 1) new
  held_more w rows i held new given a b g h e s t = record {
    within = λ j l. elim (last_or_below i j l) [
      | inl q ↦ (s (row v rows j)).1 (span_push v held given (row v rows j) (t.within j q))
      | inr q ↦ rw q (span_same (table v new) (coefficient (map v given)) (row v rows i) (λ k. sym (e k)) ((s (coefficient (map v given))).1 (span_last v held given)))
    ];
    null = λ f z l q. row_against (map v (get_or new l [])) f w (omega (arith, length_map v (get_or new l []), b.sized l q))
        ∙ null_span v w (held ++ given ∷ []) f (row v new l) (all_pushed v (λ r. length r ≡ w) held given a.sized g)
        (all_pushed v (λ r. row_times (map v r) f ≡ zero_value) held given (t.null f (λ j y. z j (omega arith))) (zero_given f (z i (omega arith)))) ((s (row v new l)).0 (span_row v new l));
  }
    where
      zero_given : (f : ℕ → Value d) → row_times (map v (get_or rows i [])) f ≡ zero_value → row_times (map v given) f ≡ zero_value
      zero_given f z = row_against (map v given) f w (omega (arith, length_map v given)) ∙ sum_cong (ValueR d) (λ k. coefficient (map v given) k *ᵛ f k) (λ k. row v rows i k *ᵛ f k) w (λ k l. ap (λ x. x *ᵛ f k) (e k))
          ∙ sym (row_against (map v (get_or rows i [])) f w (omega (arith, length_map v (get_or rows i []), h))) ∙ z

  -- what the rows held send to 0 the rows do
  pub held_null : (w : ℕ) (rows : List (List K)) (i : ℕ) (held : List (List K)) → IsSystem v w held → IsHeld rows i held → (f : ℕ → Value d) → ((l : ℕ) → l < length held → row_times (map v (get_or held l [])) f ≡ zero_value)
      → (j : ℕ) → j < i → length (get_or rows j []) ≡ w → row_times (map v (get_or rows j [])) f ≡ zero_value
  held_null w rows i held a t f z j l h = row_against (map v (get_or rows j [])) f w (omega (arith, length_map v (get_or rows j []), h)) ∙ null_span v w held f (row v rows j) a.sized z (t.within j l)
