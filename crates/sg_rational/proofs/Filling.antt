-- The linear system, given row by row until there are as many rows as columns.
--   filled_start, filled_more, filled_full    no row; one row more; a row that isn't needed
--   lists_short         the lengths of the columns as lists of values
--   space_filled        the basis of the vectors that the rows held send to 0 is one of the solutions
use Rattle.std.proofs.Common.{◌≡◌, ℕ, suc, ◌+◌, ◌≤◌, ◌<◌, sym, ◌∙◌, ap, ap₂, List, [], ◌∷◌, ◌++◌, ◌⊎◌, inl, inr, map, length, length-append, get_or, arith}
use Rattle.sg_algebra.specs.Coefficients.{Each}
use Rattle.sg_algebra.proofs.Lists.{length_map}
use Rattle.sg_algebra.proofs.NullSpace.{table_at}
use Rattle.sg_algebra.proofs.Linear.{row_times, row, Span, table, Form}
use Rattle.sg_algebra.proofs.Value.{Value, zero_value}
use Rattle.sg_algebra.proofs.Polynomial.{Polynomial, poly, coefficient, neg_polynomial}
use Rattle.sg_matrix.specs.Systems.{IsSystem, SameSpan}
use Rattle.sg_matrix.proofs.Spans.{row_against, null_span, span_row, all_pushed, span_push, span_last}
use Rattle.sg_first_order_theory.proofs.FirstOrder.{left}
use Rattle.sg_first_order_theory.proofs.Under.{powers, length-powers}
use Rattle.sg_first_order_theory.proofs.Weighted.{weighted}
use Rattle.sg_first_order_theory.proofs.System.{rest_of, columns, row_of, null_solves, solves_null, row_past}
use Rattle.sg_first_order_theory.proofs.Basis.{IsSpace}
use Rattle.sg_rational.specs.Systems.{Sends, IsFilled}

split : (k n : ℕ) → (k < n) ⊎ (n ≤ k)
split k n = grind arith

last_or_below : (n i : ℕ) → i < n + 1 → (i < n) ⊎ (i ≡ n)
last_or_below n i l = grind arith

same_or_other : (a b : ℕ) → (a ≡ b) ⊎ ((a < b) ⊎ (b < a))
same_or_other a b = grind arith

module _ {K : Type 0} {d : ℕ} (v : K → Value d) where
  pub filled_start : (bs : List (List (Value d))) (w : ℕ) → IsFilled v bs w 0 []
  filled_start bs w = record { below = λ f z l h. absurd (omega arith); above = λ n f s t h. absurd (omega arith) }

  pub filled_full : (bs : List (List (Value d))) (w t : ℕ) (held : List (List K)) → length held ≡ w → IsFilled v bs w t held → IsFilled v bs w (t + 1) held
  filled_full bs w t held e r = record { below = λ f z l h. r.below f (λ i q. z i (omega arith)) l h; above = λ n f s i h. absurd (n e) }

  -- what rows send to 0, their combinations do
  sends_span : (w : ℕ) (held : List (List K)) (f : ℕ → Value d) (r : List (Value d)) → ((i : ℕ) → i < length held → length (get_or held i []) ≡ w) → length r ≡ w → Sends v held f → Span (table v held) (coefficient r) → row_times r f ≡ zero_value
  sends_span w held f r sized e s p = row_against r f w (omega (arith, e)) ∙ null_span v w held f (coefficient r) sized s p

  pub filled_more : (bs : List (List (Value d))) (w t : ℕ) (held new : List (List K)) (given : List K) → IsSystem v w held → IsSystem v w new → length given ≡ w → map v given ≡ row_of bs t → SameSpan v new (held ++ given ∷ []) → ¬ (length held ≡ w)
      → IsFilled v bs w t held → IsFilled v bs w (t + 1) new
  filled_more bs w t held new given a b size e s n r = record {
    below = λ f z l h. sends_span w (held ++ given ∷ []) f (map v (get_or new l [])) (all_pushed v (λ r. length r ≡ w) held given a.sized size) (length_map v (get_or new l []) ∙ b.sized l h)
        (all_pushed v (λ r. row_times (map v r) f ≡ zero_value) held given (r.below f (λ i q. z i (omega arith))) (ap (λ x. row_times x f) e ∙ z t (omega arith))) ((s (row v new l)).0 (span_row v new l));
    above = λ k f z i h. elim (last_or_below t i h) [
      | inl q ↦ r.above n f (λ l p. sends_span w new f (map v (get_or held l [])) b.sized (length_map v (get_or held l []) ∙ a.sized l p) z ((s (row v held l)).1 (span_push v held given (row v held l) (span_row v held l)))) i q
      | inr q ↦ ap (λ j. row_times (row_of bs j) f) q ∙ ap (λ x. row_times x f) (sym e) ∙ sends_span w new f (map v given) b.sized (length_map v given ∙ size) z ((s (coefficient (map v given))).1 (span_last v held given))
    ];
  }

  module _ (a b : Polynomial d) (xs : List (Polynomial d)) (n : ℕ) (bs : List (List (Value d))) (are : map poly bs ≡ columns a b xs n) (w m : ℕ) (wide : w ≡ length bs) (short : (i : ℕ) → i < length bs → length (get_or bs i []) ≤ m)
      (held basis : List (List K)) (r : IsFilled v bs w m held)
      (sized : (i : ℕ) → i < length basis → length (get_or basis i []) ≡ w) (sound : (j : ℕ) → j < length held → (i : ℕ) → row_times (map v (get_or held j [])) (coefficient (map v (get_or basis i []))) ≡ zero_value)
      (form : Form v basis) (full : length held ≡ w → basis ≡ [])
      (complete : (f : ℕ → Value d) → ((k : ℕ) → w ≤ k → f k ≡ zero_value) → Sends v held f → Span (table v basis) f) where
    width : w ≡ length xs + n
    width = wide ∙ sym (length_map poly bs) ∙ ap length are ∙ length-append (map neg_polynomial xs) (map (left a b) (powers n)) ∙ ap₂ ◌+◌ (length_map neg_polynomial xs) (length_map (left a b) (powers n) ∙ length-powers d n)

    past : (bs : List (List (Value d))) (t : ℕ) → ((i : ℕ) → i < length bs → length (get_or bs i []) ≤ t) → Each (λ b. length b ≤ t) bs
    past [] t h = tt
    past (x ∷ bs) t h = (h 0 (omega arith), past bs t (λ i l. h (suc i) (omega arith)))

    all : (f : ℕ → Value d) → ((t : ℕ) → t < m → row_times (row_of bs t) f ≡ zero_value) → (t : ℕ) → row_times (row_of bs t) f ≡ zero_value
    all f z t = elim (split t m) [ inl l ↦ z t l | inr l ↦ row_past bs f t (past bs t (λ i h. let s = short i h in omega (arith, short i h))) ]

    pub space_filled : IsSpace v a b xs n basis
    space_filled = record {
      sized = λ i l. sized i l ∙ width;
      sound = λ i l. solves i l (same_or_other (length held) w);
      form = form;
      complete = λ f z s. complete f (λ k l. z k (omega (arith, width))) (r.below f (λ t h. solves_null a b xs n bs are f s t));
    }
      where
        fewer : ¬ (length held ≡ w) → (i : ℕ) → left a b (rest_of (length xs) n (coefficient (map v (get_or basis i [])))) ≡ weighted (coefficient (map v (get_or basis i []))) xs
        fewer k i = null_solves a b xs n bs are (coefficient (map v (get_or basis i []))) (all (coefficient (map v (get_or basis i []))) (r.above k (coefficient (map v (get_or basis i []))) (λ j h. sound j h i)))

        solves : (i : ℕ) → i < length basis → (length held ≡ w) ⊎ ((length held < w) ⊎ (w < length held)) → left a b (rest_of (length xs) n (coefficient (map v (get_or basis i [])))) ≡ weighted (coefficient (map v (get_or basis i []))) xs
        solves i l (inl e) = absurd (omega (arith, ap length (full e)))
        solves i l (inr (inl q)) = fewer (λ e. omega arith) i
        solves i l (inr (inr q)) = fewer (λ e. omega arith) i

module _ {K : Type 0} {d : ℕ} (v : K → Value d) where
  pub lists_short : (columns : List (List K)) (m : ℕ) → ((i : ℕ) → i < length columns → length (get_or columns i []) ≤ m) → (i : ℕ) → i < length (map (map v) columns) → length (get_or (map (map v) columns) i []) ≤ m
  lists_short columns m h i l = rw (table_at v columns i, length_map v (get_or columns i [])) (h i (omega (arith, length_map (map v) columns)))
