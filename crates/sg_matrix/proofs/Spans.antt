-- Combinations of rows, and products of rows and vectors as sums.
--   total c bs k                      the entry at k of the sum of the vectors bs times c 0, c 1, ..; combined_total, span_of, span_total
--   span_zero, span_same, span_times  what is spanned: 0, equal vectors, a multiple and a sum
--   span_row, span_rows, span_entry   each row is spanned; what rows span is spanned where they are; at the places of unit vectors the entries are the constants
--   all_pushed, span_push, span_last    the rows with one more
--   against w g f                     g 0 f 0 + .. over w places: row_against, against_less
--   null_span                         what rows send to 0 their combinations send to 0
use Rattle.std.proofs.Common.{◌≡◌, ℕ, zero, suc, ◌+◌, ◌<◌, ◌≤◌, refl, sym, ◌∙◌, ap, ap₂, List, [], ◌∷◌, ◌++◌, map, length, get_or, ◌⊎◌, inl, inr, arith}
use Rattle.sg_algebra.proofs.Solver.{ring, by, scale, reads}
use Rattle.sg_algebra.proofs.Lists.{length_map}
use Rattle.sg_algebra.proofs.Value.{Value, zero_value, one_value, ◌+ᵛ◌, ◌-ᵛ◌, ◌*ᵛ◌, neg_value}
use Rattle.sg_algebra.proofs.ValueField.{ValueR, zero_mul_value, mul_zero_value}
use Rattle.sg_algebra.proofs.Polynomial.{coefficient}
use Rattle.sg_algebra.proofs.Sums.{sum, sum_cong, sum-add, sum-scale, sum-zero, sum-first, sum_unit}
use Rattle.sg_algebra.proofs.Tables.{get_below, get_last, push_size}
use Rattle.sg_algebra.proofs.Linear.{row_times, combined, Span, vector, unit, table, row}
use Rattle.sg_algebra.proofs.NullSpace.{axis_one, axis_zero, table_at}

module _ {d : ℕ} where
  pub sum-times : (a : Value d) (f g : ℕ → Value d) (n : ℕ) → sum (ValueR d) (λ i. a *ᵛ f i +ᵛ g i) n ≡ a *ᵛ sum (ValueR d) f n +ᵛ sum (ValueR d) g n
  sum-times a f g n = sum-add (ValueR d) (λ i. a *ᵛ f i) g n ∙ ap (λ x. x +ᵛ sum (ValueR d) g n) (sum-scale (ValueR d) a f n)

  -- ---- Combinations
  abbrev pub total : (ℕ → Value d) → List (List (Value d)) → ℕ → Value d
  total c bs k = sum (ValueR d) (λ i. c i *ᵛ vector bs i k) (length bs)

  pub combined_total : (cs : List (Value d)) (bs : List (List (Value d))) (k : ℕ) → combined cs bs k ≡ total (coefficient cs) bs k
  combined_total [] bs k = sym (sum-zero (ValueR d) (λ i. coefficient [] i *ᵛ vector bs i k) (length bs) (λ i l. zero_mul_value (vector bs i k)))
  combined_total (c ∷ cs) [] k = refl
  combined_total (c ∷ cs) (b ∷ bs) k = ap (λ x. c *ᵛ coefficient b k +ᵛ x) (combined_total cs bs k) ∙ sym (sum-first (ValueR d) (λ i. coefficient (c ∷ cs) i *ᵛ vector (b ∷ bs) i k) (length bs))

  taken : (ℕ → Value d) → List (List (Value d)) → List (Value d)
  taken c [] = []
  taken c (b ∷ bs) = c 0 ∷ taken (λ i. c (suc i)) bs

  taken_total : (c : ℕ → Value d) (bs : List (List (Value d))) (k : ℕ) → combined (taken c bs) bs k ≡ total c bs k
  unfolding taken
  taken_total c [] k = refl
  taken_total c (b ∷ bs) k = ap (λ x. c 0 *ᵛ coefficient b k +ᵛ x) (taken_total (λ i. c (suc i)) bs k) ∙ sym (sum-first (ValueR d) (λ i. c i *ᵛ vector (b ∷ bs) i k) (length bs))

  pub span_of : (c : ℕ → Value d) (bs : List (List (Value d))) (h : ℕ → Value d) → ((k : ℕ) → h k ≡ total c bs k) → Span bs h
  span_of c bs h e = record { coeffs = taken c bs; is = λ k. e k ∙ sym (taken_total c bs k) }

  pub span_total : (bs : List (List (Value d))) (f : ℕ → Value d) (s : Span bs f) (k : ℕ) → f k ≡ total (coefficient s.coeffs) bs k
  span_total bs f s k = s.is k ∙ combined_total s.coeffs bs k

  pub span_same : (bs : List (List (Value d))) (f h : ℕ → Value d) → ((k : ℕ) → h k ≡ f k) → Span bs f → Span bs h
  span_same bs f h e s = record { coeffs = s.coeffs; is = λ k. e k ∙ s.is k }

  pub span_zero : (bs : List (List (Value d))) (h : ℕ → Value d) → ((k : ℕ) → h k ≡ zero_value) → Span bs h
  span_zero bs h e = record { coeffs = []; is = e }

  pub span_times : (a : Value d) (bs : List (List (Value d))) (f g h : ℕ → Value d) → Span bs f → Span bs g → ((k : ℕ) → h k ≡ a *ᵛ f k +ᵛ g k) → Span bs h
  span_times a bs f g h s t e = span_of (λ i. a *ᵛ coefficient s.coeffs i +ᵛ coefficient t.coeffs i) bs h (λ k. e k ∙ ap₂ (λ x y. a *ᵛ x +ᵛ y) (span_total bs f s k) (span_total bs g t k) ∙ sym (both k))
    where
      both : (k : ℕ) → total (λ i. a *ᵛ coefficient s.coeffs i +ᵛ coefficient t.coeffs i) bs k ≡ a *ᵛ total (coefficient s.coeffs) bs k +ᵛ total (coefficient t.coeffs) bs k
      both k = sum_cong (ValueR d) (λ i. (a *ᵛ coefficient s.coeffs i +ᵛ coefficient t.coeffs i) *ᵛ vector bs i k) (λ i. a *ᵛ (coefficient s.coeffs i *ᵛ vector bs i k) +ᵛ coefficient t.coeffs i *ᵛ vector bs i k) (length bs)
          (λ i l. ring (ValueR d) (a ∷ coefficient s.coeffs i ∷ coefficient t.coeffs i ∷ vector bs i k ∷ []) (search reads depth 16) refl)
          ∙ sum-times a (λ i. coefficient s.coeffs i *ᵛ vector bs i k) (λ i. coefficient t.coeffs i *ᵛ vector bs i k) (length bs)

  ones : ℕ → List (Value d)
  ones zero = one_value ∷ []
  ones (suc i) = zero_value ∷ ones i

  combined_one : (bs : List (List (Value d))) (i k : ℕ) → combined (ones i) bs k ≡ vector bs i k
  unfolding ones
  combined_one [] zero k = refl
  combined_one [] (suc i) k = refl
  combined_one (b ∷ bs) zero k = ring (ValueR d) (coefficient b k ∷ []) (search reads depth 16) refl
  combined_one (b ∷ bs) (suc i) k = by (ValueR d) (coefficient b k ∷ combined (ones i) bs k ∷ vector bs i k ∷ []) (combined_one bs i k) (search reads depth 16) refl

  span_member : (bs : List (List (Value d))) (i : ℕ) → Span bs (vector bs i)
  span_member bs i = record { coeffs = ones i; is = λ k. sym (combined_one bs i k) }

  span_each : (ys xs : List (List (Value d))) → ((i : ℕ) → i < length xs → Span ys (vector xs i)) → (cs : List (Value d)) → Span ys (combined cs xs)
  span_each ys xs m [] = span_zero ys (combined [] xs) (λ k. refl)
  span_each ys [] m (c ∷ cs) = span_zero ys (combined (c ∷ cs) []) (λ k. refl)
  span_each ys (x ∷ xs) m (c ∷ cs) = span_times c ys (vector (x ∷ xs) 0) (combined cs xs) (combined (c ∷ cs) (x ∷ xs)) (m 0 (omega arith)) (span_each ys xs (λ i l. m (suc i) (omega arith)) cs) (λ k. refl)

  span_trans : (ys xs : List (List (Value d))) (f : ℕ → Value d) → ((i : ℕ) → i < length xs → Span ys (vector xs i)) → Span xs f → Span ys f
  span_trans ys xs f m s = span_same ys (combined s.coeffs xs) f s.is (span_each ys xs m s.coeffs)

  -- ---- Products as sums
  abbrev pub against : ℕ → (ℕ → Value d) → (ℕ → Value d) → Value d
  against w g f = sum (ValueR d) (λ k. g k *ᵛ f k) w

  pub row_against : (r : List (Value d)) (f : ℕ → Value d) (w : ℕ) → length r ≤ w → row_times r f ≡ against w (coefficient r) f
  row_against [] f w h = sym (sum-zero (ValueR d) (λ k. coefficient [] k *ᵛ f k) w (λ k l. zero_mul_value (f k)))
  row_against (x ∷ r) f zero h = absurd (omega arith)
  row_against (x ∷ r) f (suc w) h = ap (λ y. x *ᵛ f 0 +ᵛ y) (row_against r (λ k. f (suc k)) w (omega arith)) ∙ sym (sum-first (ValueR d) (λ k. coefficient (x ∷ r) k *ᵛ f k) w)

  against-times : (a : Value d) (w : ℕ) (g h f : ℕ → Value d) → against w (λ k. a *ᵛ g k +ᵛ h k) f ≡ a *ᵛ against w g f +ᵛ against w h f
  against-times a w g h f = sum_cong (ValueR d) (λ k. (a *ᵛ g k +ᵛ h k) *ᵛ f k) (λ k. a *ᵛ (g k *ᵛ f k) +ᵛ h k *ᵛ f k) w (λ k l. ring (ValueR d) (a ∷ g k ∷ h k ∷ f k ∷ []) (search reads depth 16) refl)
      ∙ sum-times a (λ k. g k *ᵛ f k) (λ k. h k *ᵛ f k) w

  times-against : (a : Value d) (w : ℕ) (g x y : ℕ → Value d) → against w g (λ k. a *ᵛ x k +ᵛ y k) ≡ a *ᵛ against w g x +ᵛ against w g y
  times-against a w g x y = sum_cong (ValueR d) (λ k. g k *ᵛ (a *ᵛ x k +ᵛ y k)) (λ k. a *ᵛ (g k *ᵛ x k) +ᵛ g k *ᵛ y k) w (λ k l. ring (ValueR d) (a ∷ g k ∷ x k ∷ y k ∷ []) (search reads depth 16) refl)
      ∙ sum-times a (λ k. g k *ᵛ x k) (λ k. g k *ᵛ y k) w

  against_combined : (w : ℕ) (xs : List (List (Value d))) (f : ℕ → Value d) → ((i : ℕ) → i < length xs → against w (vector xs i) f ≡ zero_value) → (cs : List (Value d)) → against w (combined cs xs) f ≡ zero_value
  against_combined w xs f m [] = sum-zero (ValueR d) (λ k. zero_value *ᵛ f k) w (λ k l. zero_mul_value (f k))
  against_combined w [] f m (c ∷ cs) = sum-zero (ValueR d) (λ k. zero_value *ᵛ f k) w (λ k l. zero_mul_value (f k))
  against_combined w (x ∷ xs) f m (c ∷ cs) = against-times c w (coefficient x) (combined cs xs) f
      ∙ by (ValueR d) (c ∷ against w (coefficient x) f ∷ against w (combined cs xs) f ∷ []) ((ValueR d).add_cong (scale (ValueR d) c (m 0 (omega arith))) (against_combined w xs f (λ i l. m (suc i) (omega arith)) cs)) (search reads depth 16) refl

  against_span : (w : ℕ) (xs : List (List (Value d))) (f g : ℕ → Value d) → ((i : ℕ) → i < length xs → against w (vector xs i) f ≡ zero_value) → Span xs g → against w g f ≡ zero_value
  against_span w xs f g m s = sum_cong (ValueR d) (λ k. g k *ᵛ f k) (λ k. combined s.coeffs xs k *ᵛ f k) w (λ k l. ap (λ x. x *ᵛ f k) (s.is k)) ∙ against_combined w xs f m s.coeffs

  pub against_unit : (w : ℕ) (g : ℕ → Value d) (m : ℕ) → m < w → against w g (unit m) ≡ g m
  against_unit w g m l = sum_unit (ValueR d) (λ k. g k *ᵛ unit m k) w m l (λ k n. ap (λ x. g k *ᵛ x) (axis_zero m k (λ e. n (sym e))) ∙ mul_zero_value (g k))
      ∙ by (ValueR d) (g m ∷ unit m m ∷ []) (scale (ValueR d) (g m) (axis_one m m refl)) (search reads depth 16) refl

  -- the sum of the unit vectors of p 0, p 1, .. times a 0, a 1, ..
  abbrev units : (ℕ → Value d) → (ℕ → ℕ) → ℕ → ℕ → Value d
  units a p n k = sum (ValueR d) (λ l. a l *ᵛ unit (p l) k) n

  pub against_less : (w : ℕ) (g u a : ℕ → Value d) (p : ℕ → ℕ) (n : ℕ) → ((l : ℕ) → l < n → p l < w)
      → against w g (λ k. u k -ᵛ sum (ValueR d) (λ l. a l *ᵛ unit (p l) k) n) ≡ against w g u -ᵛ sum (ValueR d) (λ l. a l *ᵛ g (p l)) n
  against_less w g u a p zero h = sum_cong (ValueR d) (λ k. g k *ᵛ (u k -ᵛ zero_value)) (λ k. g k *ᵛ u k) w (λ k l. ring (ValueR d) (g k ∷ u k ∷ []) (search reads depth 16) refl)
      ∙ ring (ValueR d) (against w g u ∷ []) (search reads depth 16) refl
  against_less w g u a p (suc n) h = sum_cong (ValueR d) (λ k. g k *ᵛ (u k -ᵛ (units a p n k +ᵛ a n *ᵛ unit (p n) k))) (λ k. g k *ᵛ (neg_value (a n) *ᵛ unit (p n) k +ᵛ (u k -ᵛ units a p n k))) w
      (λ k l. ring (ValueR d) (g k ∷ u k ∷ units a p n k ∷ a n ∷ unit (p n) k ∷ []) (search reads depth 20) refl)
      ∙ times-against (neg_value (a n)) w g (unit (p n)) (λ k. u k -ᵛ units a p n k)
      ∙ by (ValueR d) (a n ∷ against w g (unit (p n)) ∷ g (p n) ∷ against w g (λ k. u k -ᵛ units a p n k) ∷ against w g u ∷ sum (ValueR d) (λ l. a l *ᵛ g (p l)) n ∷ [])
      ((ValueR d).add_cong (scale (ValueR d) (neg_value (a n)) (against_unit w g (p n) (h n (omega arith)))) (against_less w g u a p n (λ l q. h l (omega arith)))) (search reads depth 24) refl

module _ {K : Type 0} {d : ℕ} (v : K → Value d) where
  pub in_table : (xs : List (List K)) (i k : ℕ) → vector (table v xs) i k ≡ row v xs i k
  in_table xs i k = ap (λ (p : List (Value d)). coefficient p k) (table_at v xs i)

  pub span_row : (xs : List (List K)) (i : ℕ) → Span (table v xs) (row v xs i)
  span_row xs i = span_same (table v xs) (vector (table v xs) i) (row v xs i) (λ k. sym (in_table xs i k)) (span_member (table v xs) i)

  pub span_rows : (ys xs : List (List K)) (f : ℕ → Value d) → ((i : ℕ) → i < length xs → Span (table v ys) (row v xs i)) → Span (table v xs) f → Span (table v ys) f
  span_rows ys xs f m s = span_trans (table v ys) (table v xs) f
      (λ i l. span_same (table v ys) (row v xs i) (vector (table v xs) i) (in_table xs i) (m i (omega (arith, length_map (map v) xs)))) s

  -- at places where the rows are unit vectors the entries are the constants
  pub span_entry : (bs : List (List K)) (p : ℕ → ℕ) → ((l i : ℕ) → i < length bs → row v bs l (p i) ≡ unit l i) → (f : ℕ → Value d) (s : Span (table v bs) f) (i : ℕ) → i < length bs → f (p i) ≡ coefficient s.coeffs i
  span_entry bs p u f s i h = span_total (table v bs) f s (p i)
      ∙ sum_unit (ValueR d) (λ l. coefficient s.coeffs l *ᵛ vector (table v bs) l (p i)) (length (table v bs)) i (omega (arith, length_map (map v) bs))
      (λ l n. ap (λ x. coefficient s.coeffs l *ᵛ x) (in_table bs l (p i) ∙ u l i h ∙ axis_zero l i n) ∙ mul_zero_value (coefficient s.coeffs l))
      ∙ by (ValueR d) (coefficient s.coeffs i ∷ vector (table v bs) i (p i) ∷ []) (scale (ValueR d) (coefficient s.coeffs i) (in_table bs i (p i) ∙ u i i h ∙ axis_one i i refl)) (search reads depth 16) refl

  pub null_span : (w : ℕ) (xs : List (List K)) (f g : ℕ → Value d) → ((i : ℕ) → i < length xs → length (get_or xs i []) ≡ w) → ((i : ℕ) → i < length xs → row_times (map v (get_or xs i [])) f ≡ zero_value)
      → Span (table v xs) g → against w g f ≡ zero_value
  null_span w xs f g b z s = against_span w (table v xs) f g (λ i l. each i (omega (arith, length_map (map v) xs))) s
    where
      each : (i : ℕ) → i < length xs → against w (vector (table v xs) i) f ≡ zero_value
      each i l = sum_cong (ValueR d) (λ k. vector (table v xs) i k *ᵛ f k) (λ k. row v xs i k *ᵛ f k) w (λ k q. ap (λ x. x *ᵛ f k) (in_table xs i k))
          ∙ sym (row_against (map v (get_or xs i [])) f w (omega (arith, length_map v (get_or xs i []), b i l))) ∙ z i l

  -- ---- The rows with one more
  last_or_below : (n i : ℕ) → i < n + 1 → (i < n) ⊎ (i ≡ n)
  last_or_below n i l = grind arith

  pub all_pushed : (P : List K → Type 0) (xs : List (List K)) (c : List K) → ((i : ℕ) → i < length xs → P (get_or xs i [])) → P c → (i : ℕ) → i < length (xs ++ c ∷ []) → P (get_or (xs ++ c ∷ []) i [])
  all_pushed P xs c h p i l = elim (last_or_below (length xs) i (omega (arith, push_size xs c))) [
    | inl q ↦ rw (get_below xs c i q) (h i q)
    | inr e ↦ rw (get_last xs c i e) p
  ]

  pub span_push : (xs : List (List K)) (c : List K) (f : ℕ → Value d) → Span (table v xs) f → Span (table v (xs ++ c ∷ [])) f
  span_push xs c f s = span_rows (xs ++ c ∷ []) xs f
      (λ i l. span_same (table v (xs ++ c ∷ [])) (row v (xs ++ c ∷ []) i) (row v xs i) (λ k. ap (λ (q : List K). coefficient (map v q) k) (sym (get_below xs c i l))) (span_row (xs ++ c ∷ []) i)) s

  pub span_last : (xs : List (List K)) (c : List K) → Span (table v (xs ++ c ∷ [])) (coefficient (map v c))
  span_last xs c = span_same (table v (xs ++ c ∷ [])) (row v (xs ++ c ∷ []) (length xs)) (coefficient (map v c)) (λ k. ap (λ (q : List K). coefficient (map v q) k) (sym (get_last xs c (length xs) refl))) (span_row (xs ++ c ∷ []) (length xs))
