-- The rows of conditions, one share after the other.
--   each_both             what holds for each of a list and for one more, both ways
--   Conditioning v s old rows t    as IsConditioned, for the coefficients below t
--   conditioning_none, conditioning_more, conditioning_all
--   conditions_none, conditions_more    shares one after the other
--   sends_at, sends_each  by places
use Rattle.std.proofs.Common.{◌≡◌, ℕ, zero, suc, ◌+◌, ◌≤◌, ◌<◌, ◌↔◌, ◌⊎◌, inl, inr, refl, sym, ◌∙◌, ap, subst, List, [], ◌∷◌, ◌++◌, length, map, take, get_or, arith}
use Rattle.std.proofs.lemmas.List.{take_more, take_all}
use Rattle.sg_algebra.specs.Coefficients.{Each}
use Rattle.sg_algebra.proofs.Lists.{length_map}
use Rattle.sg_algebra.proofs.Rows.{at_past}
use Rattle.sg_algebra.proofs.Linear.{row_times}
use Rattle.sg_algebra.proofs.Value.{Value, zero_value}
use Rattle.sg_algebra.proofs.Polynomial.{Polynomial, poly, same_list, coefficient, zero_polynomial}
use Rattle.sg_dispersion_theory.proofs.Listed.{list_of, poly-list_of}
use Rattle.sg_first_order_theory.proofs.System.{row_of}
use Rattle.sg_first_order_theory.proofs.Weighted.{weighted}
use Rattle.sg_first_order_theory.proofs.Under.{Under}
use Rattle.sg_reduction_theory.proofs.Answer.{None}
use Rattle.sg_reduction_theory.proofs.Spanning.{Sized}
use Rattle.sg_reduction_theory.proofs.Places.{Fits}
use Rattle.sg_reduction_theory.proofs.Conditions.{none_rows, rows_none, rows_past}
use Rattle.sg_constant.specs.Shares.{polys, share, shares}
use Rattle.sg_constant.specs.Conditions.{Sends, HasSize, IsConditioned, AreConditions}
use Rattle.sg_constant.specs.declared.shares.Share.{Share as Given}
use Rattle.sg_constant.proofs.Carrying.{each_end, shares_push}

pub each_both : {A : Type 0} (P : A → Type 0) (xs : List A) (x : A) → Each P (xs ++ x ∷ []) ↔ (Each P xs × P x)
each_both {A = A} P xs x = (λ h. before xs h, λ h. each_end P xs x h.0 h.1)
  where
    before : (xs : List A) → Each P (xs ++ x ∷ []) → Each P xs × P x
    before [] h = (tt, h.0)
    before (y ∷ xs) h = let r = before xs h.1 in ((h.0, r.0), r.1)

module _ {K : Type 0} {d : ℕ} (v : K → Value d) where
  pub polys-map : (us : List (List K)) → polys v us ≡ map poly (map (map v) us)
  polys-map [] = refl
  polys-map (u ∷ us) = ap (λ z. poly (map v u) ∷ z) (polys-map us)

  pub record Conditioning (s : Given K) (old rows : List (List K)) (t : ℕ) : Type 0 where
    pub both : (f : ℕ → Value d) → Sends v rows f ↔ (Sends v old f × ((j : ℕ) → j < t → row_times (row_of (map (map v) s.uppers) j) f ≡ zero_value))
    pub sized : (n : ℕ) → length s.uppers ≡ n → HasSize n old → HasSize n rows

  pub conditioning_none : (s : Given K) (old rows : List (List K)) → rows ≡ old → Conditioning s old rows 0
  conditioning_none s old rows e = subst (λ (z : List (List K)). Conditioning s old z 0) (sym e) (record { both = λ f. (λ h. (h, λ j l. absurd (omega arith)), λ h. h.0); sized = λ n e h. h })

  row_length : (us : List (List K)) (t : ℕ) → length (row_of (map (map v) us) t) ≡ length us
  row_length us t = length_map (λ b. coefficient b t) (map (map v) us) ∙ length_map (map v) us

  pub conditioning_more : (s : Given K) (old rows new : List (List K)) (r : List K) (t : ℕ) → Conditioning s old rows t → map v r ≡ row_of (map (map v) s.uppers) t → new ≡ rows ++ r ∷ [] → Conditioning s old new (t + 1)
  conditioning_more s old rows new r t c e is = subst (λ (z : List (List K)). Conditioning s old z (t + 1)) (sym is) (record { both = λ f. (λ h. forth f h, λ h. back f h); sized = λ n k h. each_end (λ r. length r ≡ n) rows r (c.sized n k h) (sym (length_map v r) ∙ ap length e ∙ row_length s.uppers t ∙ k) })
    where
      side : (j t : ℕ) → j < t + 1 → (j < t) ⊎ (j ≡ t)
      side j t l = grind arith

      forth : (f : ℕ → Value d) → Sends v (rows ++ r ∷ []) f → Sends v old f × ((j : ℕ) → j < t + 1 → row_times (row_of (map (map v) s.uppers) j) f ≡ zero_value)
      forth f h = (first.0, λ j l. at j (side j t l))
        where
          parts : Sends v rows f × (row_times (map v r) f ≡ zero_value)
          parts = (each_both (λ r. row_times (map v r) f ≡ zero_value) rows r).0 h

          first : Sends v old f × ((j : ℕ) → j < t → row_times (row_of (map (map v) s.uppers) j) f ≡ zero_value)
          first = (c.both f).0 parts.0

          at : (j : ℕ) → (j < t) ⊎ (j ≡ t) → row_times (row_of (map (map v) s.uppers) j) f ≡ zero_value
          at j (inl l) = first.1 j l
          at j (inr k) = subst (λ (i : ℕ). row_times (row_of (map (map v) s.uppers) i) f ≡ zero_value) (sym k) (subst (λ (q : List (Value d)). row_times q f ≡ zero_value) e parts.1)

      back : (f : ℕ → Value d) → (Sends v old f × ((j : ℕ) → j < t + 1 → row_times (row_of (map (map v) s.uppers) j) f ≡ zero_value)) → Sends v (rows ++ r ∷ []) f
      back f h = (each_both (λ r. row_times (map v r) f ≡ zero_value) rows r).1 ((c.both f).1 (h.0, λ j l. h.1 j (omega (arith, l))), subst (λ (q : List (Value d)). row_times q f ≡ zero_value) (sym e) (h.1 t (omega arith)))

  fits_short : (s : Given K) (f : Fits (share v s)) → f.n < length s.lower
  fits_short s f = at (side f.n (length s.lower))
    where
      side : (a b : ℕ) → (a < b) ⊎ (b ≤ a)
      side a b = grind arith

      at : (f.n < length s.lower) ⊎ (length s.lower ≤ f.n) → f.n < length s.lower
      at (inl l) = l
      at (inr l) = absurd (f.degree.lead ((same_list (list_of (poly (map v s.lower))) (map v s.lower) (poly-list_of (poly (map v s.lower)))).image.at f.n ∙ at_past (map v s.lower) f.n (subst (λ (k : ℕ). k ≤ f.n) (sym (length_map v s.lower)) l)))

  pub conditioning_all : (s : Given K) (old rows : List (List K)) (t : ℕ) → Fits (share v s) → length s.lower ≤ t → Conditioning s old rows t → IsConditioned v s old rows
  conditioning_all s old rows t fits l c = record {
    both = λ f. (
      λ h. let k = (c.both f).0 h in (k.0, vanish f k.1),
      λ h. (c.both f).1 (h.0, λ j p. rows_none f (map (map v) s.uppers) (sym (ap (weighted f) (polys-map s.uppers)) ∙ h.1) j),
    );
    sized = c.sized;
  }
    where
      side : (a b : ℕ) → (a < b) ⊎ (b ≤ a)
      side a b = grind arith

      vanish : (f : ℕ → Value d) → ((j : ℕ) → j < t → row_times (row_of (map (map v) s.uppers) j) f ≡ zero_value) → weighted f (polys v s.uppers) ≡ zero_polynomial
      vanish f h = ap (weighted f) (polys-map s.uppers) ∙ none_rows f (map (map v) s.uppers) (λ j. at j (side j t))
        where
          high : (n s j : ℕ) → n < s → s ≤ t → t ≤ j → n ≤ j
          high n s j p q r = omega (arith, p, q, r)

          at : (j : ℕ) → (j < t) ⊎ (t ≤ j) → row_times (row_of (map (map v) s.uppers) j) f ≡ zero_value
          at j (inl k) = h j k
          at j (inr k) = rows_past f (map (map v) s.uppers) fits.n (subst (λ (us : List (Polynomial d)). Each (Under fits.n) us) (polys-map s.uppers) fits.under) j (high fits.n (length s.lower) j (fits_short s fits) l k)

  -- ---- One share after the other

  pub conditions_none : (list : List (Given K)) (rows : List (List K)) → rows ≡ [] → AreConditions v (take 0 list) rows
  conditions_none list rows e = subst (λ (z : List (List K)). AreConditions v [] z) (sym e) (record { both = λ f. (λ h. tt, λ h. tt); sized = λ n h. tt })

  more : (front : List (Given K)) (u : Given K) (rows new : List (List K)) → AreConditions v front rows → IsConditioned v u rows new → AreConditions v (front ++ u ∷ []) new
  more front u rows new a c = record {
    both = λ f. (
      λ h. let k = (c.both f).0 h in subst (None f) (sym (shares_push v front (front ++ u ∷ []) u refl)) ((each_both (λ s. weighted f s.uppers ≡ zero_polynomial) (shares v front) (share v u)).1 ((a.both f).0 k.0, k.1)),
      λ h. let k = (each_both (λ s. weighted f s.uppers ≡ zero_polynomial) (shares v front) (share v u)).0 (subst (None f) (shares_push v front (front ++ u ∷ []) u refl) h) in (c.both f).1 ((a.both f).1 k.0, k.1),
    );
    sized = λ n h. let k = (each_both (λ s. length s.uppers ≡ n) (shares v front) (share v u)).0 (subst (Sized n) (shares_push v front (front ++ u ∷ []) u refl) h) in
        c.sized n (sym (length_map (λ p. poly (map v p)) u.uppers) ∙ k.1) (a.sized n k.0);
  }

  pub conditions_more : (list : List (Given K)) (i : ℕ) (u : Given K) (rows new : List (List K)) → i < length list → u ≡ get_or list i u → AreConditions v (take i list) rows → IsConditioned v u rows new → AreConditions v (take (i + 1) list) new
  conditions_more list i u rows new l e a c = subst (λ (z : List (Given K)). AreConditions v z new) (sym (take_more list i u l ∙ ap (λ (x : Given K). take i list ++ x ∷ []) (sym e))) (more (take i list) u rows new a c)

  pub conditions_all : (list : List (Given K)) (i : ℕ) (rows : List (List K)) → length list ≤ i → AreConditions v (take i list) rows → AreConditions v list rows
  conditions_all list i rows l a = subst (λ (z : List (Given K)). AreConditions v z rows) (take_all i list l) a

  -- ---- By places

  pub sends_at : (rows : List (List K)) (f : ℕ → Value d) → Sends v rows f → (j : ℕ) → j < length rows → row_times (map v (get_or rows j [])) f ≡ zero_value
  sends_at [] f h j l = absurd (omega arith)
  sends_at (r ∷ rows) f h zero l = h.0
  sends_at (r ∷ rows) f h (suc j) l = sends_at rows f h.1 j (omega arith)

  pub sends_each : (rows : List (List K)) (f : ℕ → Value d) → ((j : ℕ) → j < length rows → row_times (map v (get_or rows j [])) f ≡ zero_value) → Sends v rows f
  sends_each [] f h = tt
  sends_each (r ∷ rows) f h = (h 0 (omega arith), sends_each rows f (λ j l. h (suc j) (omega arith)))

  pub size_at : (n : ℕ) (rows : List (List K)) → HasSize n rows → (i : ℕ) → i < length rows → length (get_or rows i []) ≡ n
  size_at n [] h i l = absurd (omega arith)
  size_at n (r ∷ rows) h zero l = h.0
  size_at n (r ∷ rows) h (suc i) l = size_at n rows h.1 i (omega arith)

  pub fits_of : (list : List (Given K)) (i : ℕ) (u : Given K) → i < length list → Each Fits (shares v list) → Fits (share v (get_or list i u))
  fits_of [] i u l h = absurd (omega arith)
  fits_of (t ∷ list) zero u l h = h.0
  fits_of (t ∷ list) (suc i) u l h = fits_of list i u (omega arith) h.1
