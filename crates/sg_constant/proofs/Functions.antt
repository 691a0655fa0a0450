-- Functions reduced one after the other.
--   over_whole            a quotient of lists of coefficients, as a quotient of polynomials
--   divided_value         a fraction as a polynomial and a proper fraction
--   alone_here, alone_other, length-alone, alone_under    a polynomial at one place, zeros at the others
--   alone_more            the first items, one more
--   added_none            a fraction with the numerator 0
--   added_some            a share that is settled
--   reduction_none, reduction_more    no function, and one more
use Rattle.std.proofs.Common.{◌≡◌, ℕ, zero, suc, ◌+◌, ◌≤◌, ◌<◌, ◌⊎◌, inl, inr, refl, sym, ◌∙◌, ap, ap₂, subst, List, [], ◌∷◌, ◌++◌, length, map, take, get_or, arith}
use Rattle.std.proofs.lemmas.List.{take_more, take_all, length-take-le}
use Rattle.sg_algebra.specs.Coefficients.{Each}
use Rattle.sg_algebra.proofs.Lists.{length_map}
use Rattle.sg_algebra.proofs.Solver.{ring, by, scale, reads}
use Rattle.sg_algebra.proofs.Divides.{on-O}
use Rattle.sg_algebra.proofs.Degree.{Degree}
use Rattle.sg_algebra.proofs.Value.{Value, over_value, zero_value, inv_value, neg_value, ◌+ᵛ◌, ◌*ᵛ◌, ◌/ᵛ◌}
use Rattle.sg_algebra.proofs.ValueField.{ValueR, value_quotient, value_product, value_mul-inv, value_one_ne}
use Rattle.sg_algebra.proofs.Embedding.{constant_value, over_value-quotient}
use Rattle.sg_algebra.proofs.Polynomial.{Polynomial, PolynomialR, poly, poly_cong, constant, zero_polynomial, one_polynomial, ◌+ᵖ◌, ◌*ᵖ◌}
use Rattle.sg_algebra.proofs.ShiftValue.{shift_value, shift_valueH}
use Rattle.sg_ratfun.specs.Fractions.{ratio}
use Rattle.sg_first_order_theory.proofs.ValueFractions.{whole, whole-poly, whole-add, whole-mul, whole-zero, whole-one}
use Rattle.sg_first_order_theory.proofs.FirstOrder.{whole_ne}
use Rattle.sg_first_order_theory.proofs.Under.{Under, under_poly}
use Rattle.sg_first_order_theory.proofs.Weighted.{weighted}
use Rattle.sg_reduction_theory.proofs.Moves.{Share, sum_at, difference}
use Rattle.sg_reduction_theory.proofs.Settling.{carries_reduced}
use Rattle.sg_reduction_theory.proofs.Spanning.{Sized}
use Rattle.sg_reduction_theory.proofs.Places.{Fits, Good}
use Rattle.sg_reduction_theory.proofs.Conditions.{zeros, alone, alone-weighted, reduced_more}
use Rattle.sg_constant.specs.Shares.{polys, over, Settles}
use Rattle.sg_constant.specs.Reductions.{IsAdded, IsReduction}
use Rattle.sg_constant.proofs.Numerators.{list_degree, polys_push}

length-zeros : (d n : ℕ) → length (zeros {d = d} n) ≡ n
length-zeros d zero = refl
length-zeros d (suc n) = ap suc (length-zeros d n)

zeros_under : (d m n : ℕ) → Each (Under m) (zeros {d = d} n)
zeros_under d m zero = tt
zeros_under d m (suc n) = (under_poly m [] (record { none_from = λ i l. refl }), zeros_under d m n)

module _ {d : ℕ} where
  pub over_whole : (p q : List (Value d)) → ¬ (poly q ≡ zero_polynomial) → over_value p q ≡ whole (poly p) /ᵛ whole (poly q)
  over_whole p q some = over_value-quotient d p q (λ z. some (poly_cong z)) ∙ ap₂ (λ x y. x /ᵛ y) (sym (whole-poly p)) (sym (whole-poly q))

  pub whole_over_one : (y u : Polynomial d) → u ≡ one_polynomial → whole y /ᵛ whole u ≡ whole y
  whole_over_one y u e = by (ValueR (suc d)) (whole y ∷ whole u ∷ inv_value (whole u) ∷ [])
      ((ValueR (suc d)).add_cong (scale (ValueR (suc d)) (whole y) (value_mul-inv (suc d) (whole u) some)) (scale (ValueR (suc d)) (neg_value (whole y *ᵛ inv_value (whole u))) (ap whole e ∙ whole-one))) (search reads depth 20 fits 4000) refl
    where
      some : ¬ (whole u ≡ zero_value)
      some z = value_one_ne (suc d) (sym whole-one ∙ ap whole (sym e) ∙ z)

  pub divided_value : (f : Value (suc d)) (p w q u : Polynomial d) → ¬ (w ≡ zero_polynomial) → f ≡ whole p /ᵛ whole w → p ≡ q *ᵖ w +ᵖ u → f ≡ whole q +ᵛ whole u /ᵛ whole w
  divided_value f p w q u some ef ep = ef ∙ sym (value_quotient (whole p) (whole w) (whole q +ᵛ whole u /ᵛ whole w) (whole_ne d w some) cross)
    where
      cross : (whole q +ᵛ whole u /ᵛ whole w) *ᵛ whole w ≡ whole p
      cross = by (ValueR (suc d)) (whole q ∷ whole u ∷ whole w ∷ whole p ∷ (whole u /ᵛ whole w) ∷ [])
          ((ValueR (suc d)).add_cong (value_product (whole u) (whole w) (whole_ne d w some)) ((ValueR (suc d)).symm (ap whole ep ∙ whole-add (q *ᵖ w) u ∙ ap (λ z. z +ᵛ whole u) (whole-mul q w)))) (search reads depth 20 fits 4000) refl

  -- ---- One polynomial among zeros

  pub length-alone : (n i : ℕ) (p : Polynomial d) → length (alone n i p) ≡ n
  length-alone zero i p = refl
  length-alone (suc n) zero p = ap suc (length-zeros d n)
  length-alone (suc n) (suc i) p = ap suc (length-alone n i p)

  zeros_at : (n j : ℕ) (x : Polynomial d) → j < n → get_or (zeros n) j x ≡ zero_polynomial
  zeros_at zero j x l = absurd (omega arith)
  zeros_at (suc n) zero x l = refl
  zeros_at (suc n) (suc j) x l = zeros_at n j x (omega arith)

  pub alone_here : (n i j : ℕ) (p x : Polynomial d) → j < n → j ≡ i → get_or (alone n i p) j x ≡ p
  alone_here zero i j p x l e = absurd (omega arith)
  alone_here (suc n) zero zero p x l e = refl
  alone_here (suc n) zero (suc j) p x l e = absurd (omega (arith, e))
  alone_here (suc n) (suc i) zero p x l e = absurd (omega (arith, e))
  alone_here (suc n) (suc i) (suc j) p x l e = alone_here n i j p x (omega arith) (omega (arith, e))

  pub alone_other : (n i j : ℕ) (p x : Polynomial d) → j < n → ¬ (j ≡ i) → get_or (alone n i p) j x ≡ zero_polynomial
  alone_other zero i j p x l e = absurd (omega arith)
  alone_other (suc n) zero zero p x l e = absurd (e refl)
  alone_other (suc n) zero (suc j) p x l e = zeros_at n j x (omega arith)
  alone_other (suc n) (suc i) zero p x l e = refl
  alone_other (suc n) (suc i) (suc j) p x l e = alone_other n i j p x (omega arith) (λ k. e (ap suc k))

  pub alone_item : (n i j : ℕ) (p y x : Polynomial d) → j < n → (j ≡ i → x ≡ p) → (¬ (j ≡ i) → x ≡ zero_polynomial) → get_or (alone n i p) j y ≡ x
  alone_item n i j p y x l here other = elim (three j i) [
    | inl a ↦ let ne : ¬ (j ≡ i) = λ e. below j i a e in alone_other n i j p y l ne ∙ sym (other ne)
    | inr s ↦ elim s [ inl e ↦ alone_here n i j p y l e ∙ sym (here e) | inr a ↦ let ne : ¬ (j ≡ i) = λ e. below i j a (sym e) in alone_other n i j p y l ne ∙ sym (other ne) ]
  ]
    where
      three : (j i : ℕ) → (j < i) ⊎ ((j ≡ i) ⊎ (i < j))
      three j i = grind arith

      below : (a b : ℕ) → a < b → a ≡ b → ⊥
      below a b l e = omega (arith, l, e)

  pub alone_under : (m n i : ℕ) (p : Polynomial d) → Under m p → Each (Under m) (alone n i p)
  alone_under m zero i p h = tt
  alone_under m (suc n) zero p h = (h, zeros_under d m n)
  alone_under m (suc n) (suc i) p h = (under_poly m [] (record { none_from = λ j l. refl }), alone_under m n i p h)

  pub alone_fits : (n i : ℕ) (w : List (Value d)) (p : Polynomial d) (m : ℕ) → Degree (ValueR d) m w → Under m p → Fits (over (alone n i p) (poly w))
  alone_fits n i w p m g h = record { n = m; degree = list_degree m w g; under = alone_under m n i p h }

module _ {K : Type 0} {d : ℕ} (v : K → Value d) where
  -- one item more
  pub alone_more : (n i j : ℕ) (p y : Polynomial d) (xs new : List (List K)) (x : List K) → j < n → get_or (alone n i p) j y ≡ poly (map v x) → new ≡ xs ++ x ∷ [] → polys v xs ≡ take j (alone n i p) → polys v new ≡ take (j + 1) (alone n i p)
  alone_more n i j p y xs new x l e is h = polys_push v xs new x is ∙ ap₂ (λ a b. a ++ b ∷ []) h (sym e)
      ∙ sym (take_more (alone n i p) j y (subst (λ (s : ℕ). j < s) (sym (length-alone n i p)) l))

  pub alone_all : (n i j : ℕ) (p : Polynomial d) (xs : List (List K)) → n ≤ j → polys v xs ≡ take j (alone n i p) → polys v xs ≡ alone n i p
  alone_all n i j p xs l h = h ∙ take_all j (alone n i p) (subst (λ (s : ℕ). s ≤ j) (sym (length-alone n i p)) l)

module _ {d : ℕ} where
  -- ---- One fraction

  pub added_none : (a : Value d) (n i : ℕ) (u w : Polynomial d) (ss mv : List (Share d)) → i < n → u ≡ zero_polynomial → IsAdded a n (over (alone n i u) w) ss mv ss mv
  added_none a n i u w ss mv l e = record { good = λ x. x; sized = λ x. x; lowers = λ x. x; carries = record { is = λ c. at c } }
    where
      at : (c : ℕ → Value d) → whole (weighted c (alone n i u)) /ᵛ whole w +ᵛ sum_at c ss +ᵛ difference a (sum_at c mv) ≡ sum_at c ss +ᵛ difference a (sum_at c mv)
      at c = by (ValueR (suc d)) (whole (weighted c (alone n i u)) ∷ inv_value (whole w) ∷ sum_at c ss ∷ difference a (sum_at c mv) ∷ [])
          (scale (ValueR (suc d)) (inv_value (whole w)) (ap whole (alone-weighted n i c u l ∙ ap (λ z. constant (c i) *ᵖ z) e ∙ ring (PolynomialR d) (constant (c i) ∷ []) (search reads depth 12) refl) ∙ whole-zero d)) (search reads depth 16) refl

  pub added_some : (a : Value d) (n i : ℕ) (u w : Polynomial d) (us : List (Polynomial d)) (ss mv ss' mv' : List (Share d)) → us ≡ alone n i u → Settles a (over us w) ss mv ss' mv' → IsAdded a n (over (alone n i u) w) ss mv ss' mv'
  added_some a n i u w us ss mv ss' mv' e h = at (subst (λ (z : List (Polynomial d)). Settles a (over z w) ss mv ss' mv') e h)
    where
      at : Settles a (over (alone n i u) w) ss mv ss' mv' → IsAdded a n (over (alone n i u) w) ss mv ss' mv'
      at k = record {
        good = λ x. subst (λ (s : ℕ). Good s ss') (length-alone n i u) (k.good (subst (λ (s : ℕ). Good s ss) (sym (length-alone n i u)) x));
        sized = λ x. subst (λ (s : ℕ). Sized s mv') (length-alone n i u) (k.sized (subst (λ (s : ℕ). Sized s mv) (sym (length-alone n i u)) x));
        lowers = k.lowers;
        carries = k.carries;
      }

  -- ---- One function after the other

  difference_zero : (a : Value d) → zero_value ≡ zero_value +ᵛ zero_value +ᵛ difference a zero_value
  difference_zero a = by (ValueR (suc d)) (constant_value d a ∷ shift_value d zero_value ∷ []) (scale (ValueR (suc d)) (neg_value (constant_value d a)) (on-O (ValueR (suc d)) (ValueR (suc d)) (shift_valueH d))) (search reads depth 20 fits 4000) refl

  pub reduction_none : (a : Value d) (n : ℕ) (fs : List (Value (suc d))) (ps : List (Polynomial d)) (ss mv : List (Share d)) → fs ≡ [] → ps ≡ [] → ss ≡ [] → mv ≡ [] → IsReduction a n fs ps ss mv
  reduction_none a n fs ps ss mv ef ep es em = subst (λ (f : List (Value (suc d))). IsReduction a n f ps ss mv) (sym ef) (subst (λ (p : List (Polynomial d)). IsReduction a n [] p ss mv) (sym ep)
      (subst (λ (s : List (Share d)). IsReduction a n [] [] s mv) (sym es) (subst (λ (m : List (Share d)). IsReduction a n [] [] [] m) (sym em)
      (record { same = refl; is = record { is = λ c. whole_none c }; good = record { settled = tt; fits = tt; sized = tt }; sized = tt; lowers = tt }))))
    where
      whole_none : (c : ℕ → Value d) → zero_value ≡ whole (zero_polynomial {d = d}) +ᵛ zero_value +ᵛ difference a zero_value
      whole_none c = difference_zero a ∙ ap (λ z. z +ᵛ zero_value +ᵛ difference a zero_value) (sym (whole-zero d))

  pub reduction_more : (a : Value d) (n : ℕ) (fs : List (Value (suc d))) (f : Value (suc d)) (ps : List (Polynomial d)) (p u w : Polynomial d) (ss mv ss' mv' : List (Share d)) → length fs < n → f ≡ whole p +ᵛ whole u /ᵛ whole w
      → IsReduction a n fs ps ss mv → IsAdded a n (over (alone n (length fs) u) w) ss mv ss' mv' → IsReduction a n (fs ++ f ∷ []) (ps ++ p ∷ []) ss' mv'
  reduction_more a n fs f ps p u w ss mv ss' mv' l e r h = record {
    same = longer fs f ∙ ap suc r.same ∙ sym (longer_too ps p);
    is = carries_reduced a (fs ++ f ∷ []) (ps ++ p ∷ []) (over (alone n (length fs) u) w ∷ ss) mv ss' mv' h.carries (reduced_more a fs ps ss mv n f p u w r.same l e r.is);
    good = h.good r.good;
    sized = h.sized r.sized;
    lowers = h.lowers r.lowers;
  }
    where
      longer : (fs : List (Value (suc d))) (f : Value (suc d)) → length (fs ++ f ∷ []) ≡ suc (length fs)
      longer [] f = refl
      longer (g ∷ fs) f = ap suc (longer fs f)

      longer_too : (ps : List (Polynomial d)) (p : Polynomial d) → length (ps ++ p ∷ []) ≡ suc (length ps)
      longer_too [] p = refl
      longer_too (q ∷ ps) p = ap suc (longer_too ps p)

module _ {K : Type 0} {d : ℕ} (v : K → Value d) where
  quotients_more : (fs : List (List K × List K)) (i : ℕ) (f : List K × List K) → i < length fs → f ≡ get_or fs i f → map (ratio v) (take (i + 1) fs) ≡ map (ratio v) (take i fs) ++ ratio v f ∷ []
  quotients_more fs i f l e = ap (map (ratio v)) (take_more fs i f l ∙ ap (λ (g : List K × List K). take i fs ++ g ∷ []) (sym e)) ∙ at (take i fs)
    where
      at : (xs : List (List K × List K)) → map (ratio v) (xs ++ f ∷ []) ≡ map (ratio v) xs ++ ratio v f ∷ []
      at [] = refl
      at (x ∷ xs) = ap (λ z. ratio v x ∷ z) (at xs)

  quotients_length : (fs : List (List K × List K)) (i : ℕ) → i ≤ length fs → length (map (ratio v) (take i fs)) ≡ i
  quotients_length fs i l = length_map (ratio v) (take i fs) ∙ length-take-le i fs l

  pub reduction_push : (a : Value d) (n : ℕ) (fs : List (List K × List K)) (i : ℕ) (f : List K × List K) (ps new : List (List K)) (p u w : List K) (ss mv ss' mv' : List (Share d)) → i < length fs → length fs ≡ n → f ≡ get_or fs i f → new ≡ ps ++ p ∷ []
      → ratio v f ≡ whole (poly (map v p)) +ᵛ whole (poly (map v u)) /ᵛ whole (poly (map v w)) → IsReduction a n (map (ratio v) (take i fs)) (polys v ps) ss mv
      → IsAdded a n (over (alone n i (poly (map v u))) (poly (map v w))) ss mv ss' mv' → IsReduction a n (map (ratio v) (take (i + 1) fs)) (polys v new) ss' mv'
  reduction_push a n fs i f ps new p u w ss mv ss' mv' l size ef en e r h = subst (λ (z : List (Value (suc d))). IsReduction a n z (polys v new) ss' mv') (sym (quotients_more fs i f l ef))
      (subst (λ (z : List (Polynomial d)). IsReduction a n (map (ratio v) (take i fs) ++ ratio v f ∷ []) z ss' mv') (sym (polys_push v ps new p en))
      (reduction_more a n (map (ratio v) (take i fs)) (ratio v f) (polys v ps) (poly (map v p)) (poly (map v u)) (poly (map v w)) ss mv ss' mv' (subst (λ (s : ℕ). s < n) (sym here) (subst (λ (s : ℕ). i < s) size l)) e r
      (subst (λ (s : ℕ). IsAdded a n (over (alone n s (poly (map v u))) (poly (map v w))) ss mv ss' mv') (sym here) h)))
    where
      below : (a b : ℕ) → a < b → a ≤ b
      below a b k = omega (arith, k)

      here : length (map (ratio v) (take i fs)) ≡ i
      here = quotients_length fs i (below i (length fs) l)

  pub reduction_all : (a : Value d) (n : ℕ) (fs : List (List K × List K)) (i : ℕ) (ps : List (Polynomial d)) (ss mv : List (Share d)) → length fs ≤ i → IsReduction a n (map (ratio v) (take i fs)) ps ss mv → IsReduction a n (map (ratio v) fs) ps ss mv
  reduction_all a n fs i ps ss mv l r = subst (λ (z : List (List K × List K)). IsReduction a n (map (ratio v) z) ps ss mv) (take_all i fs l) r
