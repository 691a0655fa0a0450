-- Solutions read from constants at which all numerators vanish.
--   combined_more, combined_all    a combination of polynomials, one more, and all
--   terms_more, terms_all          a sum of combinations of shares, one more, and all
--   zero_rows             rows of zeros
--   null_of               a basis of the constants at which all numerators vanish
--   solutions_none, solutions_more, solutions_all
--   is_basis              they are a basis of the solutions
use Rattle.std.proofs.Common.{◌≡◌, ℕ, zero, suc, ◌+◌, ◌≤◌, ◌<◌, refl, sym, ◌∙◌, ap, ap₂, subst, List, [], ◌∷◌, ◌++◌, length, map, take, get_or, arith}
use Rattle.std.proofs.lemmas.List.{take_more, take_all, length-take-le}
use Rattle.sg_algebra.specs.Coefficients.{Each}
use Rattle.sg_algebra.proofs.Lists.{length_map}
use Rattle.sg_algebra.proofs.Ring.{eq_of_sub}
use Rattle.sg_algebra.proofs.Rows.{at_read}
use Rattle.sg_algebra.proofs.Tables.{row_read}
use Rattle.sg_algebra.proofs.Solver.{ring, by, reads}
use Rattle.sg_algebra.proofs.Linear.{row_times, Span, table, Form}
use Rattle.sg_algebra.proofs.Value.{Value, zero_value, one_value, neg_value, ◌+ᵛ◌, ◌-ᵛ◌, ◌*ᵛ◌, ◌/ᵛ◌}
use Rattle.sg_algebra.proofs.ValueField.{ValueR, value_is_zero, value_product, value_mul_comm}
use Rattle.sg_algebra.proofs.Embedding.{constant_value}
use Rattle.sg_algebra.proofs.Polynomial.{Polynomial, poly, coefficient, constant, zero_polynomial, ◌+ᵖ◌, ◌*ᵖ◌}
use Rattle.sg_matrix.specs.declared.solution.Solution.{Solution}
use Rattle.sg_ratfun.specs.Fractions.{ratio}
use Rattle.sg_first_order_theory.specs.Solutions.{Pair, pair, IsBasis}
use Rattle.sg_first_order_theory.proofs.Weighted.{weighted}
use Rattle.sg_reduction_theory.proofs.Moves.{Share, sum_at}
use Rattle.sg_reduction_theory.proofs.Steps.{term}
use Rattle.sg_reduction_theory.proofs.Answer.{None, Small, bottoms}
use Rattle.sg_reduction_theory.proofs.Spanning.{Sized, Known}
use Rattle.sg_reduction_theory.proofs.Places.{Fits, fits_some, fits_small}
use Rattle.sg_reduction_theory.proofs.Conditions.{whole-end}
use Rattle.sg_reduction_theory.proofs.Bases.{IsNull, Match, Solved as IsSolved, is_basis_one, is_basis_other}
use Rattle.sg_constant.specs.Shares.{polys, share, shares}
use Rattle.sg_constant.specs.Conditions.{AreConditions}
use Rattle.sg_constant.specs.Reductions.{IsReduction, pairs, IsUnit, AreSolutions, VanishAt}
use Rattle.sg_constant.specs.declared.shares.Share.{Share as Given}
use Rattle.sg_constant.proofs.Carrying.{each_end, noted, shares_push}
use Rattle.sg_constant.proofs.Numerators.{polys_take}
use Rattle.sg_constant.proofs.Conditioned.{sends_at, sends_each}

module _ {K : Type 0} {d : ℕ} (v : K → Value d) where
  -- ---- Combinations

  polys_length : (xs : List (List K)) (i : ℕ) → i ≤ length xs → length (polys v (take i xs)) ≡ i
  polys_length xs i l = length_map (λ p. poly (map v p)) (take i xs) ∙ length-take-le i xs l

  pub combined_more : (c : List K) (xs : List (List K)) (i : ℕ) (x : List K) (y : K) (sum part new : Polynomial d) → i < length xs → i < length c → x ≡ get_or xs i x → y ≡ get_or c i y → sum ≡ weighted (coefficient (map v c)) (polys v (take i xs))
      → part ≡ constant (v y) *ᵖ poly (map v x) → new ≡ sum +ᵖ part → new ≡ weighted (coefficient (map v c)) (polys v (take (i + 1) xs))
  combined_more c xs i x y sum part new l k e f h p n = n ∙ ap₂ ◌+ᵖ◌ h (p ∙ ap (λ z. constant z *ᵖ poly (map v x)) (sym (at_read v c i y k f)))
      ∙ sym (ap (weighted (coefficient (map v c))) (polys_take v xs i x l e) ∙ whole-end (coefficient (map v c)) (polys v (take i xs)) (poly (map v x))
      ∙ ap (λ (j : ℕ). weighted (coefficient (map v c)) (polys v (take i xs)) +ᵖ constant (coefficient (map v c) j) *ᵖ poly (map v x)) (polys_length xs i (below i (length xs) l)))
    where
      below : (a b : ℕ) → a < b → a ≤ b
      below a b k = omega (arith, k)

  pub combined_all : (c : List K) (xs : List (List K)) (i : ℕ) (sum : Polynomial d) → length xs ≤ i → sum ≡ weighted (coefficient (map v c)) (polys v (take i xs)) → sum ≡ weighted (coefficient (map v c)) (polys v xs)
  combined_all c xs i sum l h = h ∙ ap (λ (z : List (List K)). weighted (coefficient (map v c)) (polys v z)) (take_all i xs l)

  pub terms_none : (c : ℕ → Value d) (list : List (Given K)) (first : Value (suc d)) → first ≡ first +ᵛ sum_at c (shares v (take 0 list))
  terms_none c list first = ring (ValueR (suc d)) (first ∷ []) (search reads depth 12) refl

  pub terms_more : (c : ℕ → Value d) (list : List (Given K)) (i : ℕ) (u : Given K) (first sum part new : Value (suc d)) → i < length list → u ≡ get_or list i u → sum ≡ first +ᵛ sum_at c (shares v (take i list)) → part ≡ term c (share v u) → new ≡ sum +ᵛ part
      → new ≡ first +ᵛ sum_at c (shares v (take (i + 1) list))
  terms_more c list i u first sum part new l e h p n = by (ValueR (suc d)) (first ∷ sum ∷ part ∷ new ∷ sum_at c (shares v (take i list)) ∷ sum_at c (shares v (take (i + 1) list)) ∷ term c (share v u) ∷ [])
      ((ValueR (suc d)).add_cong n ((ValueR (suc d)).add_cong h ((ValueR (suc d)).add_cong p ((ValueR (suc d)).symm more)))) (search reads depth 20 fits 5000) refl
    where
      more : sum_at c (shares v (take (i + 1) list)) ≡ sum_at c (shares v (take i list)) +ᵛ term c (share v u)
      more = ap (sum_at c) (shares_push v (take i list) (take (i + 1) list) u (take_more list i u l ∙ ap (λ (z : Given K). take i list ++ z ∷ []) (sym e))) ∙ noted c (shares v (take i list)) (share v u)

  pub terms_all : (c : ℕ → Value d) (list : List (Given K)) (i : ℕ) (first sum : Value (suc d)) → length list ≤ i → sum ≡ first +ᵛ sum_at c (shares v (take i list)) → sum ≡ first +ᵛ sum_at c (shares v list)
  terms_all c list i first sum l h = h ∙ ap (λ (z : List (Given K)). first +ᵛ sum_at c (shares v z)) (take_all i list l)

  pub number_of : (n : ℕ) (list : List (Given K)) (i : ℕ) (u : Given K) → i < length list → Sized n (shares v list) → n ≡ length (get_or list i u).uppers
  number_of n [] i u l h = absurd (omega arith)
  number_of n (t ∷ list) zero u l h = sym (sym (length_map (λ p. poly (map v p)) t.uppers) ∙ h.0)
  number_of n (t ∷ list) (suc i) u l h = number_of n list i u (omega arith) h.1

  -- ---- Zeros

  pub zero_more : (xs new : List K) (x : K) → ((i : ℕ) → coefficient (map v xs) i ≡ zero_value) → v x ≡ zero_value → new ≡ xs ++ x ∷ [] → (i : ℕ) → coefficient (map v new) i ≡ zero_value
  zero_more xs new x h e is i = ap (λ (l : List K). coefficient (map v l) i) is ∙ at xs h i
    where
      at : (xs : List K) → ((i : ℕ) → coefficient (map v xs) i ≡ zero_value) → (i : ℕ) → coefficient (map v (xs ++ x ∷ [])) i ≡ zero_value
      at [] h zero = e
      at [] h (suc i) = refl
      at (y ∷ xs) h zero = h 0
      at (y ∷ xs) h (suc i) = at xs (λ j. h (suc j)) i

  pub length_more : (xs new : List K) (x : K) (n : ℕ) → length xs ≡ n → new ≡ xs ++ x ∷ [] → length new ≡ n + 1
  length_more xs new x n e is = ap length is ∙ at xs ∙ ap (λ (s : ℕ). s + 1) e
    where
      at : (xs : List K) → length (xs ++ x ∷ []) ≡ length xs + 1
      at [] = omega arith
      at (y ∷ xs) = ap suc (at xs) ∙ omega arith

  -- ---- The constants

  pub null_of : (n : ℕ) (list : List (Given K)) (rows bs : List (List K)) → AreConditions v list rows → ((i : ℕ) → i < length bs → length (get_or bs i []) ≡ n) → Form v bs
      → ((f : ℕ → Value d) → ((k : ℕ) → n ≤ k → f k ≡ zero_value) → ((j : ℕ) → j < length rows → row_times (map v (get_or rows j [])) f ≡ zero_value) → Span (table v bs) f) → IsNull v n (shares v list) bs
  null_of n list rows bs a size form complete = record { sized = size; form = form; complete = λ f z none. complete f z (sends_at v rows f ((a.both f).1 none)) }

  pub vanish_of : (list : List (Given K)) (rows bs : List (List K)) → AreConditions v list rows → ((j : ℕ) → j < length rows → (i : ℕ) → row_times (map v (get_or rows j [])) (coefficient (map v (get_or bs i []))) ≡ zero_value) → VanishAt v bs (shares v list)
  vanish_of list rows bs a sound = go bs sound
    where
      go : (bs : List (List K)) → ((j : ℕ) → j < length rows → (i : ℕ) → row_times (map v (get_or rows j [])) (coefficient (map v (get_or bs i []))) ≡ zero_value) → VanishAt v bs (shares v list)
      go [] h = tt
      go (b ∷ bs) h = ((a.both (coefficient (map v b))).0 (sends_each v rows (coefficient (map v b)) (λ j l. h j l 0)), go bs (λ j l i. h j l (suc i)))

  -- ---- The solutions

  match_end : (bs : List (List K)) (qs : List (Pair d)) (b : List K) (q : Pair d) → Match v bs qs → q.consts ≡ map v b → Match v (bs ++ b ∷ []) (qs ++ q ∷ [])
  match_end [] [] b q h e = (e, tt)
  match_end (b' ∷ bs) (q' ∷ qs) b q h e = (h.0, match_end bs qs b q h.1 e)
  match_end [] (q' ∷ qs) b q h e = absurd h
  match_end (b' ∷ bs) [] b q h e = absurd h

  pub solutions_none : (a : Value d) (ps : List (Polynomial d)) (mv : List (Share d)) (bs : List (List K)) (first : List (Solution K (List K × List K))) → AreSolutions v a ps mv (take 0 bs) first first
  solutions_none a ps mv bs first = record { qs = []; is = sym (append_nothing (pairs v first)); matches = tt; known = tt }
    where
      append_nothing : (xs : List (Pair d)) → xs ++ [] ≡ xs
      append_nothing [] = refl
      append_nothing (x ∷ xs) = ap (λ z. x ∷ z) (append_nothing xs)

  pairs_push : (list new : List (Solution K (List K × List K))) (s : Solution K (List K × List K)) → new ≡ list ++ s ∷ [] → pairs v new ≡ pairs v list ++ pair (map v s.coeffs) (ratio v s.value) ∷ []
  pairs_push list new s e = ap (pairs v) e ∙ at list
    where
      at : (list : List (Solution K (List K × List K))) → pairs v (list ++ s ∷ []) ≡ pairs v list ++ pair (map v s.coeffs) (ratio v s.value) ∷ []
      at [] = refl
      at (t ∷ list) = ap (λ z. pair (map v t.coeffs) (ratio v t.value) ∷ z) (at list)

  append_assoc : (xs ys zs : List (Pair d)) → (xs ++ ys) ++ zs ≡ xs ++ (ys ++ zs)
  append_assoc [] ys zs = refl
  append_assoc (x ∷ xs) ys zs = ap (λ z. x ∷ z) (append_assoc xs ys zs)

  pub solutions_more : (a : Value d) (ps : List (Polynomial d)) (mv : List (Share d)) (bs : List (List K)) (i : ℕ) (b : List K) (first list new : List (Solution K (List K × List K))) (s : Solution K (List K × List K)) → i < length bs → b ≡ get_or bs i b
      → AreSolutions v a ps mv (take i bs) first list → map v s.coeffs ≡ map v b → Known a ps mv (coefficient (map v b)) (ratio v s.value) → new ≡ list ++ s ∷ [] → AreSolutions v a ps mv (take (i + 1) bs) first new
  solutions_more a ps mv bs i b first list new s l e h c k is = subst (λ (z : List (List K)). AreSolutions v a ps mv z first new) (sym (take_more bs i b l ∙ ap (λ (z : List K). take i bs ++ z ∷ []) (sym e))) (record {
    qs = h.qs ++ q ∷ [];
    is = pairs_push list new s is ∙ ap (λ z. z ++ q ∷ []) h.is ∙ append_assoc (pairs v first) h.qs (q ∷ []);
    matches = match_end (take i bs) h.qs b q h.matches c;
    known = each_end (λ q. Known a ps mv (coefficient q.consts) q.value) h.qs q h.known (subst (λ (z : List (Value d)). Known a ps mv (coefficient z) (ratio v s.value)) (sym c) k);
  })
    where
      q : Pair d
      q = pair (map v s.coeffs) (ratio v s.value)

  pub solutions_all : (a : Value d) (ps : List (Polynomial d)) (mv : List (Share d)) (bs : List (List K)) (i : ℕ) (first list : List (Solution K (List K × List K))) → length bs ≤ i → AreSolutions v a ps mv (take i bs) first list → AreSolutions v a ps mv bs first list
  solutions_all a ps mv bs i first list l h = subst (λ (z : List (List K)). AreSolutions v a ps mv z first list) (take_all i bs l) h

  pub vector_size : (bs : List (List K)) (i n : ℕ) (u b : List K) → i < length bs → u ≡ get_or bs i u → b ≡ u → ((i : ℕ) → i < length bs → length (get_or bs i []) ≡ n) → length b ≡ n
  vector_size bs i n u b l e is h = ap length (is ∙ sym (row_read bs i u l e)) ∙ h i l

  -- ---- The basis

  pub reduction_at : (a b : Value d) (n : ℕ) (fs gs : List (List K × List K)) (ps : List (Polynomial d)) (ss mv : List (Share d)) → b ≡ a → gs ≡ fs → n ≡ length fs → IsReduction b (length gs) (map (ratio v) gs) ps ss mv → IsReduction a n (map (ratio v) fs) ps ss mv
  reduction_at a b n fs gs ps ss mv ea eg en r = subst (λ (k : ℕ). IsReduction a k (map (ratio v) fs) ps ss mv) (sym en)
      (subst (λ (z : List (List K × List K)). IsReduction a (length z) (map (ratio v) z) ps ss mv) eg (subst (λ (x : Value d). IsReduction x (length gs) (map (ratio v) gs) ps ss mv) ea r))

  all_solved : (a : Value d) (ps : List (Polynomial d)) (ss mv : List (Share d)) (bs : List (List K)) (qs : List (Pair d)) → ((i : ℕ) → i < length bs → length (get_or bs i []) ≡ length ps) → VanishAt v bs ss → Match v bs qs
      → Each (λ q. Known a ps mv (coefficient q.consts) q.value) qs → Each (IsSolved v a ps ss mv) qs
  all_solved a ps ss mv [] [] size none m k = tt
  all_solved a ps ss mv (b ∷ bs) (q ∷ qs) size none m k = (
    record { sized = ap length m.0 ∙ length_map v b ∙ size 0 (omega arith); none = subst (λ (z : List (Value d)). None (coefficient z) ss) (sym m.0) none.0; known = k.0 },
    all_solved a ps ss mv bs qs (λ i l. size (suc i) (omega arith)) none.1 m.1 k.1,
  )
  all_solved a ps ss mv [] (q ∷ qs) size none m k = absurd m
  all_solved a ps ss mv (b ∷ bs) [] size none m k = absurd m

  lowers_of : (ss : List (Share d)) → Each Fits ss → Each (λ w. ¬ (w ≡ zero_polynomial)) (bottoms ss)
  lowers_of [] h = tt
  lowers_of (s ∷ ss) h = (fits_some s h.0, lowers_of ss h.1)

  small_of : (ss : List (Share d)) → Each Fits ss → Each Small ss
  small_of [] h = tt
  small_of (s ∷ ss) h = (fits_small s h.0, small_of ss h.1)

  module _ (a : Value d) (a_ne : ¬ (a ≡ zero_value)) (n : ℕ) (fs : List (Value (suc d))) (ps : List (Polynomial d)) (ss mv : List (Share d)) (count : length fs ≡ n) (r : IsReduction a n fs ps ss mv) (bs : List (List K)) (null : IsNull v n ss bs) (vanish : VanishAt v bs ss)
      (first list : List (Solution K (List K × List K))) (one : a ≡ one_value → IsUnit v n first) (other : ¬ (a ≡ one_value) → first ≡ []) (h : AreSolutions v a ps mv bs first list) where
    size : n ≡ length ps
    size = sym count ∙ r.same

    sized : (i : ℕ) → i < length bs → length (get_or bs i []) ≡ length ps
    sized i l = null.sized i l ∙ size

    solved : Each (IsSolved v a ps ss mv) h.qs
    solved = all_solved a ps ss mv bs h.qs sized vanish h.matches h.known

    null_too : IsNull v (length ps) ss bs
    null_too = subst (λ (s : ℕ). IsNull v s ss bs) size null

    with_one : (e : a ≡ one_value) → IsBasis (constant_value d a) fs (pairs v list)
    with_one e = subst (IsBasis (constant_value d a) fs) (sym (h.is ∙ ap (λ z. z ++ h.qs) (one e).is))
        (is_basis_one v a a_ne fs ps ss mv r.same r.is (lowers_of ss r.good.fits) r.good.settled (small_of ss r.good.fits) (subst (λ (s : ℕ). Sized s ss) size r.good.sized) (subst (λ (s : ℕ). Sized s mv) size r.sized) bs null_too h.qs h.matches solved
        (one e).zeros ((one e).size ∙ sym count) (one e).nothing e)

    without_one : ¬ (a ≡ one_value) → IsBasis (constant_value d a) fs (pairs v list)
    without_one ne = subst (IsBasis (constant_value d a) fs) (sym (h.is ∙ ap (λ (z : List (Solution K (List K × List K))). pairs v z ++ h.qs) (other ne)))
        (is_basis_other v a a_ne fs ps ss mv r.same r.is (lowers_of ss r.good.fits) r.good.settled (small_of ss r.good.fits) (subst (λ (s : ℕ). Sized s ss) size r.good.sized) (subst (λ (s : ℕ). Sized s mv) size r.sized) bs null_too h.qs h.matches solved ne)

    pub is_basis : IsBasis (constant_value d a) fs (pairs v list)
    is_basis = at (value_is_zero d (a -ᵛ one_value))
      where
        at : Dec (a -ᵛ one_value ≡ zero_value) → IsBasis (constant_value d a) fs (pairs v list)
        at (yes z) = with_one (eq_of_sub (ValueR d) z)
        at (no z) = without_one (λ e. z (by (ValueR d) (a ∷ []) e (search reads depth 12) refl))

module _ {K : Type 0} {d : ℕ} (v : K → Value d) where
  pub pairs_one : (list new : List (Solution K (List K × List K))) (s : Solution K (List K × List K)) → list ≡ [] → new ≡ list ++ s ∷ [] → ratio v s.value ≡ one_value → pairs v new ≡ pair (map v s.coeffs) one_value ∷ []
  pairs_one list new s e is o = ap (pairs v) (is ∙ ap (λ (l : List (Solution K (List K × List K))). l ++ s ∷ []) e) ∙ ap (λ x. pair (map v s.coeffs) x ∷ []) o

  pub factors_inverse : (a c i o : Value d) → ¬ (a ≡ zero_value) → c ≡ a → i ≡ o /ᵛ a → o ≡ one_value → c *ᵛ i ≡ one_value
  factors_inverse a c i o ne ec ei eo = ap₂ ◌*ᵛ◌ ec ei ∙ value_mul_comm d a (o /ᵛ a) ∙ value_product o a ne ∙ eo

  pub factors_minus : (m z o : Value d) → m ≡ z -ᵛ o → z ≡ zero_value → o ≡ one_value → m ≡ neg_value one_value
  factors_minus m z o em ez eo = em ∙ ap₂ (λ x y. x -ᵛ y) ez eo ∙ ring (ValueR d) [] (search reads depth 12) refl
