-- One list of exponents after the other: from the unit rows to all solutions.
--   listed_in           a list with an exponent for each product, as exponents and back
--   side_call, power_call    the coefficient at the exponents, and the element with this one term
--   next_is, state_lowered   one list of exponents
--   state_begun, finished_sound, finished_complete    the start and the end
use Rattle.std.proofs.Common.{◌≡◌, ℕ, zero, suc, ◌<◌, ◌≤◌, refl, sym, ap, ap₂, ◌∙◌, subst, List, [], ◌∷◌, map, length, drop, get_or, ℤ, arith}
use Rattle.sg_algebra.specs.Ring.{Ring, Field}
use Rattle.sg_algebra.specs.Coefficients.{Each}
use Rattle.sg_algebra.proofs.Lists.{each_map}
use Rattle.sg_algebra.proofs.NullSpace.{axis_one, axis_zero}
use Rattle.sg_algebra.proofs.Place.{Pairwise}
use Rattle.sg_algebra.proofs.Polynomial.{coefficient}
use Rattle.sg_algebra.proofs.Ring.{O_add}
use Rattle.sg_algebra.proofs.Value.{Value, zero_value}
use Rattle.sg_algebra.proofs.ValueField.{ValueR, ValueF}
use Rattle.sg_tower_theory.specs.Powers.{powers}
use Rattle.sg_tower_theory.proofs.Difference.{Difference as Shifted, trivial, total_pairwise, Solves}
use Rattle.sg_tower_theory.proofs.Formal.{factors, factors_some, factors_same, IndependentFactors}
use Rattle.sg_tower_theory.proofs.Monomials.{one_term, one_term-is}
use Rattle.sg_tower_theory.proofs.ProductSlices.{monomial, Inside, state_begin, all_next, all_sound, all_complete}
use Rattle.sg_tower_theory.proofs.Products.{Exponents, listed, zeros, LaurentsR, coefficient as coefficient_at}
use Rattle.sg_tower_theory.proofs.ShiftValue.{rational_functions}
use Rattle.sg_tower_theory.proofs.Slices.{IsState, differences, pairwise_each, pairwise_to}
use Rattle.sg_tower_theory.proofs.Starting.{Starts}
use Rattle.sg_first_order_theory.specs.Solutions.{pair, IsBasis}
use Rattle.sg_products.proofs.FirstOrder.{inner_sound, inner_complete}
use Rattle.sg_matrix.specs.declared.solution.Solution.{Solution}
use Rattle.sg_ratfun.specs.Fractions.{ratio}
use Rattle.sg_laurent.specs.declared.terms.Term.{Term}
use Rattle.sg_laurent.specs.Elements.{exponents, Same, Sum, element, term_in, zero_in}
use Rattle.sg_tower.specs.Elements.{IsSum, IsDifference, IsShifted, AllSolve, IsComplete, consts_of, value_of}
use Rattle.sg_products.specs.declared.partial.Partial.{Partial}
use Rattle.sg_products.specs.Readings.{count, laurents}
use Rattle.sg_products.specs.Solving.{exponents_in, partial_consts, partial_value, partial_left, solution_consts, shift_of, power_at, IsCombined, IsStartRow, StartFrom, StartRows, State, IsSide, IsNextRow, IsFinished}
use Rattle.sg_products.proofs.Moving.{count_is, in_count}

pub listed_in : (n : ℕ) (es : List ℤ) → length es ≡ n → es ≡ listed n (exponents_in n es)
listed_in zero [] e = refl
listed_in zero (x ∷ es) e = absurd (omega (arith, e))
listed_in (suc n) [] e = absurd (omega (arith, e))
listed_in (suc n) (x ∷ es) e = ap (λ r. x ∷ r) (listed_in n es (omega (arith, e)))

module _ {K : Type 0} {d : ℕ} (v : K → Value d) (αs : List (List K × List K)) where
  abbrev F : Field
  F = ValueF (suc d)

  abbrev N : ℕ
  N = count v αs

  abbrev S : Ring
  S = LaurentsR (ValueF (suc d)) (count v αs)

  abbrev D : Shifted (ValueR d) S
  D = shift_of v αs

  pub side_call : (n : ℕ) (e : List ℤ) (w : Partial K) (x : List K × List K) → n ≡ length αs → length e ≡ length αs
      → ((z : Exponents n) → e ≡ listed n z → ratio v x ≡ coefficient_at F n z (element (ratio v) n w.left)) → IsSide v αs e w x
  side_call n e w x q l h = in_count v αs n q (λ m. (z : Exponents m) → e ≡ listed m z → ratio v x ≡ coefficient_at F m z (element (ratio v) m w.left)) h (exponents_in N e) (listed_in N e (l ∙ sym (count_is v αs)))

  pub power_call : (n : ℕ) (e : List ℤ) (h : Value (suc d)) (t : Term (List K × List K)) (z r : List (Term (List K × List K))) → n ≡ length αs → length e ≡ length αs → exponents t ≡ e → ratio v t.coeff ≡ h → z ≡ []
      → Same (ratio v) n (element (ratio v) n r) (Sum (ratio v) n (element (ratio v) n z) (term_in (ratio v) n t)) → Same (ratio v) N (element (ratio v) N r) (power_at v αs e h)
  power_call n e h t z r q l x y w k = S.trans (in_count v αs n q (λ m. Same (ratio v) m (element (ratio v) m r) (Sum (ratio v) m (element (ratio v) m z) (term_in (ratio v) m t))) k)
      (S.trans (rw w (O_add S)) (at_own (exponents t) (exponents_in N e) (ratio v t.coeff) (x ∙ listed_in N e (l ∙ sym (count_is v αs))) y))
    where
      at_own : (es : List ℤ) (u : Exponents N) (c : Value (suc d)) → es ≡ listed N u → c ≡ h → Same (ratio v) N (one_term F N es c) (monomial F N u h)
      at_own es u c a b = rw (a, b, one_term-is F N u h) S.rfl

  pub next_is : (e : List ℤ) (rows : List (Partial K)) (w : Solution K (List K × List K)) (sum r : Partial K) (power moved difference : List (Term (List K × List K)))
      → IsCombined v αs (solution_consts v w) rows sum → Same (ratio v) N (element (ratio v) N power) (power_at v αs e (ratio v w.value)) → IsShifted (laurents v αs) power moved → IsDifference (laurents v αs) moved power difference
      → r.coeffs ≡ sum.coeffs → IsSum (laurents v αs) sum.value power r.value → IsDifference (laurents v αs) sum.left difference r.left → IsNextRow v αs e rows w r
  next_is e rows w sum r power moved difference b p s q h j k = record {
    consts = λ i. ap (λ (z : List K). coefficient (map v z) i) h ∙ b.coeffs i;
    value = S.trans j (S.add_cong b.value p);
    left = S.trans k (S.add_cong b.left (S.neg_cong (S.trans q (S.trans (S.add_cong s (S.rfl {x = S.⊟ (element (ratio v) N power)})) ((differences D).cong (element (ratio v) N power) (power_at v αs e (ratio v w.value)) p)))));
  }

  module _ (some : Each (λ a. ¬ (ratio v a ≡ zero_value)) αs) (free : IndependentFactors (map (ratio v) αs)) (fs : List (List (Term (List K × List K)))) where
    same : factors (map (ratio v) αs) ≡ map (ratio v) αs
    same = factors_same (map (ratio v) αs) (each_map (λ x. ¬ (x ≡ zero_value)) (ratio v) αs some)

    drop_at : {X : Type 0} (es : List X) (i : ℕ) (e : X) → i < length es → e ≡ get_or es i e → drop i es ≡ e ∷ drop (suc i) es
    drop_at [] i e l a = absurd (omega arith)
    drop_at (x ∷ es) zero e l a = ap (λ z. z ∷ es) (sym a)
    drop_at (x ∷ es) (suc i) e l a = drop_at es i e (omega arith) a

    pub state_lowered : (es : List (List ℤ)) (i : ℕ) (e : List ℤ) (rows : List (Partial K)) (ls : List (List K × List K)) (a : Value (suc d)) (inner : List (Solution K (List K × List K))) (new : List (Partial K))
        → i < length es → e ≡ get_or es i e → length e ≡ length αs → State v αs fs (drop i es) rows → Pairwise (IsSide v αs e) rows ls → a ≡ powers F (map (ratio v) αs) e
        → IsBasis a (map (ratio v) ls) (map (λ s. pair (map v s.coeffs) (ratio v s.value)) inner) → Pairwise (IsNextRow v αs e rows) inner new → State v αs fs (drop (suc i) es) new
    state_lowered es i e rows ls a inner new l at q st p ae basis next =
        all_next F (rational_functions d) (factors (map (ratio v) αs)) (factors_some (map (ratio v) αs)) free (element (ratio v) N) fs (partial_consts v) (partial_value v αs) (partial_left v αs)
        (exponents_in N e) (map (exponents_in N) (drop (suc i) es)) rows (ratio v) ls (solution_consts v) (λ s. ratio v s.value) inner new
        (subst (λ (zs : List (List ℤ)). State v αs fs zs rows) (drop_at es i e l at) st) p
        (inner_sound (ratio v) ls (λ s. map v s.coeffs) (λ s. ratio v s.value) (powers F (factors (map (ratio v) αs)) (listed N (exponents_in N e))) inner based)
        (inner_complete (ratio v) ls (λ s. map v s.coeffs) (λ s. ratio v s.value) (powers F (factors (map (ratio v) αs)) (listed N (exponents_in N e))) inner based)
        (pairwise_to (IsNextRow v αs e rows) _ inner new (λ w r h. record { next_consts = h.consts; next_value = h.value; next_left = h.left }) next)
      where
        based : IsBasis (powers F (factors (map (ratio v) αs)) (listed N (exponents_in N e))) (map (ratio v) ls) (map (λ s. pair (map v s.coeffs) (ratio v s.value)) inner)
        based = subst (λ (x : Value (suc d)). IsBasis x (map (ratio v) ls) (map (λ s. pair (map v s.coeffs) (ratio v s.value)) inner))
            (ae ∙ ap₂ (powers F) (sym same) (listed_in N e (q ∙ sym (count_is v αs)))) basis

    begun : (k : ℕ) (xs : List (List (Term (List K × List K)))) (ws : List (Partial K)) → StartFrom v αs fs k xs ws → Starts D (differences D) (element (ratio v) N) fs (partial_consts v) (partial_value v αs) (partial_left v αs) k xs ws
    begun k [] [] s = tt
    begun k [] (w ∷ ws) s = absurd s
    begun k (x ∷ xs) [] s = absurd s
    begun k (x ∷ xs) (w ∷ ws) s = (
      record {
        inside = s.0.inside;
        place = s.0.place;
        own = s.0.consts k ∙ axis_one k k refl;
        others = λ j h. s.0.consts j ∙ axis_zero k j (λ e. h (sym e));
        no_value = s.0.no_value;
        all_left = s.0.all_left;
      },
      begun (suc k) xs ws s.1,
    )

    pub state_begun : (es : List (List ℤ)) (rest : List (Exponents N)) (rows : List (Partial K)) → map (exponents_in N) es ≡ zeros N ∷ rest
        → Each (λ f. Inside F (rational_functions d) (factors (map (ratio v) αs)) (factors_some (map (ratio v) αs)) (zeros N ∷ rest) (element (ratio v) N f)) fs → StartRows v αs fs rows → State v αs fs es rows
    state_begun es rest rows are inside s = subst (λ (zs : List (Exponents N)). IsState D (differences D) (element (ratio v) N) fs (partial_consts v) (partial_value v αs) (partial_left v αs) (Inside F (rational_functions d) (factors (map (ratio v) αs)) (factors_some (map (ratio v) αs)) zs) rows) (sym are) (state_begin F (rational_functions d) (factors (map (ratio v) αs)) (factors_some (map (ratio v) αs)) free (element (ratio v) N) fs (partial_consts v) (partial_value v αs) (partial_left v αs) rest rows (begun 0 fs rows s) inside)

    pub finished_sound : (rows : List (Partial K)) (answer : List (Solution K (List (Term (List K × List K))))) → State v αs fs [] rows → Pairwise IsFinished rows answer → AllSolve (laurents v αs) v fs answer
    finished_sound rows answer st p =
        pairwise_each IsFinished (λ w. Solves D (element (ratio v) N) fs (partial_consts v w) (partial_value v αs w)) (λ s. Solves D (element (ratio v) N) fs (consts_of (laurents v αs) v s) (value_of (laurents v αs) v s)) rows answer
        (λ w s h e. rw (h.coeffs, h.value) e) p
        (all_sound F (rational_functions d) (factors (map (ratio v) αs)) (factors_some (map (ratio v) αs)) free (element (ratio v) N) fs (partial_consts v) (partial_value v αs) (partial_left v αs) rows st)

    pub finished_complete : (rows : List (Partial K)) (answer : List (Solution K (List (Term (List K × List K))))) → State v αs fs [] rows → Pairwise IsFinished rows answer → IsComplete (laurents v αs) v fs answer
    finished_complete rows answer st p c g z =
        let k = all_complete F (rational_functions d) (factors (map (ratio v) αs)) (factors_some (map (ratio v) αs)) free (element (ratio v) N) fs (partial_consts v) (partial_value v αs) (partial_left v αs) rows st c g z in
        record {
          weights = k.weights;
          same_consts = λ i l. k.same_consts i l ∙ total_pairwise (trivial (ValueR d)) (λ w. partial_consts v w i) (λ s. consts_of (laurents v αs) v s i) k.weights rows answer
              (pairwise_to IsFinished (λ w s. partial_consts v w i ≡ consts_of (laurents v αs) v s i) rows answer (λ w s h. rw (h.coeffs) refl) p);
          same_value = S.trans k.same_value (total_pairwise D (partial_value v αs) (value_of (laurents v αs) v) k.weights rows answer
              (pairwise_to IsFinished (λ w s. Same (ratio v) N (partial_value v αs w) (element (ratio v) N s.value)) rows answer (λ w s h. rw (h.value) S.rfl) p));
        }
