-- From a basis of the constants at which all numerators vanish to a basis of the solutions.
--   IsNull v r ss bs      bs is a basis, in reduced form, of the vectors of r constants at which the numerators of ss vanish
--   Match v bs qs         the pairs qs have the constants bs
--   is_basis_other        where a isn't 1, pairs that solve for such constants are a basis of the solutions
--   is_basis_one          where a is 1, they are with the pair of zeros and 1 before them
use Rattle.std.proofs.Common.{◌≡◌, ℕ, zero, suc, ◌≤◌, ◌<◌, refl, sym, ◌∙◌, ap, ap₂, subst, List, [], ◌∷◌, ◌⊎◌, inl, inr, map, length, get_or, arith}
use Rattle.sg_algebra.specs.Coefficients.{Each}
use Rattle.sg_algebra.proofs.Solver.{ring, by, scale, reads}
use Rattle.sg_algebra.proofs.Lists.{length_map}
use Rattle.sg_algebra.proofs.Linear.{Span, table, Form}
use Rattle.sg_algebra.proofs.NullSpace.{axis_one, table_at}
use Rattle.sg_algebra.proofs.Rows.{past_row}
use Rattle.sg_algebra.proofs.Value.{Value, zero_value, one_value, neg_value, ◌+ᵛ◌, ◌-ᵛ◌, ◌*ᵛ◌}
use Rattle.sg_algebra.proofs.ValueField.{ValueR, value_one_ne}
use Rattle.sg_algebra.proofs.Embedding.{constant_value, constant_value_zero}
use Rattle.sg_algebra.proofs.Polynomial.{Polynomial, PolynomialR, coefficient, constant, zero_polynomial, ◌-ᵖ◌, ◌*ᵖ◌}
use Rattle.sg_dispersion_theory.proofs.Listed.{list_of}
use Rattle.sg_first_order_theory.proofs.Basis.{total, combined_total, total_unit}
use Rattle.sg_first_order_theory.proofs.Next.{next, nextH}
use Rattle.sg_algebra.proofs.ShiftValue.{shift_value, shift_value-one}
use Rattle.sg_first_order_theory.proofs.ValueFractions.{whole, whole-zero, whole-one}
use Rattle.sg_first_order_theory.specs.Solutions.{weighted_value, Solves, Pair, pair, sum_consts, sum_values, Combination, IsBasis}
use Rattle.sg_reduction_theory.proofs.Pieces.{Settled}
use Rattle.sg_reduction_theory.proofs.Moves.{Share, sum_at, Reduced, whole-constant}
use Rattle.sg_reduction_theory.proofs.Answer.{None, Left, Small, bottoms, complete, sound}
use Rattle.sg_reduction_theory.proofs.Kernel.{kernel_one, kernel_other}
use Rattle.sg_reduction_theory.proofs.Spanning.{Sized, Known, known_sum, known_cong, known_apart, none_cong, constant-zero, Apart}

module _ {d : ℕ} where
  abbrev cut : ℕ → (ℕ → Value d) → ℕ → Value d
  cut zero c i = zero_value
  cut (suc r) c zero = c 0
  cut (suc r) c (suc i) = cut r (λ i. c (suc i)) i

  cut_in : (r : ℕ) (c : ℕ → Value d) (i : ℕ) → i < r → c i ≡ cut r c i
  cut_in zero c i l = absurd (omega arith)
  cut_in (suc r) c zero l = refl
  cut_in (suc r) c (suc i) l = cut_in r (λ i. c (suc i)) i (omega arith)

  cut_past : (r : ℕ) (c : ℕ → Value d) (i : ℕ) → r ≤ i → cut r c i ≡ zero_value
  cut_past zero c i l = refl
  cut_past (suc r) c zero l = absurd (omega arith)
  cut_past (suc r) c (suc i) l = cut_past r (λ i. c (suc i)) i (omega arith)

  abbrev before : Value d → (ℕ → Value d) → ℕ → Value d
  before κ m zero = κ
  before κ m (suc l) = m l

  constant_value_of_zero : constant_value d zero_value ≡ zero_value
  constant_value_of_zero = sym (whole-constant zero_value) ∙ ap whole constant-zero ∙ whole-zero d

  constant_one : (a : Value d) → a ≡ one_value → constant_value d a ≡ one_value
  constant_one a e = ap (constant_value d) e ∙ sym (whole-constant one_value) ∙ whole-one

  weighted_value_none : (c : ℕ → Value d) (fs : List (Value (suc d))) → ((i : ℕ) → c i ≡ zero_value) → weighted_value c fs ≡ zero_value
  weighted_value_none c [] h = refl
  weighted_value_none c (f ∷ fs) h = by (ValueR (suc d)) (constant_value d (c 0) ∷ f ∷ weighted_value (λ i. c (suc i)) fs ∷ [])
      ((ValueR (suc d)).add_cong (scale (ValueR (suc d)) f (ap (constant_value d) (h 0) ∙ constant_value_of_zero)) (weighted_value_none (λ i. c (suc i)) fs (λ i. h (suc i)))) (search reads depth 16) refl

  sum_values_none : (m : ℕ → Value d) (qs : List (Pair d)) → ((l : ℕ) → l < length qs → m l ≡ zero_value) → sum_values m qs ≡ zero_value
  sum_values_none m [] h = refl
  sum_values_none m (q ∷ qs) h = by (ValueR (suc d)) (constant_value d (m 0) ∷ q.value ∷ sum_values (λ l. m (suc l)) qs ∷ [])
      ((ValueR (suc d)).add_cong (scale (ValueR (suc d)) q.value (ap (constant_value d) (h 0 (omega arith)) ∙ constant_value_of_zero)) (sum_values_none (λ l. m (suc l)) qs (λ l k. h (suc l) (omega arith)))) (search reads depth 16) refl

module _ {K : Type 0} {d : ℕ} (v : K → Value d) where
  pub record IsNull (r : ℕ) (ss : List (Share d)) (bs : List (List K)) : Type 0 where
    pub sized : (i : ℕ) → i < length bs → length (get_or bs i []) ≡ r
    pub form : Form v bs
    pub complete : (f : ℕ → Value d) → ((k : ℕ) → r ≤ k → f k ≡ zero_value) → None f ss → Span (table v bs) f

  abbrev pub Match : List (List K) → List (Pair d) → Type 0
  Match [] [] = Unit {0}
  Match (b ∷ bs) (q ∷ qs) = (q.consts ≡ map v b) × Match bs qs
  Match [] (q ∷ qs) = ⊥
  Match (b ∷ bs) [] = ⊥

  match_total : (bs : List (List K)) (qs : List (Pair d)) → Match bs qs → (m : ℕ → Value d) (i : ℕ) → sum_consts m qs i ≡ total m (table v bs) i
  match_total [] [] h m i = refl
  match_total (b ∷ bs) (q ∷ qs) h m i = ap₂ (λ x y. m 0 *ᵛ coefficient x i +ᵛ y) h.0 (match_total bs qs h.1 (λ l. m (suc l)) i)
  match_total [] (q ∷ qs) h m i = absurd h
  match_total (b ∷ bs) [] h m i = absurd h

  match_length : (bs : List (List K)) (qs : List (Pair d)) → Match bs qs → length bs ≡ length qs
  match_length [] [] h = refl
  match_length (b ∷ bs) (q ∷ qs) h = ap suc (match_length bs qs h.1)
  match_length [] (q ∷ qs) h = absurd h
  match_length (b ∷ bs) [] h = absurd h

  -- what is known of the pairs
  pub record Solved (a : Value d) (ps : List (Polynomial d)) (ss moved : List (Share d)) (q : Pair d) : Type 0 where
    pub sized : length q.consts ≡ length ps
    pub none : None (coefficient q.consts) ss
    pub known : Known a ps moved (coefficient q.consts) q.value

  each_known : (a : Value d) (ps : List (Polynomial d)) (ss moved : List (Share d)) (qs : List (Pair d)) → Each (Solved a ps ss moved) qs → Each (λ q. Known a ps moved (coefficient q.consts) q.value) qs
  each_known a ps ss moved [] h = tt
  each_known a ps ss moved (q ∷ qs) h = (h.0.known, each_known a ps ss moved qs h.1)

  module _ (a : Value d) (a_ne : ¬ (a ≡ zero_value)) (fs : List (Value (suc d))) (ps : List (Polynomial d)) (ss moved : List (Share d)) (same : length fs ≡ length ps) (red : Reduced a fs ps ss moved)
      (some : Each (λ w. ¬ (w ≡ zero_polynomial)) (bottoms ss)) (settled : Settled (PolynomialR d) (nextH d) (bottoms ss)) (small : Each Small ss)
      (sized : Sized (length ps) ss) (sized_too : Sized (length ps) moved) (bs : List (List K)) (null : IsNull (length ps) ss bs) (qs : List (Pair d)) (match : Match bs qs) (solved : Each (Solved a ps ss moved) qs) where
    each_sized : (qs : List (Pair d)) → Each (Solved a ps ss moved) qs → Each (λ q. length q.consts ≡ length fs) qs
    each_sized [] h = tt
    each_sized (q ∷ qs) h = (h.0.sized ∙ sym same, each_sized qs h.1)

    solves_pair : (q : Pair d) → Solved a ps ss moved q → Solves (constant_value d a) fs (coefficient q.consts) q.value
    solves_pair q h = subst (λ (g : Value (suc d)). Solves (constant_value d a) fs (coefficient q.consts) g) (sym h.known.is)
        (sound a fs ps ss moved red (coefficient q.consts) h.known.y h.none h.known.solves)

    each_solves : (qs : List (Pair d)) → Each (Solved a ps ss moved) qs → Each (λ q. Solves (constant_value d a) fs (coefficient q.consts) q.value) qs
    each_solves [] h = tt
    each_solves (q ∷ qs) h = (solves_pair q h.0, each_solves qs h.1)

    -- a solution is a combination and a polynomial y with a y(k+1) - y = 0
    record Near (c : ℕ → Value d) (g : Value (suc d)) : Type 0 where
      pub m : ℕ → Value d
      pub consts : (i : ℕ) → i < length ps → c i ≡ sum_consts m qs i
      pub rest : Apart a g (sum_values m qs)

    near : (c : ℕ → Value d) (g : Value (suc d)) → Solves (constant_value d a) fs c g → Near c g
    near c g h = made (complete a a_ne ss some settled small fs ps moved red c g h)
      where
        r : ℕ
        r = length ps

        made : Left a (Rattle.sg_first_order_theory.proofs.Weighted.weighted c ps) ss c (g -ᵛ sum_at c moved) → Near c g
        made l = found (null.complete (cut r c) (cut_past r c) (none_cong r c (cut r c) ss sized (cut_in r c) l.none))
          where
            mine : Known a ps moved c g
            mine = record { y = l.y; is = by (ValueR (suc d)) (g ∷ sum_at c moved ∷ whole l.y ∷ []) l.is (search reads depth 16) refl; solves = l.solves }

            found : Span (table v bs) (cut r c) → Near c g
            found s = record {
              m = coefficient s.coeffs;
              consts = agree;
              rest = known_apart a ps moved (sum_consts (coefficient s.coeffs) qs) g (sum_values (coefficient s.coeffs) qs) (known_cong a ps moved c (sum_consts (coefficient s.coeffs) qs) g sized_too agree mine)
                  (known_sum a ps moved (coefficient s.coeffs) qs (each_known a ps ss moved qs solved));
            }
              where
                agree : (i : ℕ) → i < length ps → c i ≡ sum_consts (coefficient s.coeffs) qs i
                agree i k = cut_in r c i k ∙ s.is i ∙ combined_total s.coeffs (table v bs) i ∙ sym (match_total bs qs match (coefficient s.coeffs) i)

    apart : (m : ℕ → Value d) → ((i : ℕ) → i < length fs → sum_consts m qs i ≡ zero_value) → (l : ℕ) → l < length qs → m l ≡ zero_value
    apart m h l k = sym (total_unit m (table v bs) (null.form.own l) l (rw (length_map (map v) bs) within) (λ i k. rw (table_at v bs i) (null.form.one i l (rw (length_map (map v) bs) at k) within)))
        ∙ sym (match_total bs qs match m (null.form.own l)) ∙ h (null.form.own l) (below (side (null.form.own l) (length ps)))
      where
        within : l < length bs
        within = subst (λ (n : ℕ). l < n) (sym (match_length bs qs match)) k

        side : (k s : ℕ) → (k < s) ⊎ (s ≤ k)
        side k s = grind arith

        below : (null.form.own l < length ps) ⊎ (length ps ≤ null.form.own l) → null.form.own l < length fs
        below (inl p) = subst (λ (n : ℕ). null.form.own l < n) (sym same) p
        below (inr p) = absurd (value_one_ne d (sym (axis_one l l refl) ∙ sym (null.form.one l l within within) ∙ past_row v (get_or bs l []) (null.form.own l) (subst (λ (n : ℕ). n ≤ null.form.own l) (sym (null.sized l within)) p)))

    pub is_basis_other : ¬ (a ≡ one_value) → IsBasis (constant_value d a) fs qs
    is_basis_other ne = record {
      sized = each_sized qs solved;
      solves = each_solves qs solved;
      spans = λ c g h. made c g (near c g h);
      independent = λ m hc hv l k. apart m hc l k;
    }
      where
        made : (c : ℕ → Value d) (g : Value (suc d)) → Near c g → Combination qs (length fs) c g
        made c g n = record {
          factors = n.m;
          consts = λ i k. n.consts i (subst (λ (n : ℕ). i < n) same k);
          value = n.rest.is ∙ ap (λ x. sum_values n.m qs +ᵛ x) (ap whole (kernel_other a ne n.rest.y n.rest.none) ∙ whole-zero d) ∙ ring (ValueR (suc d)) (sum_values n.m qs ∷ []) (search reads depth 12) refl;
        }

    pub is_basis_one : (zeros : List (Value d)) → length zeros ≡ length fs → ((i : ℕ) → coefficient zeros i ≡ zero_value) → a ≡ one_value → IsBasis (constant_value d a) fs (pair zeros one_value ∷ qs)
    is_basis_one zeros size nothing one = record {
      sized = (size, each_sized qs solved);
      solves = (first_solves, each_solves qs solved);
      spans = λ c g h. made c g (near c g h);
      independent = alone;
    }
      where
        first_solves : Solves (constant_value d a) fs (coefficient zeros) one_value
        first_solves = by (ValueR (suc d)) (constant_value d a ∷ shift_value d (one_value {d = suc d}) ∷ weighted_value (coefficient zeros) fs ∷ [])
            ((ValueR (suc d)).add_cong (scale (ValueR (suc d)) (constant_value d a) (shift_value-one d)) ((ValueR (suc d)).add_cong (constant_one a one) ((ValueR (suc d)).symm (weighted_value_none (coefficient zeros) fs nothing)))) (search reads depth 16) refl

        made : (c : ℕ → Value d) (g : Value (suc d)) → Near c g → Combination (pair zeros one_value ∷ qs) (length fs) c g
        made c g n = record {
          factors = before κ n.m;
          consts = λ i k. n.consts i (subst (λ (n : ℕ). i < n) same k) ∙ by (ValueR d) (κ ∷ coefficient zeros i ∷ sum_consts n.m qs i ∷ []) (scale (ValueR d) (neg_value κ) (nothing i)) (search reads depth 16) refl;
          value = by (ValueR (suc d)) (g ∷ sum_values n.m qs ∷ whole n.rest.y ∷ constant_value d κ ∷ [])
              ((ValueR (suc d)).add_cong n.rest.is (ap whole (kernel_one n.rest.y (subst (λ (e : Value d). constant e *ᵖ next n.rest.y -ᵖ n.rest.y ≡ zero_polynomial) one n.rest.none)) ∙ whole-constant κ)) (search reads depth 16) refl;
        }
          where
            κ : Value d
            κ = coefficient (list_of n.rest.y) 0

        alone : (m : ℕ → Value d) → ((i : ℕ) → i < length fs → sum_consts m (pair zeros one_value ∷ qs) i ≡ zero_value) → sum_values m (pair zeros one_value ∷ qs) ≡ zero_value → (l : ℕ) → l < suc (length qs) → m l ≡ zero_value
        alone m hc hv zero k = constant_value_zero d (m 0) (by (ValueR (suc d)) (constant_value d (m 0) ∷ sum_values (λ l. m (suc l)) qs ∷ [])
            ((ValueR (suc d)).add_cong hv ((ValueR (suc d)).symm (sum_values_none (λ l. m (suc l)) qs (λ l p. later m hc l p)))) (search reads depth 16) refl)
          where
            later : (m : ℕ → Value d) → ((i : ℕ) → i < length fs → sum_consts m (pair zeros one_value ∷ qs) i ≡ zero_value) → (l : ℕ) → l < length qs → m (suc l) ≡ zero_value
            later m hc l p = apart (λ l. m (suc l)) (λ i q. by (ValueR d) (m 0 ∷ coefficient zeros i ∷ sum_consts (λ l. m (suc l)) qs i ∷ []) ((ValueR d).add_cong (hc i q) (scale (ValueR d) (neg_value (m 0)) (nothing i))) (search reads depth 16) refl) l p
        alone m hc hv (suc l) k = apart (λ l. m (suc l)) (λ i q. by (ValueR d) (m 0 ∷ coefficient zeros i ∷ sum_consts (λ l. m (suc l)) qs i ∷ []) ((ValueR d).add_cong (hc i q) (scale (ValueR d) (neg_value (m 0)) (nothing i))) (search reads depth 16) refl) l (omega arith)
