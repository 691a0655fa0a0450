-- From the vectors of the linear system to the basis of the solutions.
--   IsBound n a b xs       each y with a y(k+1) - b y = c_0 x_0 + .. is below n
--   IsSpace v a b xs n bs  the vectors bs are a basis, in reduced form, of the constants and coefficients of such y below n
--   pair_of v r q vec      what a vector stands for: its first r entries, and the polynomial of the others over q
--   is_basis               they are a basis of the solutions
use Rattle.std.proofs.Common.{◌≡◌, ℕ, zero, suc, ◌+◌, ◌-◌, ◌≤◌, ◌<◌, refl, sym, ◌∙◌, ap, ap₂, subst, List, [], ◌∷◌, ◌⊎◌, inl, inr, map, length, take, drop, get_or, arith}
use Rattle.std.proofs.lemmas.List.{length-take-le}
use Rattle.sg_algebra.specs.Coefficients.{Each}
use Rattle.sg_algebra.proofs.Solver.{ring, by, scale, reads}
use Rattle.sg_algebra.proofs.PolynomialRing.{constant-mul, no_coefficient}
use Rattle.sg_algebra.proofs.Lists.{length_map}
use Rattle.sg_algebra.proofs.Linear.{Span, table, Form, unit, combined}
use Rattle.sg_algebra.proofs.NullSpace.{axis_one, table_at}
use Rattle.sg_algebra.proofs.Rows.{at-take, map_take, drop_at, past_row}
use Rattle.sg_algebra.proofs.Value.{Value, zero_value, inv_value, ◌+ᵛ◌, ◌*ᵛ◌, ◌/ᵛ◌}
use Rattle.sg_algebra.proofs.ValueField.{ValueR, value_quotient, value_product, value_one_ne, value_mul_comm, zero_mul_value}
use Rattle.sg_algebra.proofs.Embedding.{constant_value}
use Rattle.sg_algebra.proofs.Polynomial.{Polynomial, PolynomialR, poly, poly_cong, same_poly, poly-add, poly-mul, coefficient, constant, zero_polynomial, ◌+ᵖ◌, ◌*ᵖ◌}
use Rattle.sg_dispersion_theory.proofs.Listed.{list_of}
use Rattle.sg_first_order_theory.proofs.ValueFractions.{whole, whole-poly, whole-add, whole-mul, whole-zero, whole_same}
use Rattle.sg_first_order_theory.proofs.Weighted.{weighted, weighted_cong}
use Rattle.sg_first_order_theory.proofs.FirstOrder.{left, IsReduced, Whole, whole_ne}
use Rattle.sg_first_order_theory.proofs.Under.{Under, powers, first, first_at, first_same, first-weighted, under_first}
use Rattle.sg_first_order_theory.proofs.System.{rest_of}
use Rattle.sg_first_order_theory.specs.Solutions.{Solves, Pair, pair, sum_consts, sum_values, Combination, IsBasis}

module _ {d : ℕ} where
  abbrev pub IsBound : ℕ → Polynomial d → Polynomial d → List (Polynomial d) → Type 0
  IsBound n a b xs = (c : ℕ → Value d) (y : Polynomial d) → left a b y ≡ weighted c xs → Under n y

  -- ---- Vectors

  abbrev glue : ℕ → (ℕ → Value d) → (ℕ → Value d) → ℕ → Value d
  glue zero c u i = u i
  glue (suc r) c u zero = c 0
  glue (suc r) c u (suc i) = glue r (λ i. c (suc i)) u i

  glue_first : (r : ℕ) (c u : ℕ → Value d) (i : ℕ) → i < r → glue r c u i ≡ c i
  glue_first zero c u i l = absurd (omega arith)
  glue_first (suc r) c u zero l = refl
  glue_first (suc r) c u (suc i) l = glue_first r (λ i. c (suc i)) u i (omega arith)

  glue_rest : (r : ℕ) (c u : ℕ → Value d) (i k : ℕ) → k ≡ r + i → glue r c u k ≡ u i
  glue_rest zero c u i k e = let s : k ≡ i = omega arith in ap u s
  glue_rest (suc r) c u i zero e = absurd (omega arith)
  glue_rest (suc r) c u i (suc k) e = glue_rest r (λ i. c (suc i)) u i k (omega arith)

  glue_end : (r n : ℕ) (c u : ℕ → Value d) → ((i : ℕ) → n ≤ i → u i ≡ zero_value) → (k : ℕ) → r + n ≤ k → glue r c u k ≡ zero_value
  glue_end r n c u h k l = glue_rest r c u (k - r) k (omega arith) ∙ h (k - r) (omega arith)

  abbrev pub total : (ℕ → Value d) → List (List (Value d)) → ℕ → Value d
  total m [] k = zero_value
  total m (b ∷ bs) k = m 0 *ᵛ coefficient b k +ᵛ total (λ l. m (suc l)) bs k

  pub combined_total : (cs : List (Value d)) (bs : List (List (Value d))) (k : ℕ) → combined cs bs k ≡ total (coefficient cs) bs k
  combined_total [] [] k = refl
  combined_total [] (b ∷ bs) k = by (ValueR d) (coefficient b k ∷ total (coefficient []) bs k ∷ []) (combined_total [] bs k) (search reads depth 16) refl
  combined_total (c ∷ cs) [] k = refl
  combined_total (c ∷ cs) (b ∷ bs) k = ap (λ x. c *ᵛ coefficient b k +ᵛ x) (combined_total cs bs k)

  pub total_none : (m : ℕ → Value d) (bs : List (List (Value d))) (k : ℕ) → ((i : ℕ) → i < length bs → coefficient (get_or bs i []) k ≡ zero_value) → total m bs k ≡ zero_value
  total_none m [] k h = refl
  total_none m (b ∷ bs) k h = by (ValueR d) (m 0 ∷ coefficient b k ∷ total (λ l. m (suc l)) bs k ∷ [])
      ((ValueR d).add_cong (scale (ValueR d) (m 0) (h 0 (omega arith))) (total_none (λ l. m (suc l)) bs k (λ i l. h (suc i) (omega arith)))) (search reads depth 16) refl

  pub total_unit : (m : ℕ → Value d) (bs : List (List (Value d))) (k j : ℕ) → j < length bs → ((i : ℕ) → i < length bs → coefficient (get_or bs i []) k ≡ unit i j) → total m bs k ≡ m j
  total_unit m [] k j l h = absurd (omega arith)
  total_unit m (b ∷ bs) k zero l h = by (ValueR d) (m 0 ∷ coefficient b k ∷ total (λ l. m (suc l)) bs k ∷ [])
      ((ValueR d).add_cong (scale (ValueR d) (m 0) (h 0 (omega arith))) (total_none (λ l. m (suc l)) bs k (λ i l. h (suc i) (omega arith)))) (search reads depth 16) refl
  total_unit m (b ∷ bs) k (suc j) l h = by (ValueR d) (m 0 ∷ m (suc j) ∷ coefficient b k ∷ total (λ l. m (suc l)) bs k ∷ [])
      ((ValueR d).add_cong (scale (ValueR d) (m 0) (h 0 (omega arith))) (total_unit (λ l. m (suc l)) bs k j (omega arith) (λ i l. h (suc i) (omega arith)))) (search reads depth 16) refl

  constants : (u w : Value d) → constant (u *ᵛ w) ≡ constant u *ᵖ constant w
  constants u w = poly_cong (constant-mul (ValueR d) u w) ∙ poly-mul (u ∷ []) (w ∷ [])

  sums : (u w : Value d) → constant u +ᵖ constant w ≡ constant (u +ᵛ w)
  sums u w = sym (poly-add (u ∷ []) (w ∷ []))

  nothing : constant {d = d} zero_value ≡ zero_polynomial
  nothing = poly_cong (no_coefficient (ValueR d))

  -- sums of polynomials are linear in the factors
  weighted-more : (m : Value d) (c e : ℕ → Value d) (xs : List (Polynomial d)) → weighted (λ i. m *ᵛ c i +ᵛ e i) xs ≡ constant m *ᵖ weighted c xs +ᵖ weighted e xs
  weighted-more m c e [] = ring (PolynomialR d) (constant m ∷ []) (search reads depth 16) refl
  weighted-more m c e (x ∷ xs) =
      by (PolynomialR d) (constant (m *ᵛ c 0 +ᵛ e 0) ∷ constant m ∷ constant (c 0) ∷ constant (e 0) ∷ x ∷ weighted (λ i. c (suc i)) xs ∷ weighted (λ i. e (suc i)) xs ∷ weighted (λ i. m *ᵛ c (suc i) +ᵛ e (suc i)) xs ∷ [])
      ((PolynomialR d).add_cong (scale (PolynomialR d) x (constant-more (c 0) (e 0))) (weighted-more m (λ i. c (suc i)) (λ i. e (suc i)) xs)) (search reads depth 20 fits 5000) refl
    where
      constant-more : (u w : Value d) → constant (m *ᵛ u +ᵛ w) ≡ constant m *ᵖ constant u +ᵖ constant w
      constant-more u w = sym (ap (λ z. z +ᵖ constant w) (sym (constants m u)) ∙ sums (m *ᵛ u) w)

  weighted-none : (xs : List (Polynomial d)) → weighted (λ i. zero_value) xs ≡ zero_polynomial
  weighted-none [] = refl
  weighted-none (x ∷ xs) = by (PolynomialR d) (constant zero_value ∷ x ∷ weighted (λ i. zero_value) xs ∷ []) ((PolynomialR d).add_cong (scale (PolynomialR d) x nothing) (weighted-none xs)) (search reads depth 20) refl

-- ---- The basis

module _ {K : Type 0} {d : ℕ} (v : K → Value d) where
  pub record IsSpace (a b : Polynomial d) (xs : List (Polynomial d)) (n : ℕ) (bs : List (List K)) : Type 0 where
    pub sized : (i : ℕ) → i < length bs → length (get_or bs i []) ≡ length xs + n
    pub sound : (i : ℕ) → i < length bs → left a b (rest_of (length xs) n (coefficient (map v (get_or bs i [])))) ≡ weighted (coefficient (map v (get_or bs i []))) xs
    pub form : Form v bs
    pub complete : (w : ℕ → Value d) → ((k : ℕ) → length xs + n ≤ k → w k ≡ zero_value) → left a b (rest_of (length xs) n w) ≡ weighted w xs → Span (table v bs) w

  abbrev pub pair_of : ℕ → Polynomial d → List K → Pair d
  pair_of r q vec = pair (map v (take r vec)) (whole (poly (map v (drop r vec))) /ᵛ whole q)

  each_of : (P : Pair d → Type 0) (g : List K → Pair d) (bs : List (List K)) → ((i : ℕ) → i < length bs → P (g (get_or bs i []))) → Each P (map g bs)
  each_of P g [] h = tt
  each_of P g (b ∷ bs) h = (h 0 (omega arith), each_of P g bs (λ i l. h (suc i) (omega arith)))

  taken_at : (r : ℕ) (vec : List K) (j : ℕ) → j < r → coefficient (map v (take r vec)) j ≡ coefficient (map v vec) j
  taken_at r vec j l = rw (map_take v r vec) (at-take (map v vec) r j l)

  rest_is : (r n : ℕ) (vec : List K) → length vec ≡ r + n → poly (map v (drop r vec)) ≡ rest_of r n (coefficient (map v vec))
  rest_is r n vec e = sym (first_same n (λ i. coefficient (map v vec) (r + i)) (map v (drop r vec)) (λ i l. sym (drop_at v vec r i)) (λ i l. drop_at v vec r i ∙ past_row v vec (r + i) (omega arith)))
      ∙ first-weighted n (λ i. coefficient (map v vec) (r + i))

  module _ (r n : ℕ) (q : Polynomial d) where
    consts_are : (m : ℕ → Value d) (bs : List (List K)) (i : ℕ) → i < r → sum_consts m (map (pair_of r q) bs) i ≡ total m (table v bs) i
    consts_are m [] i l = refl
    consts_are m (b ∷ bs) i l = ap₂ (λ x y. m 0 *ᵛ x +ᵛ y) (taken_at r b i l) (consts_are (λ l. m (suc l)) bs i l)

    values_are : (m : ℕ → Value d) (bs : List (List K)) → ((i : ℕ) → i < length bs → length (get_or bs i []) ≡ r + n) → sum_values m (map (pair_of r q) bs) ≡ whole (rest_of r n (total m (table v bs))) /ᵛ whole q
    values_are m [] h = sym (ap (λ x. x /ᵛ whole q) (ap whole (weighted-none (powers n)) ∙ whole-zero d) ∙ zero_mul_value (inv_value (whole q)))
    values_are m (b ∷ bs) h =
        ap₂ (λ x y. constant_value d (m 0) *ᵛ (whole x /ᵛ whole q) +ᵛ y) (rest_is r n b (h 0 (omega arith))) (values_are (λ l. m (suc l)) bs (λ i l. h (suc i) (omega arith)))
        ∙ joined (constant_value d (m 0)) (whole (rest_of r n (coefficient (map v b)))) (whole (rest_of r n (total (λ l. m (suc l)) (table v bs)))) (inv_value (whole q))
        ∙ ap (λ x. x /ᵛ whole q) (sym (ap whole (weighted-more (m 0) (λ i. coefficient (map v b) (r + i)) (λ i. total (λ l. m (suc l)) (table v bs) (r + i)) (powers n))
        ∙ whole-add (constant (m 0) *ᵖ rest_of r n (coefficient (map v b))) (rest_of r n (total (λ l. m (suc l)) (table v bs)))
        ∙ ap (λ x. x +ᵛ whole (rest_of r n (total (λ l. m (suc l)) (table v bs)))) (whole-mul (constant (m 0)) (rest_of r n (coefficient (map v b))) ∙ ap (λ x. x *ᵛ whole (rest_of r n (coefficient (map v b)))) (whole-poly (m 0 ∷ [])))))
      where
        joined : (c x y i : Value (suc d)) → c *ᵛ (x *ᵛ i) +ᵛ y *ᵛ i ≡ (c *ᵛ x +ᵛ y) *ᵛ i
        joined c x y i = ring (ValueR (suc d)) (c ∷ x ∷ y ∷ i ∷ []) (search reads depth 16) refl

  module _ (a : Value (suc d)) (fs : List (Value (suc d))) (A B q : Polynomial d) (xs : List (Polynomial d)) (n : ℕ) (bs : List (List K))
      (red : IsReduced a fs A B q xs) (bd : IsBound n A B xs) (sp : IsSpace A B xs n bs) (same : length xs ≡ length fs) where
    abbrev r : ℕ
    r = length xs

    solves_at : (i : ℕ) → i < length bs → Solves a fs (coefficient (map v (take r (get_or bs i [])))) (whole (poly (map v (drop r (get_or bs i [])))) /ᵛ whole q)
    solves_at i l = red.sound (coefficient (map v (take r (get_or bs i [])))) (poly (map v (drop r (get_or bs i []))))
        (ap (left A B) (rest_is r n (get_or bs i []) (sp.sized i l)) ∙ sp.sound i l
        ∙ weighted_cong (coefficient (map v (get_or bs i []))) (coefficient (map v (take r (get_or bs i [])))) xs (λ j k. sym (taken_at r (get_or bs i []) j k)))

    spans_all : (c : ℕ → Value d) (g : Value (suc d)) → Solves a fs c g → Combination (map (pair_of r q) bs) (length fs) c g
    spans_all c g h = go (red.complete c g h)
      where
        go : Whole q A B xs c g → Combination (map (pair_of r q) bs) (length fs) c g
        go k = made (sp.complete w (λ i l. glue_end r n c u under.none_from i l) (ap (left A B) rest_w ∙ k.solves ∙ weighted_cong c w xs (λ i l. sym (glue_first r c u i l))))
          where
            under : Under n k.y
            under = bd c k.y k.solves

            u : ℕ → Value d
            u = coefficient (list_of k.y)

            w : ℕ → Value d
            w = glue r c u

            rest_w : rest_of r n w ≡ k.y
            rest_w = weighted_cong (λ i. w (r + i)) u (powers n) (λ i l. glue_rest r c u i (r + i) refl) ∙ sym (under_first n k.y under)

            made : Span (table v bs) w → Combination (map (pair_of r q) bs) (length fs) c g
            made s = record {
              factors = coefficient s.coeffs;
              consts = λ i l. sym (glue_first r c u i (omega (arith, same))) ∙ w_is i ∙ sym (consts_are r n q (coefficient s.coeffs) bs i (omega (arith, same)));
              value = value_quotient (whole k.y) (whole q) g (whole_ne d q red.some) (value_mul_comm (suc d) g (whole q) ∙ k.is)
                  ∙ ap (λ z. whole z /ᵛ whole q) (sym rest_w ∙ weighted_cong (λ i. w (r + i)) (λ i. total (coefficient s.coeffs) (table v bs) (r + i)) (powers n) (λ i l. w_is (r + i)))
                  ∙ sym (values_are r n q (coefficient s.coeffs) bs sp.sized);
            }
              where
                w_is : (i : ℕ) → w i ≡ total (coefficient s.coeffs) (table v bs) i
                w_is i = s.is i ∙ combined_total s.coeffs (table v bs) i

    apart : (m : ℕ → Value d) → ((i : ℕ) → i < length fs → sum_consts m (map (pair_of r q) bs) i ≡ zero_value) → sum_values m (map (pair_of r q) bs) ≡ zero_value → (l : ℕ) → l < length bs → m l ≡ zero_value
    apart m hc hv l h = sym (total_unit m (table v bs) (sp.form.own l) l (rw (length_map (map v) bs) h) (λ i k. rw (table_at v bs i) (sp.form.one i l (rw (length_map (map v) bs) at k) h)))
        ∙ all (sp.form.own l) (below (side (sp.form.own l) (r + n)))
      where
        t : ℕ → Value d
        t = total m (table v bs)

        side : (k s : ℕ) → (k < s) ⊎ (s ≤ k)
        side k s = grind arith

        quotient_zero : whole (rest_of r n t) /ᵛ whole q ≡ zero_value
        quotient_zero = sym (values_are r n q m bs sp.sized) ∙ hv

        rest_zero : rest_of r n t ≡ zero_polynomial
        rest_zero = whole_same (rest_of r n t) zero_polynomial (sym (value_product (whole (rest_of r n t)) (whole q) (whole_ne d q red.some)) ∙ ap (λ x. x *ᵛ whole q) quotient_zero ∙ zero_mul_value (whole q) ∙ sym (whole-zero d))

        late : (i : ℕ) → i < n → t (r + i) ≡ zero_value
        late i k = sym (first_at n (λ i. t (r + i)) i k) ∙ same_poly (first n (λ i. t (r + i))) [] (first-weighted n (λ i. t (r + i)) ∙ rest_zero) i

        early : (k : ℕ) → k < r → t k ≡ zero_value
        early k j = sym (consts_are r n q m bs k j) ∙ hc k (omega (arith, same))

        all : (k : ℕ) → k < r + n → t k ≡ zero_value
        all k j = elim (side k r) [
          | inl p ↦ early k p
          | inr p ↦ let e : r + (k - r) ≡ k = omega arith in subst (λ (s : ℕ). t s ≡ zero_value) e (late (k - r) (omega arith))
        ]

        below : (sp.form.own l < r + n) ⊎ (r + n ≤ sp.form.own l) → sp.form.own l < r + n
        below (inl p) = p
        below (inr p) = absurd (value_one_ne d (sym (axis_one l l refl) ∙ sym (sp.form.one l l h h) ∙ past_row v (get_or bs l []) (sp.form.own l) (omega (arith, sp.sized l h))))

    pub is_basis : IsBasis a fs (map (pair_of r q) bs)
    is_basis = record {
      sized = each_of (λ p. length p.consts ≡ length fs) (pair_of r q) bs (λ i l. length_map v (take r (get_or bs i [])) ∙ length-take-le r (get_or bs i []) (omega (arith, sp.sized i l)) ∙ same);
      solves = each_of (λ p. Solves a fs (coefficient p.consts) p.value) (pair_of r q) bs solves_at;
      spans = spans_all;
      independent = λ m hc hv l h. apart m hc hv l (rw (length_map (pair_of r q) bs) at h);
    }
