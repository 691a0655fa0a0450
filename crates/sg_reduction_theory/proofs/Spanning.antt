-- From a basis of the constants at which all numerators vanish to a basis of the solutions.
--   IsNull r ss bs        bs is a basis, in reduced form, of the vectors of r constants at which the numerators of ss vanish
--   Known a ps moved q    the pair q is a polynomial that solves for ps with the constants of q, and the combination of moved added
--   Match bs qs           the pairs qs have the constants bs
--   is_basis_other        where a isn't 1, such pairs are a basis of the solutions
--   is_basis_one          where a is 1, they are with the pair of zeros and 1 before them
use Rattle.std.proofs.Common.{◌≡◌, ℕ, suc, ◌<◌, refl, sym, ◌∙◌, ap, ap₂, subst, List, [], ◌∷◌, length}
use Rattle.sg_algebra.specs.Coefficients.{Each}
use Rattle.sg_algebra.proofs.Solver.{ring, by, scale, reads}
use Rattle.sg_algebra.proofs.PolynomialRing.{constant-mul, no_coefficient}
use Rattle.sg_algebra.proofs.Value.{Value, zero_value, inv_value, ◌+ᵛ◌, ◌-ᵛ◌, ◌*ᵛ◌, ◌/ᵛ◌}
use Rattle.sg_algebra.proofs.ValueField.{ValueR}
use Rattle.sg_algebra.proofs.Embedding.{constant_value}
use Rattle.sg_algebra.proofs.Polynomial.{Polynomial, PolynomialR, poly_cong, poly-add, poly-mul, coefficient, constant, zero_polynomial, ◌+ᵖ◌, ◌-ᵖ◌, ◌*ᵖ◌, neg_polynomial}
use Rattle.sg_first_order_theory.proofs.Next.{next, next-add, next-mul, next-zero, next-constant, nextH}
use Rattle.sg_first_order_theory.proofs.ValueFractions.{whole, wholeH, whole-add, whole-mul, whole-zero}
use Rattle.sg_first_order_theory.proofs.Weighted.{weighted, weighted_cong}
use Rattle.sg_first_order_theory.specs.Solutions.{Pair, sum_consts, sum_values}
use Rattle.sg_reduction_theory.proofs.Moves.{Share, sum_at, whole-constant}
use Rattle.sg_reduction_theory.proofs.Answer.{None}

module _ {d : ℕ} where
  -- ---- Sums are linear in the constants

  abbrev mix : Value d → (ℕ → Value d) → (ℕ → Value d) → ℕ → Value d
  mix m c e i = m *ᵛ c i +ᵛ e i

  constant-more : (m u w : Value d) → constant (m *ᵛ u +ᵛ w) ≡ constant m *ᵖ constant u +ᵖ constant w
  constant-more m u w = poly-add ((m *ᵛ u) ∷ []) (w ∷ []) ∙ ap (λ z. z +ᵖ constant w) (poly_cong (constant-mul (ValueR d) m u) ∙ poly-mul (m ∷ []) (u ∷ []))

  pub constant-zero : constant {d = d} zero_value ≡ zero_polynomial
  constant-zero = poly_cong (no_coefficient (ValueR d))

  pub weighted-mix : (m : Value d) (c e : ℕ → Value d) (xs : List (Polynomial d)) → weighted (mix m c e) xs ≡ constant m *ᵖ weighted c xs +ᵖ weighted e xs
  weighted-mix m c e [] = ring (PolynomialR d) (constant m ∷ []) (search reads depth 16) refl
  weighted-mix m c e (x ∷ xs) =
      by (PolynomialR d) (constant (m *ᵛ c 0 +ᵛ e 0) ∷ constant m ∷ constant (c 0) ∷ constant (e 0) ∷ x ∷ weighted (λ i. c (suc i)) xs ∷ weighted (λ i. e (suc i)) xs ∷ weighted (mix m (λ i. c (suc i)) (λ i. e (suc i))) xs ∷ [])
      ((PolynomialR d).add_cong (scale (PolynomialR d) x (constant-more m (c 0) (e 0))) (weighted-mix m (λ i. c (suc i)) (λ i. e (suc i)) xs)) (search reads depth 20 fits 5000) refl

  pub weighted-none : (xs : List (Polynomial d)) → weighted (λ i. zero_value) xs ≡ zero_polynomial
  weighted-none [] = refl
  weighted-none (x ∷ xs) = by (PolynomialR d) (constant zero_value ∷ x ∷ weighted (λ i. zero_value) xs ∷ []) ((PolynomialR d).add_cong (scale (PolynomialR d) x constant-zero) (weighted-none xs)) (search reads depth 20) refl

  pub sum-mix : (m : Value d) (c e : ℕ → Value d) (ss : List (Share d)) → sum_at (mix m c e) ss ≡ constant_value d m *ᵛ sum_at c ss +ᵛ sum_at e ss
  sum-mix m c e [] = ring (ValueR (suc d)) (constant_value d m ∷ []) (search reads depth 16) refl
  sum-mix m c e (s ∷ ss) = by (ValueR (suc d)) (constant_value d m ∷ inv_value (whole s.lower) ∷ whole (weighted c s.uppers) ∷ whole (weighted e s.uppers) ∷ whole (weighted (mix m c e) s.uppers) ∷ sum_at c ss ∷ sum_at e ss ∷ sum_at (mix m c e) ss ∷ [])
      ((ValueR (suc d)).add_cong (scale (ValueR (suc d)) (inv_value (whole s.lower)) (ap whole (weighted-mix m c e s.uppers) ∙ whole-add (constant m *ᵖ weighted c s.uppers) (weighted e s.uppers)
      ∙ ap (λ z. z +ᵛ whole (weighted e s.uppers)) (whole-mul (constant m) (weighted c s.uppers) ∙ ap (λ z. z *ᵛ whole (weighted c s.uppers)) (whole-constant m)))) (sum-mix m c e ss)) (search reads depth 20 fits 5000) refl

  pub sum-none : (ss : List (Share d)) → sum_at (λ i. zero_value) ss ≡ zero_value
  sum-none [] = refl
  sum-none (s ∷ ss) = by (ValueR (suc d)) (inv_value (whole s.lower) ∷ whole (weighted (λ i. zero_value) s.uppers) ∷ sum_at (λ i. zero_value) ss ∷ [])
      ((ValueR (suc d)).add_cong (scale (ValueR (suc d)) (inv_value (whole s.lower)) (ap whole (weighted-none s.uppers) ∙ whole-zero d)) (sum-none ss)) (search reads depth 20) refl

  abbrev pub Sized : ℕ → List (Share d) → Type 0
  Sized r ss = Each (λ s. length s.uppers ≡ r) ss

  pub sum_cong : (r : ℕ) (c e : ℕ → Value d) (ss : List (Share d)) → Sized r ss → ((i : ℕ) → i < r → c i ≡ e i) → sum_at c ss ≡ sum_at e ss
  sum_cong r c e [] z h = refl
  sum_cong r c e (s ∷ ss) z h = ap₂ (λ x y. whole x /ᵛ whole s.lower +ᵛ y) (weighted_cong c e s.uppers (λ i l. h i (subst (λ (n : ℕ). i < n) z.0 l))) (sum_cong r c e ss z.1 h)

  pub none_cong : (r : ℕ) (c e : ℕ → Value d) (ss : List (Share d)) → Sized r ss → ((i : ℕ) → i < r → c i ≡ e i) → None c ss → None e ss
  none_cong r c e [] z h k = tt
  none_cong r c e (s ∷ ss) z h k = (sym (weighted_cong c e s.uppers (λ i l. h i (subst (λ (n : ℕ). i < n) z.0 l))) ∙ k.0, none_cong r c e ss z.1 h k.1)

  -- ---- Pairs

  pub record Known (a : Value d) (ps : List (Polynomial d)) (moved : List (Share d)) (c : ℕ → Value d) (g : Value (suc d)) : Type 0 where
    pub y : Polynomial d
    pub is : g ≡ whole y +ᵛ sum_at c moved
    pub solves : constant a *ᵖ next y -ᵖ y ≡ weighted c ps

  known-mix : (a : Value d) (ps : List (Polynomial d)) (moved : List (Share d)) (m : Value d) (c e : ℕ → Value d) (g h : Value (suc d)) → Known a ps moved c g → Known a ps moved e h → Known a ps moved (mix m c e) (constant_value d m *ᵛ g +ᵛ h)
  known-mix a ps moved m c e g h j k = record {
    y = y;
    is = by (ValueR (suc d)) (constant_value d m ∷ g ∷ h ∷ whole j.y ∷ whole k.y ∷ whole y ∷ sum_at c moved ∷ sum_at e moved ∷ sum_at (mix m c e) moved ∷ [])
        ((ValueR (suc d)).add_cong (scale (ValueR (suc d)) (constant_value d m) j.is) ((ValueR (suc d)).add_cong k.is ((ValueR (suc d)).add_cong ((ValueR (suc d)).symm whole_y) ((ValueR (suc d)).symm (sum-mix m c e moved))))) (search reads depth 20 fits 6000) refl;
    solves = by (PolynomialR d) (constant a ∷ constant m ∷ j.y ∷ k.y ∷ next j.y ∷ next k.y ∷ next y ∷ weighted c ps ∷ weighted e ps ∷ weighted (mix m c e) ps ∷ [])
        ((PolynomialR d).add_cong (scale (PolynomialR d) (constant m) j.solves) ((PolynomialR d).add_cong k.solves ((PolynomialR d).add_cong (scale (PolynomialR d) (constant a) next_y) ((PolynomialR d).symm (weighted-mix m c e ps))))) (search reads depth 20 fits 6000) refl;
  }
    where
      y : Polynomial d
      y = constant m *ᵖ j.y +ᵖ k.y

      whole_y : whole y ≡ constant_value d m *ᵛ whole j.y +ᵛ whole k.y
      whole_y = whole-add (constant m *ᵖ j.y) k.y ∙ ap (λ z. z +ᵛ whole k.y) (whole-mul (constant m) j.y ∙ ap (λ z. z *ᵛ whole j.y) (whole-constant m))

      next_y : next y ≡ constant m *ᵖ next j.y +ᵖ next k.y
      next_y = next-add (constant m *ᵖ j.y) k.y ∙ ap (λ z. z +ᵖ next k.y) (next-mul (constant m) j.y ∙ ap (λ z. z *ᵖ next j.y) (next-constant m))

  known-zero : (a : Value d) (ps : List (Polynomial d)) (moved : List (Share d)) → Known a ps moved (λ i. zero_value) zero_value
  known-zero a ps moved = record {
    y = zero_polynomial;
    is = by (ValueR (suc d)) (whole zero_polynomial ∷ sum_at (λ i. zero_value) moved ∷ []) ((ValueR (suc d)).symm ((ValueR (suc d)).add_cong (whole-zero d) (sum-none moved))) (search reads depth 16) refl;
    solves = by (PolynomialR d) (constant a ∷ next zero_polynomial ∷ weighted (λ i. zero_value) ps ∷ []) ((PolynomialR d).add_cong (scale (PolynomialR d) (constant a) next-zero) ((PolynomialR d).symm (weighted-none ps))) (search reads depth 16) refl;
  }

  pub known_sum : (a : Value d) (ps : List (Polynomial d)) (moved : List (Share d)) (m : ℕ → Value d) (qs : List (Pair d)) → Each (λ q. Known a ps moved (coefficient q.consts) q.value) qs → Known a ps moved (sum_consts m qs) (sum_values m qs)
  known_sum a ps moved m [] h = known-zero a ps moved
  known_sum a ps moved m (q ∷ qs) h = known-mix a ps moved (m 0) (coefficient q.consts) (sum_consts (λ l. m (suc l)) qs) q.value (sum_values (λ l. m (suc l)) qs) h.0 (known_sum a ps moved (λ l. m (suc l)) qs h.1)

  pub known_cong : (a : Value d) (ps : List (Polynomial d)) (moved : List (Share d)) (c e : ℕ → Value d) (g : Value (suc d)) → Sized (length ps) moved → ((i : ℕ) → i < length ps → c i ≡ e i) → Known a ps moved c g → Known a ps moved e g
  known_cong a ps moved c e g z h k = record { y = k.y; is = k.is ∙ ap (λ x. whole k.y +ᵛ x) (sum_cong (length ps) c e moved z h); solves = k.solves ∙ weighted_cong c e ps h }

  -- two solutions with the same constants differ by a polynomial y with a y(k+1) - y = 0
  pub record Apart (a : Value d) (g h : Value (suc d)) : Type 0 where
    pub y : Polynomial d
    pub is : g ≡ h +ᵛ whole y
    pub none : constant a *ᵖ next y -ᵖ y ≡ zero_polynomial

  pub known_apart : (a : Value d) (ps : List (Polynomial d)) (moved : List (Share d)) (c : ℕ → Value d) (g h : Value (suc d)) → Known a ps moved c g → Known a ps moved c h → Apart a g h
  known_apart a ps moved c g h j k = record {
    y = y;
    is = by (ValueR (suc d)) (g ∷ h ∷ whole j.y ∷ whole k.y ∷ whole y ∷ sum_at c moved ∷ []) ((ValueR (suc d)).add_cong j.is ((ValueR (suc d)).add_cong ((ValueR (suc d)).symm k.is) whole_y)) (search reads depth 20 fits 5000) refl;
    none = by (PolynomialR d) (constant a ∷ j.y ∷ k.y ∷ next j.y ∷ next k.y ∷ next y ∷ weighted c ps ∷ [])
        ((PolynomialR d).add_cong j.solves ((PolynomialR d).add_cong ((PolynomialR d).symm k.solves) (scale (PolynomialR d) (constant a) next_y))) (search reads depth 20 fits 5000) refl;
  }
    where
      y : Polynomial d
      y = j.y -ᵖ k.y

      whole_y : whole j.y -ᵛ whole k.y ≡ whole y
      whole_y = sym (whole-add j.y (neg_polynomial k.y) ∙ ap (λ z. whole j.y +ᵛ z) (Rattle.sg_algebra.proofs.Divides.on-neg (PolynomialR d) (ValueR (suc d)) (wholeH d) k.y))

      next_y : next y ≡ next j.y -ᵖ next k.y
      next_y = next-add j.y (neg_polynomial k.y) ∙ ap (λ z. next j.y +ᵖ z) (Rattle.sg_algebra.proofs.Divides.on-neg (PolynomialR d) (PolynomialR d) (nextH d) k.y)
