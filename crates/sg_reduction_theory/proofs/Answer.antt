-- The solutions of a g(k+1) - g(k) = p + sum of fractions, for a constant a that isn't 0, where no images of the denominators have common divisors: each numerator is 0, and g is a polynomial.
--   pieces c ss           the combinations with the constants c of the numerators, over the denominators
--   bottoms ss            the denominators
--   Small s               each combination of the numerators that the denominator divides is 0
--   settled_solution      what a solution is
--   Answers               the solutions of the equation that was reduced
use Rattle.std.proofs.Common.{◌≡◌, ℕ, suc, refl, sym, ◌∙◌, ap, ap₂, subst, List, [], ◌∷◌}
use Rattle.sg_algebra.specs.Coefficients.{Each}
use Rattle.sg_algebra.proofs.Ring.{eq_of_sub}
use Rattle.sg_algebra.proofs.Solver.{ring, by, scale, reads}
use Rattle.sg_algebra.proofs.Divides.{Divides, iter, on-neg}
use Rattle.sg_algebra.proofs.Coprime.{Coprime}
use Rattle.sg_algebra.proofs.Value.{Value, zero_value, inv_value, neg_value, ◌+ᵛ◌, ◌-ᵛ◌, ◌*ᵛ◌, ◌/ᵛ◌}
use Rattle.sg_algebra.proofs.ValueField.{ValueR, ValueF, value_product, value_mul-inv}
use Rattle.sg_algebra.proofs.Embedding.{constant_value}
use Rattle.sg_algebra.proofs.Polynomial.{Polynomial, PolynomialR, PolynomialD, constant, poly_cong, poly-mul, zero_polynomial, one_polynomial, ◌+ᵖ◌, ◌-ᵖ◌, ◌*ᵖ◌, neg_polynomial}
use Rattle.sg_algebra.proofs.PolynomialRing.{constant-mul}
use Rattle.sg_first_order_theory.proofs.Next.{next, nextH, unit_denominator}
use Rattle.sg_algebra.proofs.ShiftValue.{shift_value}
use Rattle.sg_first_order_theory.proofs.ValueFractions.{whole, wholeH, whole-add, whole-mul, whole-next, whole-zero, value_fractions, numerator, denominator, denominator_ne}
use Rattle.sg_first_order_theory.proofs.Fractions.{solution_sides, whole_part, solves_below, solves_cong, Solves as SolvesIn}
use Rattle.sg_first_order_theory.proofs.Weighted.{weighted}
use Rattle.sg_first_order_theory.specs.Solutions.{Solves}
use Rattle.sg_first_order_theory.proofs.FirstOrder.{whole_ne}
use Rattle.sg_reduction_theory.proofs.Apart.{coprime_mul_left}
use Rattle.sg_reduction_theory.proofs.Pieces.{Piece, product, below, lowers, joined, Separate, Proper, product_some, vanish, joined_none, Settled, product_free, settled_separate}
use Rattle.sg_reduction_theory.proofs.Moves.{Share, sum_at, difference, Reduced, solution_to, solution_from, whole-constant}

module _ {d : ℕ} where
  abbrev pub pieces : (ℕ → Value d) → List (Share d) → List (Piece (PolynomialR d))
  pieces c [] = []
  pieces c (s ∷ ss) = record { upper = weighted c s.uppers; lower = s.lower } ∷ pieces c ss

  abbrev pub bottoms : List (Share d) → List (Polynomial d)
  bottoms [] = []
  bottoms (s ∷ ss) = s.lower ∷ bottoms ss

  abbrev pub Small : Share d → Type 0
  Small s = (c : ℕ → Value d) → Divides (PolynomialR d) s.lower (weighted c s.uppers) → weighted c s.uppers ≡ zero_polynomial

  abbrev pub None : (ℕ → Value d) → List (Share d) → Type 0
  None c ss = Each (λ s. weighted c s.uppers ≡ zero_polynomial) ss

  below-pieces : (c : ℕ → Value d) (ss : List (Share d)) → below (PolynomialR d) (pieces c ss) ≡ bottoms ss
  below-pieces c [] = refl
  below-pieces c (s ∷ ss) = ap (λ ws. s.lower ∷ ws) (below-pieces c ss)

  proper : (c : ℕ → Value d) (ss : List (Share d)) → Each Small ss → Each (Proper (PolynomialR d)) (pieces c ss)
  proper c [] h = tt
  proper c (s ∷ ss) h = (h.0 c, proper c ss h.1)

  none_to : (c : ℕ → Value d) (ss : List (Share d)) → Each (λ p. p.upper ≡ zero_polynomial) (pieces c ss) → None c ss
  none_to c [] h = tt
  none_to c (s ∷ ss) h = (h.0, none_to c ss h.1)

  none_of : (c : ℕ → Value d) (ss : List (Share d)) → None c ss → sum_at c ss ≡ zero_value
  none_of c [] h = refl
  none_of c (s ∷ ss) h = by (ValueR (suc d)) (whole (weighted c s.uppers) ∷ inv_value (whole s.lower) ∷ sum_at c ss ∷ [])
      ((ValueR (suc d)).add_cong (scale (ValueR (suc d)) (inv_value (whole s.lower)) (ap whole h.0 ∙ whole-zero d)) (none_of c ss h.1)) (search reads depth 16) refl

  over_product : (n w V J S : Value (suc d)) → ¬ (w ≡ zero_value) → V *ᵛ S ≡ J → w *ᵛ V *ᵛ (n /ᵛ w +ᵛ S) ≡ n *ᵛ V +ᵛ w *ᵛ J
  over_product n w V J S h k = by (ValueR (suc d)) (n ∷ w ∷ V ∷ J ∷ S ∷ (n /ᵛ w) ∷ []) ((ValueR (suc d)).add_cong (scale (ValueR (suc d)) V (value_product n w h)) (scale (ValueR (suc d)) w k)) (search reads depth 20 fits 4000) refl

  pub sum-joined : (c : ℕ → Value d) (ss : List (Share d)) → Each (λ w. ¬ (w ≡ zero_polynomial)) (bottoms ss)
      → whole (lowers (PolynomialR d) (pieces c ss)) *ᵛ sum_at c ss ≡ whole (joined (PolynomialR d) (pieces c ss))
  sum-joined c [] h = (ring (ValueR (suc d)) (whole one_polynomial ∷ []) (search reads depth 12) refl) ∙ sym (whole-zero d)
  sum-joined c (s ∷ ss) h = ap (λ z. z *ᵛ sum_at c (s ∷ ss)) (whole-mul s.lower V)
      ∙ over_product (whole (weighted c s.uppers)) (whole s.lower) (whole V) (whole J) (sum_at c ss) (whole_ne d s.lower h.0) (sum-joined c ss h.1)
      ∙ sym (whole-add (weighted c s.uppers *ᵖ V) (s.lower *ᵖ J) ∙ ap₂ ◌+ᵛ◌ (whole-mul (weighted c s.uppers) V) (whole-mul s.lower J))
    where
      V : Polynomial d
      V = lowers (PolynomialR d) (pieces c ss)

      J : Polynomial d
      J = joined (PolynomialR d) (pieces c ss)

  constant_unit : (a : Value d) → ¬ (a ≡ zero_value) → (x : Polynomial d) → Coprime (PolynomialR d) (constant a) x
  constant_unit a h x = record {
    u = constant (inv_value a);
    w = zero_polynomial;
    comb = by (PolynomialR d) (constant (inv_value a) ∷ constant a ∷ x ∷ []) unit (search reads depth 16) refl;
  }
    where
      unit : constant (inv_value a) *ᵖ constant a ≡ one_polynomial
      unit = sym (poly-mul (inv_value a ∷ []) (a ∷ [])) ∙ poly_cong ((Rattle.sg_algebra.proofs.Polynomial.ListR d).symm (constant-mul (ValueR d) (inv_value a) a)) ∙ ap constant ((ValueR d).trans (ValueR d).mul_comm (value_mul-inv d a h))

  -- what is left of a solution
  pub record Left (a : Value d) (p : Polynomial d) (ss : List (Share d)) (c : ℕ → Value d) (g : Value (suc d)) : Type 0 where
    pub none : None c ss
    pub y : Polynomial d
    pub is : g ≡ whole y
    pub solves : constant a *ᵖ next y -ᵖ y ≡ p

  multiplied : (a V n g w p S J : Value (suc d)) → a *ᵛ n -ᵛ g ≡ p +ᵛ S → V *ᵛ S ≡ J → w ≡ a *ᵛ V → w *ᵛ n +ᵛ neg_value (V *ᵛ g) ≡ V *ᵛ p +ᵛ J
  multiplied a V n g w p S J h k e = by (ValueR (suc d)) (a ∷ V ∷ n ∷ g ∷ w ∷ p ∷ S ∷ J ∷ []) ((ValueR (suc d)).add_cong (scale (ValueR (suc d)) V h) ((ValueR (suc d)).add_cong k (scale (ValueR (suc d)) n e))) (search reads depth 20 fits 5000) refl

  module _ (a : Value d) (a_ne : ¬ (a ≡ zero_value)) (ss : List (Share d)) (some : Each (λ w. ¬ (w ≡ zero_polynomial)) (bottoms ss)) (settled : Settled (PolynomialR d) (nextH d) (bottoms ss)) (small : Each Small ss) where
    pub settled_solution : (c : ℕ → Value d) (p : Polynomial d) (g : Value (suc d)) → difference a g ≡ whole p +ᵛ sum_at c ss → Left a p ss c g
    settled_solution c p g h = made (unit_denominator A V (denominator d g) (denominator_ne d g) (solution_sides (PolynomialD d) (nextH d) (ValueF (suc d)) (value_fractions d) A V C g low) far)
      where
        ps : List (Piece (PolynomialR d))
        ps = pieces c ss

        V : Polynomial d
        V = lowers (PolynomialR d) ps

        J : Polynomial d
        J = joined (PolynomialR d) ps

        A : Polynomial d
        A = constant a *ᵖ V

        C : Polynomial d
        C = V *ᵖ p +ᵖ J

        low : SolvesIn (PolynomialD d) (nextH d) (ValueF (suc d)) (value_fractions d) A V (whole C) g
        low = multiplied (constant_value d a) (whole V) (shift_value d g) g (whole A) (whole p) (sum_at c ss) (whole J) h (sum-joined c ss some) (whole-mul (constant a) V ∙ ap (λ z. z *ᵛ whole V) (whole-constant a))
            ∙ sym (whole-add (V *ᵖ p) J ∙ ap (λ z. z +ᵛ whole J) (whole-mul V p))

        V_is : V ≡ product (PolynomialR d) (bottoms ss)
        V_is = ap (product (PolynomialR d)) (below-pieces c ss)

        far : (m : ℕ) → Coprime (PolynomialR d) A (iter (PolynomialR d) (nextH d) (suc m) V)
        far m = rw V_is (coprime_mul_left (PolynomialR d) (nextH d) (constant a) (product (PolynomialR d) (bottoms ss)) (iter (PolynomialR d) (nextH d) (suc m) (product (PolynomialR d) (bottoms ss)))
            (constant_unit a a_ne (iter (PolynomialR d) (nextH d) (suc m) (product (PolynomialR d) (bottoms ss)))) (product_free (PolynomialR d) (nextH d) (bottoms ss) settled m))

        made : Divides (PolynomialR d) (denominator d g) one_polynomial → Left a p ss c g
        made u = record { none = nothing; y = y; is = is; solves = eq_of_sub (PolynomialR d) left_none }
          where
            y : Polynomial d
            y = numerator d g *ᵖ u.cofactor

            is : g ≡ whole y
            is = whole_part (PolynomialD d) (nextH d) (ValueF (suc d)) (value_fractions d) g u

            z : Polynomial d
            z = constant a *ᵖ next y -ᵖ y -ᵖ p

            equation : A *ᵖ next y +ᵖ neg_polynomial (V *ᵖ y) ≡ C
            equation = solves_below (PolynomialD d) (nextH d) (ValueF (suc d)) (value_fractions d) A V C y
                (solves_cong (PolynomialD d) (nextH d) (ValueF (suc d)) (value_fractions d) A V (whole C) (whole C) g (whole y) refl is low)

            divided : V *ᵖ z ≡ J
            divided = by (PolynomialR d) (constant a ∷ V ∷ J ∷ p ∷ y ∷ next y ∷ []) equation (search reads depth 20 fits 4000) refl

            some_too : Each (λ w. ¬ (w ≡ zero_polynomial)) (below (PolynomialR d) ps)
            some_too = subst (λ ws. Each (λ w. ¬ (w ≡ zero_polynomial)) ws) (sym (below-pieces c ss)) some

            uppers : Each (λ q. q.upper ≡ zero_polynomial) ps
            uppers = vanish (PolynomialD d) ps some_too (subst (λ ws. Separate (PolynomialR d) ws) (sym (below-pieces c ss)) (settled_separate (PolynomialR d) (nextH d) (bottoms ss) settled)) (proper c ss small) z divided

            nothing : None c ss
            nothing = none_to c ss uppers

            left_none : z ≡ zero_polynomial
            left_none = (PolynomialD d).cancel_mul {c = V} (product_some (PolynomialD d) (below (PolynomialR d) ps) some_too)
                (divided ∙ joined_none (PolynomialR d) ps uppers ∙ ring (PolynomialR d) (V ∷ []) (search reads depth 12) refl)

    -- the solutions of an equation that was reduced so
    pub complete : (fs : List (Value (suc d))) (ps : List (Polynomial d)) (moved : List (Share d)) → Reduced a fs ps ss moved → (c : ℕ → Value d) (g : Value (suc d)) → Solves (constant_value d a) fs c g
        → Left a (weighted c ps) ss c (g -ᵛ sum_at c moved)
    complete fs ps moved r c g h = settled_solution c (weighted c ps) (g -ᵛ sum_at c moved) (solution_to a fs ps ss moved r c g h)

  pub difference-whole : (a : Value d) (y p : Polynomial d) → constant a *ᵖ next y -ᵖ y ≡ p → difference a (whole y) ≡ whole p
  difference-whole a y p h = by (ValueR (suc d)) (constant_value d a ∷ whole y ∷ shift_value d (whole y) ∷ whole (next y) ∷ whole p ∷ [])
      ((ValueR (suc d)).add_cong (scale (ValueR (suc d)) (constant_value d a) (whole-next y)) as_value) (search reads depth 20 fits 4000) refl
    where
      as_value : constant_value d a *ᵛ whole (next y) -ᵛ whole y ≡ whole p
      as_value = sym (whole-add (constant a *ᵖ next y) (neg_polynomial y) ∙ ap₂ ◌+ᵛ◌ (whole-mul (constant a) (next y) ∙ ap (λ z. z *ᵛ whole (next y)) (whole-constant a)) (on-neg (PolynomialR d) (ValueR (suc d)) (wholeH d) y)) ∙ ap whole h

  pub sound : (a : Value d) (fs : List (Value (suc d))) (ps : List (Polynomial d)) (ss moved : List (Share d)) → Reduced a fs ps ss moved → (c : ℕ → Value d) (y : Polynomial d) → None c ss → constant a *ᵖ next y -ᵖ y ≡ weighted c ps
      → Solves (constant_value d a) fs c (whole y +ᵛ sum_at c moved)
  sound a fs ps ss moved r c y n h = solution_from a fs ps ss moved r c (whole y)
      (difference-whole a y (weighted c ps) h ∙ by (ValueR (suc d)) (whole (weighted c ps) ∷ sum_at c ss ∷ []) ((ValueR (suc d)).symm (none_of c ss n)) (search reads depth 12) refl)
