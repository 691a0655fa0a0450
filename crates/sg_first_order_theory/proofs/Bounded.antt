-- The bound on the degree of polynomial solutions, and rational functions as quotients of polynomials, in the words of clauses.
--   poly-Left              a y(k+1) - b y of lists of coefficients
--   bounded_first, bounded_second    what bounds each solution: the coefficients at m differ, or are equal
--   cleared_value          what a multiple of a denominator times the fraction is
--   over_whole             a quotient of lists of coefficients
use Rattle.std.proofs.Common.{◌≡◌, ℕ, suc, ◌+◌, ◌≤◌, ◌<◌, refl, sym, ◌∙◌, ap, ap₂, List, [], ◌∷◌, map, length, get_or, arith}
use Rattle.sg_algebra.specs.Coefficients.{Each, poly_mul}
use Rattle.sg_algebra.proofs.Solver.{by, scale, reads}
use Rattle.sg_algebra.proofs.Degree.{Below, below_same}
use Rattle.sg_algebra.proofs.Shift.{shiftH}
use Rattle.sg_algebra.proofs.Rows.{at_past}
use Rattle.sg_algebra.proofs.Value.{Value, over_value, zero_value, inv_value, neg_value, ◌*ᵛ◌, ◌/ᵛ◌}
use Rattle.sg_algebra.proofs.ValueField.{ValueR, ValueF, value_mul-inv}
use Rattle.sg_algebra.proofs.Embedding.{over_value-quotient}
use Rattle.sg_algebra.proofs.Polynomial.{Polynomial, ListR, poly, poly_cong, same_list, poly-add, poly-mul, poly-neg, coefficient, zero_polynomial, ◌+ᵖ◌, ◌*ᵖ◌, neg_polynomial}
use Rattle.sg_dispersion_theory.proofs.Listed.{list_of, poly-list_of}
use Rattle.sg_first_order_theory.proofs.Next.{next-poly}
use Rattle.sg_first_order_theory.proofs.Bounds.{Left, indicial, bound_first, bound_second}
use Rattle.sg_first_order_theory.proofs.ValueFractions.{whole, whole-poly, whole-mul, whole-zero}
use Rattle.sg_first_order_theory.proofs.FirstOrder.{left, whole_ne}
use Rattle.sg_first_order_theory.proofs.Under.{Under, under_poly, under_weighted}
use Rattle.sg_first_order_theory.proofs.Weighted.{weighted}
use Rattle.sg_first_order_theory.proofs.Basis.{IsBound}

module _ {d : ℕ} where
  poly-Left : (a b y : List (Value d)) → poly (Left (ValueR d) a b y) ≡ left (poly a) (poly b) (poly y)
  poly-Left a b y =
      poly-add (poly_mul (ValueR d) a ((shiftH (ValueR d)).on y)) (map neg_value (poly_mul (ValueR d) b y))
      ∙ ap₂ ◌+ᵖ◌ (poly-mul a ((shiftH (ValueR d)).on y) ∙ ap (λ z. poly a *ᵖ z) (sym (next-poly y))) (poly-neg (poly_mul (ValueR d) b y) ∙ ap neg_polynomial (poly-mul b y))

  under_all : (c : ℕ) (ps : List (List (Value d))) → ((i : ℕ) → i < length ps → length (get_or ps i []) ≤ c) → Each (Under c) (map poly ps)
  under_all c [] h = tt
  under_all c (p ∷ ps) h = (under_poly c p (record { none_from = λ n l. at_past p n (shorter (length p) n (h 0 (omega arith)) l) }), under_all c ps (λ i l. h (suc i) (omega arith)))
    where
      shorter : (s n : ℕ) → s ≤ c → c ≤ n → s ≤ n
      shorter s n p q = omega arith

  module _ (m : ℕ) (a b : List (Value d)) (short_a : length a ≤ suc m) (short_b : length b ≤ suc m) (c u : ℕ) (ps : List (List (Value d))) (short : (i : ℕ) → i < length ps → length (get_or ps i []) ≤ c) where
    end_a : (i : ℕ) → m < i → coefficient a i ≡ zero_value
    end_a i l = at_past a i (omega arith)

    end_b : (i : ℕ) → m < i → coefficient b i ≡ zero_value
    end_b i l = at_past b i (omega arith)

    right : (e : ℕ → Value d) (y : Polynomial d) → left (poly a) (poly b) y ≡ weighted e (map poly ps) → Below (ValueR d) c (Left (ValueR d) a b (list_of y))
    right e y h = below_same (ValueR d) c (list_of (weighted e (map poly ps))) (Left (ValueR d) a b (list_of y))
        (same_list (list_of (weighted e (map poly ps))) (Left (ValueR d) a b (list_of y)) (poly-list_of (weighted e (map poly ps)) ∙ sym h ∙ ap (left (poly a) (poly b)) (sym (poly-list_of y)) ∙ sym (poly-Left a b (list_of y))))
        (under_weighted c e (map poly ps) (under_all c ps short))

    pub bounded_first : ¬ (coefficient a m ≡ coefficient b m) → c ≤ m + u → IsBound u (poly a) (poly b) (map poly ps)
    bounded_first ne l e y h = bound_first (ValueF d) m a b end_a end_b c u (list_of y) (right e y h)
        (λ z. ne (by (ValueR d) (coefficient a m ∷ coefficient b m ∷ []) z (search reads depth 12) refl)) l

    pub bounded_second : coefficient a m ≡ coefficient b m → suc c ≤ m + u → ((n : ℕ) → indicial (ValueR d) m a b n ≡ zero_value → n < u) → IsBound u (poly a) (poly b) (map poly ps)
    bounded_second same l roots e y h = bound_second (ValueF d) m a b end_a end_b c u (list_of y) (right e y h) same l roots

  -- ---- Quotients

  module _ (p q : List (Value d)) (some : ¬ (poly q ≡ zero_polynomial)) where
    list_some : ¬ ((ListR d).◌≈◌ q [])
    list_some z = some (poly_cong z)

    pub over_whole : over_value p q ≡ whole (poly p) /ᵛ whole (poly q)
    over_whole = over_value-quotient d p q list_some ∙ ap₂ (λ x y. x /ᵛ y) (sym (whole-poly p)) (sym (whole-poly q))

    pub cleared_value : (c v : Polynomial d) → c *ᵖ poly q ≡ v *ᵖ poly p → whole v *ᵛ over_value p q ≡ whole c
    cleared_value c v h = ap (λ x. whole v *ᵛ x) over_whole
        ∙ by (ValueR (suc d)) (whole v ∷ whole (poly p) ∷ whole (poly q) ∷ inv_value (whole (poly q)) ∷ whole c ∷ [])
        ((ValueR (suc d)).add_cong (scale (ValueR (suc d)) (neg_value (inv_value (whole (poly q)))) (sym (whole-mul c (poly q)) ∙ ap whole h ∙ whole-mul v (poly p)))
        (scale (ValueR (suc d)) (whole c) (value_mul-inv (suc d) (whole (poly q)) (whole_ne d (poly q) some)))) (search reads depth 20 fits 4000) refl

    pub cleared_some : (c v : Polynomial d) → c *ᵖ poly q ≡ v *ᵖ poly p → ¬ (v ≡ zero_polynomial) → ¬ (over_value p q ≡ zero_value) → ¬ (c ≡ zero_polynomial)
    cleared_some c v h n k z = k (zero_factor (whole_ne d v n) (cleared_value c v h ∙ ap whole z ∙ whole-zero d))
      where
        zero_factor : {x y : Value (suc d)} → ¬ (x ≡ zero_value) → x *ᵛ y ≡ zero_value → y ≡ zero_value
        zero_factor {x} {y} n e = by (ValueR (suc d)) (x ∷ y ∷ inv_value x ∷ [])
            ((ValueR (suc d)).add_cong (scale (ValueR (suc d)) (inv_value x) e) (scale (ValueR (suc d)) (neg_value y) (value_mul-inv (suc d) x n))) (search reads depth 20 fits 4000) refl
