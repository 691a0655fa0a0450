-- The linear system for the constants and the coefficients of a polynomial y with a y(k+1) - b y = c_0 x_0 + ..
--   rest_of r n w          the polynomial with the coefficients w r, .., w (r + n - 1)
--   columns a b xs n       the polynomials that multiply the unknowns: the opposites of the right sides, then a (k+1)^j - b k^j
--   row_of bs t            the coefficients at t of polynomials
--   null_solves, solves_null    the vector w is sent to 0 by all rows exactly where its constants and its polynomial solve the equation
--   row_past               rows past all coefficients are 0
use Rattle.std.proofs.Common.{◌≡◌, ℕ, suc, ◌+◌, ◌≤◌, refl, sym, ◌∙◌, ap, ap₂, List, [], ◌∷◌, ◌++◌, map, length}
use Rattle.sg_algebra.specs.Coefficients.{Each, zip_longest, poly_mul}
use Rattle.sg_algebra.proofs.Solver.{ring, by, scale, reads}
use Rattle.sg_algebra.proofs.PolynomialRing.{coef-zip, coef-scale}
use Rattle.sg_algebra.proofs.Lists.{length_map}
use Rattle.sg_algebra.proofs.Linear.{row_times}
use Rattle.sg_algebra.proofs.Rows.{at_past}
use Rattle.sg_algebra.proofs.Value.{Value, zero_value, ◌+ᵛ◌}
use Rattle.sg_algebra.proofs.ValueField.{ValueR}
use Rattle.sg_algebra.proofs.Polynomial.{Polynomial, PolynomialR, poly, poly_same, same_poly, poly-add, poly-mul, coefficient, constant, zero_polynomial, neg_polynomial, ◌+ᵖ◌, ◌*ᵖ◌}
use Rattle.sg_first_order_theory.proofs.Next.{next, next-add, next-mul, next-zero, next-constant}
use Rattle.sg_first_order_theory.proofs.Weighted.{weighted, weighted_cong, weighted-append, weighted-map, Linear, behind, behind_at}
use Rattle.sg_first_order_theory.proofs.FirstOrder.{left}
use Rattle.sg_first_order_theory.proofs.Under.{powers}

module _ {d : ℕ} where
  abbrev pub rest_of : ℕ → ℕ → (ℕ → Value d) → Polynomial d
  rest_of r n w = weighted (λ i. w (r + i)) (powers n)

  abbrev pub columns : Polynomial d → Polynomial d → List (Polynomial d) → ℕ → List (Polynomial d)
  columns a b xs n = map neg_polynomial xs ++ map (left a b) (powers n)

  negL : Linear d
  negL = record {
    on = neg_polynomial;
    on-add = λ x y. ring (PolynomialR d) (x ∷ y ∷ []) (search reads depth 16) refl;
    on-scale = λ c x. ring (PolynomialR d) (constant c ∷ x ∷ []) (search reads depth 16) refl;
    on-none = ring (PolynomialR d) [] (search reads depth 16) refl;
  }

  left-add : (a b x y : Polynomial d) → left a b (x +ᵖ y) ≡ left a b x +ᵖ left a b y
  left-add a b x y = by (PolynomialR d) (a ∷ b ∷ x ∷ y ∷ next x ∷ next y ∷ next (x +ᵖ y) ∷ []) (scale (PolynomialR d) a (next-add x y)) (search reads depth 20 fits 5000) refl

  left-scale : (a b : Polynomial d) (c : Value d) (x : Polynomial d) → left a b (constant c *ᵖ x) ≡ constant c *ᵖ left a b x
  left-scale a b c x = by (PolynomialR d) (a ∷ b ∷ constant c ∷ x ∷ next x ∷ next (constant c *ᵖ x) ∷ []) (scale (PolynomialR d) a (next-mul (constant c) x ∙ ap (λ z. z *ᵖ next x) (next-constant c))) (search reads depth 20 fits 5000) refl

  left-none : (a b : Polynomial d) → left a b zero_polynomial ≡ zero_polynomial
  left-none a b = by (PolynomialR d) (a ∷ b ∷ next zero_polynomial ∷ []) (scale (PolynomialR d) a next-zero) (search reads depth 20) refl

  leftL : Polynomial d → Polynomial d → Linear d
  leftL a b = record { on = left a b; on-add = left-add a b; on-scale = left-scale a b; on-none = left-none a b }

  neg-weighted : (c : ℕ → Value d) (xs : List (Polynomial d)) → neg_polynomial (weighted c xs) ≡ weighted c (map neg_polynomial xs)
  unfolding negL
  neg-weighted c xs = weighted-map negL c xs

  left-weighted : (a b : Polynomial d) (c : ℕ → Value d) (xs : List (Polynomial d)) → left a b (weighted c xs) ≡ weighted c (map (left a b) xs)
  unfolding leftL
  left-weighted a b c xs = weighted-map (leftL a b) c xs

  columns-weighted : (a b : Polynomial d) (xs : List (Polynomial d)) (n : ℕ) (w : ℕ → Value d) → weighted w (columns a b xs n) ≡ neg_polynomial (weighted w xs) +ᵖ left a b (rest_of (length xs) n w)
  columns-weighted a b xs n w = weighted-append w (map neg_polynomial xs) (map (left a b) (powers n))
      ∙ ap₂ ◌+ᵖ◌ (sym (neg-weighted w xs)) (rw (length_map neg_polynomial xs)
      (weighted_cong (behind (length xs) w) (λ i. w (length xs + i)) (map (left a b) (powers n)) (λ i l. behind_at (length xs) w i) ∙ sym (left-weighted a b (λ i. w (length xs + i)) (powers n))))

  -- ---- Rows

  abbrev pub row_of : List (List (Value d)) → ℕ → List (Value d)
  row_of bs t = map (λ b. coefficient b t) bs

  abbrev pub mixed : (ℕ → Value d) → List (List (Value d)) → List (Value d)
  mixed w [] = []
  mixed w (b ∷ bs) = zip_longest ◌+ᵛ◌ (poly_mul (ValueR d) (w 0 ∷ []) b) (mixed (λ i. w (suc i)) bs)

  pub poly-mixed : (w : ℕ → Value d) (bs : List (List (Value d))) → poly (mixed w bs) ≡ weighted w (map poly bs)
  poly-mixed w [] = refl
  poly-mixed w (b ∷ bs) = poly-add (poly_mul (ValueR d) (w 0 ∷ []) b) (mixed (λ i. w (suc i)) bs) ∙ ap₂ ◌+ᵖ◌ (poly-mul (w 0 ∷ []) b) (poly-mixed (λ i. w (suc i)) bs)

  pub coefficient-mixed : (w : ℕ → Value d) (bs : List (List (Value d))) (t : ℕ) → coefficient (mixed w bs) t ≡ row_times (row_of bs t) w
  coefficient-mixed w [] t = refl
  coefficient-mixed w (b ∷ bs) t = coef-zip (ValueR d) (poly_mul (ValueR d) (w 0 ∷ []) b) (mixed (λ i. w (suc i)) bs) t
      ∙ ap₂ ◌+ᵛ◌ (coef-scale (ValueR d) (w 0) b t ∙ (ValueR d).mul_comm {x = w 0} {y = coefficient b t}) (coefficient-mixed (λ i. w (suc i)) bs t)

  module _ (a b : Polynomial d) (xs : List (Polynomial d)) (n : ℕ) (bs : List (List (Value d))) (are : map poly bs ≡ columns a b xs n) (w : ℕ → Value d) where
    pub null_solves : ((t : ℕ) → row_times (row_of bs t) w ≡ zero_value) → left a b (rest_of (length xs) n w) ≡ weighted w xs
    null_solves h = by (PolynomialR d) (left a b (rest_of (length xs) n w) ∷ weighted w xs ∷ []) (sym (columns-weighted a b xs n w) ∙ ap (weighted w) (sym are) ∙ sym (poly-mixed w bs) ∙ poly_same (mixed w bs) [] (λ t. coefficient-mixed w bs t ∙ h t)) (search reads depth 16) refl

    pub solves_null : left a b (rest_of (length xs) n w) ≡ weighted w xs → (t : ℕ) → row_times (row_of bs t) w ≡ zero_value
    solves_null h t = sym (coefficient-mixed w bs t) ∙ same_poly (mixed w bs) [] (poly-mixed w bs ∙ ap (weighted w) are ∙ columns-weighted a b xs n w
        ∙ by (PolynomialR d) (left a b (rest_of (length xs) n w) ∷ weighted w xs ∷ []) h (search reads depth 16) refl) t

  pub row_past : (bs : List (List (Value d))) (w : ℕ → Value d) (t : ℕ) → Each (λ b. length b ≤ t) bs → row_times (row_of bs t) w ≡ zero_value
  row_past [] w t h = refl
  row_past (b ∷ bs) w t h = by (ValueR d) (coefficient b t ∷ w 0 ∷ row_times (row_of bs t) (λ i. w (suc i)) ∷ [])
      ((ValueR d).add_cong (scale (ValueR d) (w 0) (at_past b t h.0)) (row_past bs (λ i. w (suc i)) t h.1)) (search reads depth 16) refl
