-- The conditions on the constants as rows, and one function more.
--   none_rows, rows_none  a combination of polynomials is 0 exactly where the rows of coefficients send the constants to 0
--   rows_past             rows past all degrees send everything to 0
--   alone r i p           r polynomials that are 0 but for p at i; alone-weighted
--   whole-end             a combination of polynomials with one more
--   reduced_more          one function more, as a polynomial and a fraction
use Rattle.std.proofs.Common.{◌≡◌, ℕ, zero, suc, ◌<◌, ◌≤◌, refl, sym, ◌∙◌, ap, subst, List, [], ◌∷◌, ◌++◌, map, length, arith}
use Rattle.sg_algebra.specs.Coefficients.{Each}
use Rattle.sg_algebra.proofs.Solver.{ring, by, scale, reads}
use Rattle.sg_algebra.proofs.Linear.{row_times}
use Rattle.sg_algebra.proofs.Value.{Value, zero_value, inv_value, ◌+ᵛ◌, ◌*ᵛ◌, ◌/ᵛ◌}
use Rattle.sg_algebra.proofs.ValueField.{ValueR}
use Rattle.sg_algebra.proofs.Embedding.{constant_value}
use Rattle.sg_algebra.proofs.Polynomial.{Polynomial, PolynomialR, poly, poly_same, same_poly, constant, zero_polynomial, ◌+ᵖ◌, ◌*ᵖ◌}
use Rattle.sg_first_order_theory.proofs.System.{row_of, mixed, poly-mixed, coefficient-mixed}
use Rattle.sg_first_order_theory.proofs.ValueFractions.{whole, whole-add, whole-mul}
use Rattle.sg_first_order_theory.proofs.Under.{Under, poly_under, under_weighted}
use Rattle.sg_first_order_theory.proofs.Weighted.{weighted}
use Rattle.sg_first_order_theory.specs.Solutions.{weighted_value}
use Rattle.sg_reduction_theory.proofs.Moves.{Share, sum_at, difference, Reduced, whole-constant}

module _ {d : ℕ} where
  pub none_rows : (w : ℕ → Value d) (bs : List (List (Value d))) → ((t : ℕ) → row_times (row_of bs t) w ≡ zero_value) → weighted w (map poly bs) ≡ zero_polynomial
  none_rows w bs h = sym (poly-mixed w bs) ∙ poly_same (mixed w bs) [] (λ t. coefficient-mixed w bs t ∙ h t)

  pub rows_none : (w : ℕ → Value d) (bs : List (List (Value d))) → weighted w (map poly bs) ≡ zero_polynomial → (t : ℕ) → row_times (row_of bs t) w ≡ zero_value
  rows_none w bs h t = sym (coefficient-mixed w bs t) ∙ same_poly (mixed w bs) [] (poly-mixed w bs ∙ h) t

  pub rows_past : (w : ℕ → Value d) (bs : List (List (Value d))) (n : ℕ) → Each (Under n) (map poly bs) → (t : ℕ) → n ≤ t → row_times (row_of bs t) w ≡ zero_value
  rows_past w bs n h t l = sym (coefficient-mixed w bs t) ∙ (poly_under n (mixed w bs) (subst (Under n) (sym (poly-mixed w bs)) (under_weighted n w (map poly bs) h))).none_from t l

  -- ---- One function more

  abbrev pub zeros : ℕ → List (Polynomial d)
  zeros zero = []
  zeros (suc r) = zero_polynomial ∷ zeros r

  abbrev pub alone : ℕ → ℕ → Polynomial d → List (Polynomial d)
  alone zero i p = []
  alone (suc r) zero p = p ∷ zeros r
  alone (suc r) (suc i) p = zero_polynomial ∷ alone r i p

  zeros-weighted : (r : ℕ) (c : ℕ → Value d) → weighted c (zeros r) ≡ zero_polynomial
  zeros-weighted zero c = refl
  zeros-weighted (suc r) c = by (PolynomialR d) (constant (c 0) ∷ weighted (λ i. c (suc i)) (zeros r) ∷ []) (zeros-weighted r (λ i. c (suc i))) (search reads depth 16) refl

  pub alone-weighted : (r i : ℕ) (c : ℕ → Value d) (p : Polynomial d) → i < r → weighted c (alone r i p) ≡ constant (c i) *ᵖ p
  alone-weighted zero i c p l = absurd (omega arith)
  alone-weighted (suc r) zero c p l = by (PolynomialR d) (constant (c 0) ∷ p ∷ weighted (λ i. c (suc i)) (zeros r) ∷ []) (zeros-weighted r (λ i. c (suc i))) (search reads depth 16) refl
  alone-weighted (suc r) (suc i) c p l = by (PolynomialR d) (constant (c 0) ∷ constant (c (suc i)) ∷ p ∷ weighted (λ i. c (suc i)) (alone r i p) ∷ []) (alone-weighted r i (λ i. c (suc i)) p (omega arith)) (search reads depth 16) refl

  value-end : (c : ℕ → Value d) (fs : List (Value (suc d))) (f : Value (suc d)) → weighted_value c (fs ++ f ∷ []) ≡ weighted_value c fs +ᵛ constant_value d (c (length fs)) *ᵛ f
  value-end c [] f = ring (ValueR (suc d)) (constant_value d (c 0) ∷ f ∷ []) (search reads depth 16) refl
  value-end c (g ∷ fs) f = by (ValueR (suc d)) (constant_value d (c 0) ∷ g ∷ f ∷ weighted_value (λ i. c (suc i)) fs ∷ constant_value d (c (suc (length fs))) ∷ weighted_value (λ i. c (suc i)) (fs ++ f ∷ []) ∷ [])
      (value-end (λ i. c (suc i)) fs f) (search reads depth 20 fits 4000) refl

  pub whole-end : (c : ℕ → Value d) (ps : List (Polynomial d)) (p : Polynomial d) → weighted c (ps ++ p ∷ []) ≡ weighted c ps +ᵖ constant (c (length ps)) *ᵖ p
  whole-end c [] p = ring (PolynomialR d) (constant (c 0) ∷ p ∷ []) (search reads depth 16) refl
  whole-end c (q ∷ ps) p = by (PolynomialR d) (constant (c 0) ∷ q ∷ p ∷ weighted (λ i. c (suc i)) ps ∷ constant (c (suc (length ps))) ∷ weighted (λ i. c (suc i)) (ps ++ p ∷ []) ∷ [])
      (whole-end (λ i. c (suc i)) ps p) (search reads depth 20 fits 4000) refl

  -- f = p + n/w, for the next place of r
  pub reduced_more : (a : Value d) (fs : List (Value (suc d))) (ps : List (Polynomial d)) (ss moved : List (Share d)) (r : ℕ) (f : Value (suc d)) (p n w : Polynomial d) → length fs ≡ length ps → length fs < r
      → f ≡ whole p +ᵛ whole n /ᵛ whole w → Reduced a fs ps ss moved → Reduced a (fs ++ f ∷ []) (ps ++ p ∷ []) (record { uppers = alone r (length fs) n; lower = w } ∷ ss) moved
  reduced_more a fs ps ss moved r f p n w e l h red = record { is = λ c. at c }
    where
      wholes : (c : ℕ → Value d) → whole (weighted c (ps ++ p ∷ [])) ≡ whole (weighted c ps) +ᵛ constant_value d (c (length fs)) *ᵛ whole p
      wholes c = ap whole (whole-end c ps p) ∙ whole-add (weighted c ps) (constant (c (length ps)) *ᵖ p) ∙ ap (λ z. whole (weighted c ps) +ᵛ z) (whole-mul (constant (c (length ps))) p
          ∙ ap (λ z. z *ᵛ whole p) (whole-constant (c (length ps)) ∙ ap (λ (k : ℕ). constant_value d (c k)) (sym e)))

      uppers : (c : ℕ → Value d) → whole (weighted c (alone r (length fs) n)) ≡ constant_value d (c (length fs)) *ᵛ whole n
      uppers c = ap whole (alone-weighted r (length fs) c n l) ∙ whole-mul (constant (c (length fs))) n ∙ ap (λ z. z *ᵛ whole n) (whole-constant (c (length fs)))

      at : (c : ℕ → Value d) → weighted_value c (fs ++ f ∷ []) ≡ whole (weighted c (ps ++ p ∷ [])) +ᵛ (whole (weighted c (alone r (length fs) n)) /ᵛ whole w +ᵛ sum_at c ss) +ᵛ difference a (sum_at c moved)
      at c = value-end c fs f ∙ by (ValueR (suc d)) (weighted_value c fs ∷ constant_value d (c (length fs)) ∷ f ∷ whole p ∷ whole n ∷ inv_value (whole w) ∷ whole (weighted c ps) ∷ sum_at c ss ∷ difference a (sum_at c moved)
          ∷ whole (weighted c (ps ++ p ∷ [])) ∷ whole (weighted c (alone r (length fs) n)) ∷ [])
          ((ValueR (suc d)).add_cong (red.is c) ((ValueR (suc d)).add_cong (scale (ValueR (suc d)) (constant_value d (c (length fs))) h)
          ((ValueR (suc d)).add_cong ((ValueR (suc d)).symm (wholes c)) (scale (ValueR (suc d)) (inv_value (whole w)) ((ValueR (suc d)).symm (uppers c)))))) (search reads depth 24 fits 8000) refl
