-- Polynomials below a degree, as sums of powers of k.
--   Under n x              x has no coefficient from n on
--   under_poly, poly_under of a list of coefficients
--   under_weighted         sums with constant factors
--   powers n               1, k, .., k^(n-1); powers-more: with one more
--   first n f              the list f 0, .., f (n-1); first-weighted: its polynomial is the sum of the powers of k with these factors
--   under_first            a polynomial below n is that of its first n coefficients
use Rattle.std.proofs.Common.{◌≡◌, ℕ, zero, suc, ◌≤◌, ◌<◌, refl, sym, ◌∙◌, ap, ap₂, List, [], ◌∷◌, ◌++◌, ◌⊎◌, inl, inr, map, length, arith}
use Rattle.std.proofs.lemmas.List.{map-append}
use Rattle.sg_algebra.specs.Coefficients.{Each, zip_longest, poly_mul}
use Rattle.sg_algebra.proofs.Solver.{ring, reads}
use Rattle.sg_algebra.proofs.PolynomialRing.{X, cons-is}
use Rattle.sg_algebra.proofs.Degree.{Below, below_same, below-add, below-scale}
use Rattle.sg_algebra.proofs.Value.{Value, zero_value, ◌+ᵛ◌}
use Rattle.sg_algebra.proofs.ValueField.{ValueR}
use Rattle.sg_algebra.proofs.Polynomial.{Polynomial, PolynomialR, ListR, poly, poly_cong, poly_same, same_list, poly-add, poly-mul, coefficient, constant, one_polynomial, ◌+ᵖ◌, ◌*ᵖ◌}
use Rattle.sg_dispersion_theory.proofs.Listed.{list_of, poly-list_of}
use Rattle.sg_first_order_theory.proofs.Weighted.{weighted, Linear, weighted-map}

module _ {d : ℕ} where
  abbrev pub Under : ℕ → Polynomial d → Type 0
  Under n x = Below (ValueR d) n (list_of x)

  pub under_poly : (n : ℕ) (p : List (Value d)) → Below (ValueR d) n p → Under n (poly p)
  under_poly n p b = below_same (ValueR d) n p (list_of (poly p)) ((ListR d).symm (same_list (list_of (poly p)) p (poly-list_of (poly p)))) b

  pub poly_under : (n : ℕ) (p : List (Value d)) → Under n (poly p) → Below (ValueR d) n p
  poly_under n p b = below_same (ValueR d) n (list_of (poly p)) p (same_list (list_of (poly p)) p (poly-list_of (poly p))) b

  pub under_weighted : (n : ℕ) (c : ℕ → Value d) (xs : List (Polynomial d)) → Each (Under n) xs → Under n (weighted c xs)
  under_weighted n c [] h = under_poly n [] (record { none_from = λ i l. refl })
  under_weighted n c (x ∷ xs) h = below_same (ValueR d) n (zip_longest ◌+ᵛ◌ (poly_mul (ValueR d) (c 0 ∷ []) (list_of x)) (list_of (weighted (λ i. c (suc i)) xs))) (list_of (weighted c (x ∷ xs)))
      (same_list _ (list_of (weighted c (x ∷ xs))) (poly-add (poly_mul (ValueR d) (c 0 ∷ []) (list_of x)) (list_of (weighted (λ i. c (suc i)) xs))
      ∙ ap₂ ◌+ᵖ◌ (poly-mul (c 0 ∷ []) (list_of x) ∙ ap (λ z. constant (c 0) *ᵖ z) (poly-list_of x)) (poly-list_of (weighted (λ i. c (suc i)) xs)) ∙ sym (poly-list_of (weighted c (x ∷ xs)))))
      (below-add (ValueR d) n (poly_mul (ValueR d) (c 0 ∷ []) (list_of x)) (list_of (weighted (λ i. c (suc i)) xs)) (below-scale (ValueR d) n (c 0) (list_of x) h.0) (under_weighted n (λ i. c (suc i)) xs h.1))

  abbrev pub variable : Polynomial d
  variable = poly (X (ValueR d))

  abbrev pub times_variable : Polynomial d → Polynomial d
  times_variable x = variable *ᵖ x

  abbrev pub monomial : ℕ → Polynomial d
  monomial zero = one_polynomial
  monomial (suc n) = times_variable (monomial n)

  abbrev pub powers : ℕ → List (Polynomial d)
  powers zero = []
  powers (suc n) = one_polynomial ∷ map times_variable (powers n)

  pub powers-more : (n : ℕ) → powers (suc n) ≡ powers n ++ monomial n ∷ []
  powers-more zero = refl
  powers-more (suc n) = ap (λ z. one_polynomial ∷ map times_variable z) (powers-more n) ∙ ap (λ z. one_polynomial ∷ z) (map-append times_variable (powers n) (monomial n ∷ []))

  abbrev pub first : ℕ → (ℕ → Value d) → List (Value d)
  first zero f = []
  first (suc n) f = f 0 ∷ first n (λ i. f (suc i))

  pub first_at : (n : ℕ) (f : ℕ → Value d) (i : ℕ) → i < n → coefficient (first n f) i ≡ f i
  first_at zero f i l = absurd (omega arith)
  first_at (suc n) f zero l = refl
  first_at (suc n) f (suc i) l = first_at n (λ i. f (suc i)) i (omega arith)

  pub first_past : (n : ℕ) (f : ℕ → Value d) (i : ℕ) → n ≤ i → coefficient (first n f) i ≡ zero_value
  first_past zero f i l = refl
  first_past (suc n) f zero l = absurd (omega arith)
  first_past (suc n) f (suc i) l = first_past n (λ i. f (suc i)) i (omega arith)

  pub first_same : (n : ℕ) (f : ℕ → Value d) (p : List (Value d)) → ((i : ℕ) → i < n → f i ≡ coefficient p i) → ((i : ℕ) → n ≤ i → coefficient p i ≡ zero_value) → poly (first n f) ≡ poly p
  first_same n f p h z = poly_same (first n f) p (λ i. at i (side i))
    where
      side : (i : ℕ) → (i < n) ⊎ (n ≤ i)
      side i = grind arith

      at : (i : ℕ) → (i < n) ⊎ (n ≤ i) → coefficient (first n f) i ≡ coefficient p i
      at i (inl l) = first_at n f i l ∙ h i l
      at i (inr l) = first_past n f i l ∙ sym (z i l)

  times_variableL : Linear d
  times_variableL = record {
    on = times_variable;
    on-add = λ x y. ring (PolynomialR d) (variable ∷ x ∷ y ∷ []) (search reads depth 16) refl;
    on-scale = λ c x. ring (PolynomialR d) (variable ∷ constant c ∷ x ∷ []) (search reads depth 16) refl;
    on-none = ring (PolynomialR d) (variable ∷ []) (search reads depth 16) refl;
  }

  times-weighted : (c : ℕ → Value d) (xs : List (Polynomial d)) → times_variable (weighted c xs) ≡ weighted c (map times_variable xs)
  unfolding times_variableL
  times-weighted c xs = weighted-map times_variableL c xs

  pub first-weighted : (n : ℕ) (f : ℕ → Value d) → poly (first n f) ≡ weighted f (powers n)
  first-weighted zero f = refl
  first-weighted (suc n) f =
      poly_cong (cons-is (ValueR d) (f 0) (first n (λ i. f (suc i)))) ∙ poly-add (f 0 ∷ []) (poly_mul (ValueR d) (X (ValueR d)) (first n (λ i. f (suc i))))
      ∙ ap₂ ◌+ᵖ◌ (ring (PolynomialR d) (constant (f 0) ∷ []) (search reads depth 16) refl)
      (poly-mul (X (ValueR d)) (first n (λ i. f (suc i))) ∙ ap times_variable (first-weighted n (λ i. f (suc i))) ∙ times-weighted (λ i. f (suc i)) (powers n))

  pub under_first : (n : ℕ) (x : Polynomial d) → Under n x → x ≡ weighted (coefficient (list_of x)) (powers n)
  under_first n x b = sym (poly-list_of x) ∙ sym (first_same n (coefficient (list_of x)) (list_of x) (λ i l. refl) b.none_from) ∙ first-weighted n (coefficient (list_of x))

pub length-powers : (d n : ℕ) → length (powers {d = d} n) ≡ n
length-powers d zero = refl
length-powers d (suc n) = ap suc (length-times (powers n) ∙ length-powers d n)
  where
    length-times : (xs : List (Polynomial d)) → length (map times_variable xs) ≡ length xs
    length-times [] = refl
    length-times (x ∷ xs) = ap suc (length-times xs)
