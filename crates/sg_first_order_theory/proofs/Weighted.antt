-- Sums of polynomials and of rational functions with constant factors.
--   weighted c xs            c 0 x 0 + c 1 x 1 + .., of polynomials
--   behind r c               c from the place r on
--   weighted-append          of two lists, one after the other
--   weighted-map             a linear map goes inside
--   whole-weighted           as values
use Rattle.std.proofs.Common.{◌≡◌, ℕ, zero, suc, ◌+◌, ◌<◌, refl, sym, ◌∙◌, ap, ap₂, zero-add, suc-add, List, [], ◌∷◌, ◌++◌, map, length, arith}
use Rattle.sg_algebra.proofs.Ring.{mul_O}
use Rattle.sg_algebra.proofs.Solver.{ring, by, scale, reads}
use Rattle.sg_algebra.proofs.Value.{Value, ◌+ᵛ◌, ◌*ᵛ◌}
use Rattle.sg_algebra.proofs.ValueField.{ValueR}
use Rattle.sg_algebra.proofs.Embedding.{constant_value}
use Rattle.sg_algebra.proofs.Polynomial.{Polynomial, PolynomialR, constant, zero_polynomial, ◌+ᵖ◌, ◌*ᵖ◌}
use Rattle.sg_first_order_theory.specs.Solutions.{weighted_value}
use Rattle.sg_first_order_theory.proofs.ValueFractions.{whole, whole-poly, whole-add, whole-mul, whole-zero}

module _ {d : ℕ} where
  abbrev pub weighted : (ℕ → Value d) → List (Polynomial d) → Polynomial d
  weighted c [] = zero_polynomial
  weighted c (x ∷ xs) = constant (c 0) *ᵖ x +ᵖ weighted (λ i. c (suc i)) xs

  pub weighted_cong : (c e : ℕ → Value d) (xs : List (Polynomial d)) → ((i : ℕ) → i < length xs → c i ≡ e i) → weighted c xs ≡ weighted e xs
  weighted_cong c e [] h = refl
  weighted_cong c e (x ∷ xs) h = ap₂ (λ a b. constant a *ᵖ x +ᵖ b) (h 0 (omega arith)) (weighted_cong (λ i. c (suc i)) (λ i. e (suc i)) xs (λ i l. h (suc i) (omega arith)))

  abbrev pub behind : ℕ → (ℕ → Value d) → ℕ → Value d
  behind zero c = c
  behind (suc r) c = behind r (λ i. c (suc i))

  pub behind_at : (r : ℕ) (c : ℕ → Value d) (i : ℕ) → behind r c i ≡ c (r + i)
  behind_at zero c i = rw (zero-add i) refl
  behind_at (suc r) c i = behind_at r (λ i. c (suc i)) i ∙ rw (suc-add r i) refl

  pub weighted-append : (c : ℕ → Value d) (xs ys : List (Polynomial d)) → weighted c (xs ++ ys) ≡ weighted c xs +ᵖ weighted (behind (length xs) c) ys
  weighted-append c [] ys = ring (PolynomialR d) (weighted c ys ∷ []) (search reads depth 12) refl
  weighted-append c (x ∷ xs) ys = by (PolynomialR d) (constant (c 0) ∷ x ∷ weighted (λ i. c (suc i)) xs ∷ weighted (λ i. c (suc i)) (xs ++ ys) ∷ weighted (behind (length xs) (λ i. c (suc i))) ys ∷ [])
      (weighted-append (λ i. c (suc i)) xs ys) (search reads depth 20) refl

-- a map that keeps sums and constant factors
pub record Linear (d : ℕ) : Type 0 where
  pub on : Polynomial d → Polynomial d
  pub on-add : (x y : Polynomial d) → on (x +ᵖ y) ≡ on x +ᵖ on y
  pub on-scale : (c : Value d) (x : Polynomial d) → on (constant c *ᵖ x) ≡ constant c *ᵖ on x
  pub on-none : on zero_polynomial ≡ zero_polynomial

module _ {d : ℕ} where
  pub weighted-map : (l : Linear d) (c : ℕ → Value d) (xs : List (Polynomial d)) → l.on (weighted c xs) ≡ weighted c (map l.on xs)
  weighted-map l c [] = l.on-none
  weighted-map l c (x ∷ xs) = l.on-add (constant (c 0) *ᵖ x) (weighted (λ i. c (suc i)) xs) ∙ ap₂ ◌+ᵖ◌ (l.on-scale (c 0) x) (weighted-map l (λ i. c (suc i)) xs)

  whole-constant : (c : Value d) → whole (constant c) ≡ constant_value d c
  whole-constant c = whole-poly (c ∷ [])

  -- each of the values times t is a polynomial
  abbrev pub Cleared : Polynomial d → List (Value (suc d)) → List (Polynomial d) → Type 0
  Cleared t [] [] = Unit {0}
  Cleared t [] (x ∷ xs) = ⊥
  Cleared t (f ∷ fs) [] = ⊥
  Cleared t (f ∷ fs) (x ∷ xs) = (whole t *ᵛ f ≡ whole x) × Cleared t fs xs

  pub cleared-weighted : (t : Polynomial d) (c : ℕ → Value d) (fs : List (Value (suc d))) (xs : List (Polynomial d)) → Cleared t fs xs → whole t *ᵛ weighted_value c fs ≡ whole (weighted c xs)
  cleared-weighted t c [] [] h = mul_O (ValueR (suc d)) ∙ sym (whole-zero d)
  cleared-weighted t c [] (x ∷ xs) h = absurd h
  cleared-weighted t c (f ∷ fs) [] h = absurd h
  cleared-weighted t c (f ∷ fs) (x ∷ xs) h =
      by (ValueR (suc d)) (whole t ∷ constant_value d (c 0) ∷ f ∷ weighted_value (λ i. c (suc i)) fs ∷ whole x ∷ whole (weighted (λ i. c (suc i)) xs) ∷ [])
      ((ValueR (suc d)).add_cong (scale (ValueR (suc d)) (constant_value d (c 0)) h.0) (cleared-weighted t (λ i. c (suc i)) fs xs h.1)) (search reads depth 20 fits 4000) refl
      ∙ sym (whole-add (constant (c 0) *ᵖ x) (weighted (λ i. c (suc i)) xs) ∙ ap (λ a. a +ᵛ whole (weighted (λ i. c (suc i)) xs)) (whole-mul (constant (c 0)) x ∙ ap (λ a. a *ᵛ whole x) (whole-constant (c 0))))
