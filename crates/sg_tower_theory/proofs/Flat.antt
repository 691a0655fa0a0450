-- Elements of a formal tower as lists of terms.
--   Term d              a coefficient, and the exponents of the products and then of the sums, in their order
--   raised_to E n x     x t^n
--   of_term f t         the element with this one term; the exponents of the sums are natural. A term without an exponent for each product stands for nothing
--   of_terms f ts       the sum of the terms
--   IsAfter es fs       es comes after fs: the first exponents that differ are greater in es
--   IsLowestForm x      a quotient of two polynomials without common divisor that is x
--   IsFlat f x ts       x is the sum of these terms, which stand in descending order, the last sum compared first and the first product last; no coefficient is 0
--   IsUnitPair f x y    x and y are one term each without sums, and each the inverse of the other
use Rattle.std.proofs.Common.{◌≡◌, ℕ, zero, suc, ◌+◌, ℤ, pos, neg_ℤ, ◌≤ℤ◌, ◌<ℤ◌, unsigned_abs, ◌⊎◌, List, [], ◌∷◌, length, map, reverse, drop}
use Rattle.sg_algebra.specs.Ring.{Ring}
use Rattle.sg_algebra.specs.Coefficients.{Each}
use Rattle.sg_algebra.proofs.Value.{Value, zero_value, inv_value, over_value}
use Rattle.sg_algebra.proofs.ValueField.{ValueR, ValueF}
use Rattle.sg_algebra.proofs.PolynomialRing.{PolyR}
use Rattle.sg_algebra.proofs.Coprime.{Coprime}
use Rattle.sg_tower_theory.proofs.Nested.{NestedR}
use Rattle.sg_tower_theory.proofs.Monomials.{one_term}
use Rattle.sg_tower_theory.proofs.Formal.{Formal, Element, elements, base, factors}

pub record Term (d : ℕ) : Type 0 where
  pub exponents : List ℤ
  pub coefficient : Value (suc d)

abbrev pub raised_to : (E : Ring) → ℕ → E.A → List E.A
raised_to E zero x = x ∷ []
raised_to E (suc n) x = E.O ∷ raised_to E n x

abbrev pub exponent_of : List ℤ → ℕ
exponent_of [] = 0
exponent_of (e ∷ es) = unsigned_abs e

abbrev pub without_first : List ℤ → List ℤ
without_first [] = []
without_first (e ∷ es) = es

abbrev pub IsAfter : List ℤ → List ℤ → Type 0
IsAfter [] fs = ⊥
IsAfter (e ∷ es) [] = ⊥
IsAfter (e ∷ es) (f ∷ fs) = (f <ℤ e) ⊎ ((e ≡ f) × IsAfter es fs)

module _ {d : ℕ} where
  -- the exponents with the last first
  abbrev pub term_in : (αs : List (Value (suc d))) (n : ℕ) → List ℤ → Value (suc d) → (NestedR (base αs) n).A
  term_in αs zero es c = one_term (ValueF (suc d)) (length (factors αs)) (reverse es) c
  term_in αs (suc n) es c = raised_to (NestedR (base αs) n) (exponent_of es) (term_in αs n (without_first es) c)

  abbrev pub of_term : (f : Formal d) → Term d → Element f
  of_term f t = term_in f.products f.sums (reverse t.exponents) t.coefficient

  abbrev pub of_terms : (f : Formal d) → List (Term d) → Element f
  of_terms f [] = (elements f).O
  of_terms f (t ∷ ts) = (elements f).◌⊞◌ (of_term f t) (of_terms f ts)

  abbrev pub DescendingTerms : List (Term d) → Type 0
  DescendingTerms [] = Unit {0}
  DescendingTerms (t ∷ []) = Unit {0}
  DescendingTerms (t ∷ (u ∷ ts)) = IsAfter (reverse t.exponents) (reverse u.exponents) × DescendingTerms (u ∷ ts)

  -- x is upper over lower, without common divisor
  pub record IsLowestForm (x : Value (suc d)) : Type 0 where
    pub upper : List (Value d)
    pub lower : List (Value d)
    pub quotient : x ≡ over_value upper lower
    pub nonzero : ¬ ((PolyR (ValueR d)).◌≈◌ lower [])
    pub coprime : Coprime (PolyR (ValueR d)) upper lower

  pub record IsFlat (f : Formal d) (x : Element f) (ts : List (Term d)) : Type 0 where
    pub same : (elements f).◌≈◌ x (of_terms f ts)
    pub sized : Each (λ t. length t.exponents ≡ length f.products + f.sums) ts
    pub natural : Each (λ t. Each (λ e. pos 0 ≤ℤ e) (drop (length f.products) t.exponents)) ts
    pub descending : DescendingTerms ts
    pub nonzero : Each (λ t. ¬ (t.coefficient ≡ zero_value)) ts
    pub lowest : Each (λ t. IsLowestForm t.coefficient) ts

  -- one term without sums, in n sums
  abbrev pub unit_in : (αs : List (Value (suc d))) (n : ℕ) → List ℤ → Value (suc d) → (NestedR (base αs) n).A
  unit_in αs zero es c = one_term (ValueF (suc d)) (length (factors αs)) es c
  unit_in αs (suc n) es c = unit_in αs n es c ∷ []

  pub record IsUnitPair (f : Formal d) (x y : Element f) : Type 0 where
    pub exponents : List ℤ
    pub sized : length exponents ≡ length f.products
    pub function : Value (suc d)
    pub nonzero : ¬ (function ≡ zero_value)
    pub left : (elements f).◌≈◌ x (unit_in f.products f.sums exponents function)
    pub right : (elements f).◌≈◌ y (unit_in f.products f.sums (map neg_ℤ exponents) (inv_value function))
