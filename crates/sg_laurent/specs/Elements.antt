-- Laurent polynomials in n products as lists of terms, where v says which value of depth d a coefficient has.
--   exponents t             the exponents of a term
--   IsLater t s             t comes after s: the exponents of the last product are compared first
--   IsDescending ts         each term comes after those that stand behind it
--   element v n ts          the sum of the terms; one without an exponent for each of the n products stands for nothing
--   term_in v n t           one term
--   zero_in v n, constant_in v n c, product_in v n i     0, the value c, and the product i
--   Same, Sum, Difference, Product v n x y
--   IsNormal v n ts         each term has an exponent for each of the n products and a coefficient other than 0, and they descend
--   IsInverseTerm v n x y   x and y are one term each, and each the inverse of the other
use Rattle.std.specs.Prelude.{◌≡◌, ℕ, List, [], ◌∷◌, length, map, reverse, ℤ, neg_ℤ}
use Rattle.sg_algebra.specs.Coefficients.{Each}
use Rattle.sg_algebra.proofs.Value.{Value, zero_value, one_value, inv_value}
use Rattle.sg_algebra.proofs.ValueField.{ValueF}
use Rattle.sg_tower_theory.proofs.Flat.{IsAfter}
use Rattle.sg_tower_theory.proofs.Products.{LaurentsR, lift}
use Rattle.sg_tower_theory.proofs.Monomials.{meaning, one_term}
use Rattle.sg_laurent.specs.Exponents.{unit_exponents}
use Rattle.sg_laurent.specs.declared.terms.Term.{Term}

module _ {K : Type 0} where
  abbrev pub exponents : Term K → List ℤ
  exponents t = t.exps.items

  abbrev pub IsLater : Term K → Term K → Type 0
  IsLater t s = IsAfter (reverse (exponents t)) (reverse (exponents s))

  abbrev pub IsDescending : List (Term K) → Type 0
  IsDescending [] = Unit {0}
  IsDescending (t ∷ ts) = Each (IsLater t) ts × IsDescending ts

module _ {K : Type 0} {d : ℕ} (v : K → Value d) where
  abbrev pub Same : (n : ℕ) → (LaurentsR (ValueF d) n).A → (LaurentsR (ValueF d) n).A → Type 0
  Same n x y = (LaurentsR (ValueF d) n).◌≈◌ x y

  abbrev pub Sum : (n : ℕ) → (LaurentsR (ValueF d) n).A → (LaurentsR (ValueF d) n).A → (LaurentsR (ValueF d) n).A
  Sum n x y = (LaurentsR (ValueF d) n).◌⊞◌ x y

  abbrev pub Difference : (n : ℕ) → (LaurentsR (ValueF d) n).A → (LaurentsR (ValueF d) n).A → (LaurentsR (ValueF d) n).A
  Difference n x y = (LaurentsR (ValueF d) n).◌⊞◌ x ((LaurentsR (ValueF d) n).⊟ y)

  abbrev pub Product : (n : ℕ) → (LaurentsR (ValueF d) n).A → (LaurentsR (ValueF d) n).A → (LaurentsR (ValueF d) n).A
  Product n x y = (LaurentsR (ValueF d) n).◌⊠◌ x y

  abbrev pub zero_in : (n : ℕ) → (LaurentsR (ValueF d) n).A
  zero_in n = (LaurentsR (ValueF d) n).O

  abbrev pub constant_in : (n : ℕ) → Value d → (LaurentsR (ValueF d) n).A
  constant_in n c = (lift (ValueF d) n).on c

  abbrev pub product_in : (n : ℕ) → ℕ → (LaurentsR (ValueF d) n).A
  product_in n i = one_term (ValueF d) n (unit_exponents n i) one_value

  abbrev pub coefficient_of : Term K → Value d
  coefficient_of t = v t.coeff

  abbrev pub element : (n : ℕ) → List (Term K) → (LaurentsR (ValueF d) n).A
  element n ts = meaning (ValueF d) exponents coefficient_of n ts

  abbrev pub term_in : (n : ℕ) → Term K → (LaurentsR (ValueF d) n).A
  term_in n t = one_term (ValueF d) n (exponents t) (coefficient_of t)

  pub record IsNormal (n : ℕ) (ts : List (Term K)) : Type 0 where
    pub fit : Each (λ t. length (exponents t) ≡ n) ts
    pub some : Each (λ t. ¬ (coefficient_of t ≡ zero_value)) ts
    pub descending : IsDescending ts

  pub record IsInverseTerm (n : ℕ) (x y : (LaurentsR (ValueF d) n).A) : Type 0 where
    pub exponents : List ℤ
    pub sized : length exponents ≡ n
    pub function : Value d
    pub nonzero : ¬ (function ≡ zero_value)
    pub left : Same n x (one_term (ValueF d) n exponents function)
    pub right : Same n y (one_term (ValueF d) n (map neg_ℤ exponents) (inv_value function))
