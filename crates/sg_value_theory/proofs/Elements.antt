-- Elements of a formal tower, and their values.
--   Point d                    where an element is evaluated: the variable, and the values of the products, which aren't 0, and of the sums, each from 0
--   plain_point k ts           the point at k with the values ts of the sums, where there are no products
--   IsQuotientAt k x v         the quotient x has the value v at the whole number k: it is one of two polynomials, of which the lower one isn't 0 at k
--   IsPolynomialAt E Has t p v     where `Has` says what values the elements of E have, the polynomial p has the value v at t
--   IsLaurentAt D Has t x v    the Laurent polynomial x in one product has the value v where the product has the value t: it is a polynomial over a power of it
--   HasLaurent n k ts x v      in n products with the values ts
--   HasElement f p x v         the element x of the formal tower f has the value v at the point p
--   Follows f p q              q is one place further: each product has gone to itself times the value of its factor at p, each sum has grown by the value at p of what it grows by
use Rattle.std.proofs.Common.{◌≡◌, ℕ, zero, suc, ℤ, pos, ◌+ℤ◌, List, [], ◌∷◌, length}
use Rattle.sg_algebra.specs.Ring.{Ring, Domain}
use Rattle.sg_algebra.specs.Coefficients.{eval}
use Rattle.sg_algebra.proofs.Ring.{pow}
use Rattle.sg_algebra.proofs.Value.{Value, ◌-ᵛ◌, ◌*ᵛ◌, ◌/ᵛ◌, inv_value, zero_value, one_value, over_value}
use Rattle.sg_algebra.proofs.ValueField.{ValueR, ValueF, value_one_ne}
use Rattle.sg_algebra.proofs.Rational.{whole_value}
use Rattle.sg_algebra.proofs.PolynomialRing.{PolyR}
use Rattle.sg_algebra.proofs.Place.{Pairwise}
use Rattle.sg_tower_theory.proofs.Laurent.{Laurent, LaurentR}
use Rattle.sg_tower_theory.proofs.Products.{LaurentsD, LaurentsR}
use Rattle.sg_tower_theory.proofs.Nested.{NestedR, Shape}
use Rattle.sg_tower_theory.proofs.Formal.{Formal, Element, base, factors}

pub record Point (d : ℕ) : Type 0 where
  pub variable : ℤ
  pub products : ℕ → Value d
  pub sums : ℕ → Value d
  pub nonzero : (i : ℕ) → ¬ (products i ≡ zero_value)

-- with the values of sums alone
abbrev pub plain_point : {d : ℕ} → ℤ → (ℕ → Value d) → Point d
plain_point {d} k ts = record { variable = k; products = λ i. one_value; sums = ts; nonzero = λ i. value_one_ne d }

pub record IsQuotientAt {d : ℕ} (k : ℤ) (x : Value (suc d)) (v : Value d) : Type 0 where
  pub upper : List (Value d)
  pub lower : List (Value d)
  pub quotient : x ≡ over_value upper lower
  pub defined : ¬ (eval (ValueR d) lower (whole_value d k) ≡ zero_value)
  pub value : v ≡ eval (ValueR d) upper (whole_value d k) /ᵛ eval (ValueR d) lower (whole_value d k)

pub record IsPolynomialAt {d : ℕ} (E : Ring) (Has : E.A → Value d → Type 0) (t : Value d) (p : List E.A) (v : Value d) : Type 0 where
  pub coefficients : List E.A
  pub values : List (Value d)
  pub same : (PolyR E).◌≈◌ p coefficients
  pub each : Pairwise Has coefficients values
  pub value : v ≡ eval (ValueR d) values t

pub record IsLaurentAt {d : ℕ} (D : Domain) (Has : D.R.A → Value d → Type 0) (t : Value d) (x : Laurent D) (v : Value d) : Type 0 where
  pub upper : List D.R.A
  pub lag : ℕ
  pub same : (LaurentR D).◌≈◌ x (record { poly = upper; lag = lag })
  pub upper_value : Value d
  pub upper_has : IsPolynomialAt D.R Has t upper upper_value
  pub value : v ≡ upper_value *ᵛ pow (ValueR d) (inv_value t) lag

module _ {d : ℕ} where
  -- the first product is the last adjoined
  abbrev pub HasLaurent : (n : ℕ) → ℤ → (ℕ → Value d) → (LaurentsR (ValueF (suc d)) n).A → Value d → Type 0
  HasLaurent zero k ts x v = IsQuotientAt k x v
  HasLaurent (suc n) k ts x v = IsLaurentAt (LaurentsD (ValueF (suc d)) n) (HasLaurent n k (λ i. ts (suc i))) (ts 0) x v

  abbrev pub HasIn : (αs : List (Value (suc d))) (n : ℕ) → Point d → (NestedR (base αs) n).A → Value d → Type 0
  HasIn αs zero p x v = HasLaurent (length (factors αs)) p.variable p.products x v
  HasIn αs (suc n) p x v = IsPolynomialAt (NestedR (base αs) n) (HasIn αs n p) (p.sums n) x v

  abbrev pub HasElement : (f : Formal d) → Point d → Element f → Value d → Type 0
  HasElement f p x v = HasIn f.products f.sums p x v

  -- each product goes to itself times the value of its factor
  abbrev pub FollowsProducts : List (Value (suc d)) → ℤ → (ℕ → Value d) → (ℕ → Value d) → Type 0
  FollowsProducts [] k ts us = Unit {0}
  FollowsProducts (α ∷ αs) k ts us = ((a : Value d) × IsQuotientAt k α a × (us 0 ≡ a *ᵛ ts 0)) × FollowsProducts αs k (λ i. ts (suc i)) (λ i. us (suc i))

  abbrev pub FollowsIn : (αs : List (Value (suc d))) (n : ℕ) → Shape (base αs) n → Point d → Point d → Type 0
  FollowsIn αs zero s p q = (q.variable ≡ p.variable +ℤ pos 1) × FollowsProducts (factors αs) p.variable p.products q.products
  FollowsIn αs (suc n) s p q = FollowsIn αs n s.0 p q × HasIn αs n p s.1 (q.sums n -ᵛ p.sums n)

  abbrev pub Follows : Formal d → Point d → Point d → Type 0
  Follows f p q = FollowsIn f.products f.sums f.shape p q
