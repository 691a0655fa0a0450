-- Rational functions as constants times products of powers of monic polynomials, and rows of exponents.
--   lead v r                the leading coefficient of the numerator of r
--   IsLead c x              x is c times a quotient of monic polynomials
--   IsGrown v n i x y F G   the factors G have n exponents and are monic if F are and do; in the element i, x times their product is y times that of F;
--                           in all others the two have one product
--   IsReached v n i rs cs   the first i of the rational functions rs are their leading coefficients times the products of the factors cs, which
--                           are monic; from there on the products are 1
--   AreFactors v rs cs      all of them are
--   row_at cs i             the exponents of the factors cs in the element i
--   joined_from cs k rs     to each row of rs the exponents of cs in the elements from the k-th on come first
use Rattle.std.specs.Prelude.{◌≡◌, ℕ, suc, ◌-◌, ◌<◌, ◌≤◌, List, [], ◌∷◌, ◌++◌, length, map, get_or, ℤ, All}
use Rattle.sg_algebra.proofs.Value.{Value, ◌*ᵛ◌, one_value}
use Rattle.sg_algebra.proofs.Embedding.{constant_value}
use Rattle.sg_algebra.proofs.Polynomial.{poly, coefficient}
use Rattle.sg_poly.specs.Divisors.{IsMonic}
use Rattle.sg_first_order_theory.proofs.ValueFractions.{whole}
use Rattle.sg_ratfun.specs.Fractions.{ratio}
use Rattle.sg_relations.specs.declared.factors.Factor.{Factor}
use Rattle.sg_relations.specs.Factors.{size, exponent, product_at, IsFactor, HasWidth}

abbrev pub lead : {K : Type 0} {d : ℕ} → (K → Value d) → List K × List K → Value d
lead v r = coefficient (map v r.0) (size (map v r.0) - 1)

pub record IsLead {d : ℕ} (c : Value d) (x : Value (suc d)) : Type 0 where
  pub upper : List (Value d)
  pub lower : List (Value d)
  pub upper_monic : IsMonic upper
  pub lower_monic : IsMonic lower
  pub is : x *ᵛ whole (poly lower) ≡ constant_value d c *ᵛ whole (poly upper)

module _ {K : Type 0} {d : ℕ} (v : K → Value d) where
  pub record IsGrown (n i : ℕ) (x y : Value (suc d)) (old new : List (Factor K)) : Type 0 where
    pub monic : All (IsFactor v) old → All (IsFactor v) new
    pub width : All (HasWidth n) old → All (HasWidth n) new
    pub own : x *ᵛ product_at v new i ≡ y *ᵛ product_at v old i
    pub other : (j : ℕ) → ¬ (j ≡ i) → product_at v new j ≡ product_at v old j

  pub record IsReached (n i : ℕ) (rs : List (List K × List K)) (cs : List (Factor K)) : Type 0 where
    pub monic : All (IsFactor v) cs
    pub width : All (HasWidth n) cs
    pub done : (j : ℕ) (r : List K × List K) → j < i → ratio v (get_or rs j r) ≡ constant_value d (lead v (get_or rs j r)) *ᵛ product_at v cs j
    pub rest : (j : ℕ) → i ≤ j → product_at v cs j ≡ one_value

  abbrev pub AreFactors : List (List K × List K) → List (Factor K) → Type 0
  AreFactors rs cs = IsReached (length rs) (length rs) rs cs

abbrev pub row_at : {K : Type 0} → List (Factor K) → ℕ → List ℤ
row_at cs i = map (λ c. exponent c i) cs

abbrev pub joined_from : {K : Type 0} → List (Factor K) → ℕ → List (List ℤ) → List (List ℤ)
joined_from cs k [] = []
joined_from cs k (r ∷ rs) = (row_at cs k ++ r) ∷ joined_from cs (suc k) rs
