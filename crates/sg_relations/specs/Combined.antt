-- Monic polynomials with one exponent each.
--   AreCombined v cs es rs    the factors rs are those of cs, with the sum of their exponents, each times its exponent in es
--   up_value v s cs           the product of the polynomials to their exponents times s, where these are positive
use Rattle.std.specs.Prelude.{◌≡◌, ℕ, suc, List, [], ◌∷◌, ℤ, ◌*ℤ◌, All}
use Rattle.sg_algebra.proofs.Ring.{pow}
use Rattle.sg_algebra.proofs.Value.{Value, ◌*ᵛ◌, one_value}
use Rattle.sg_algebra.proofs.ValueField.{ValueF}
use Rattle.sg_algebra.proofs.Polynomial.{Polynomial, PolynomialR, one_polynomial, ◌*ᵖ◌}
use Rattle.sg_first_order_theory.proofs.ValueFractions.{whole}
use Rattle.sg_tower_theory.specs.Powers.{power}
use Rattle.sg_relations_theory.proofs.NullVectors.{dot, number_at}
use Rattle.sg_relations_theory.proofs.Generators.{up_part}
use Rattle.sg_relations.specs.declared.factors.Factor.{Factor}
use Rattle.sg_relations.specs.Factors.{exponent, HasWidth, base_of, product_at, IsFactor}

module _ {K : Type 0} {d : ℕ} (v : K → Value d) where
  abbrev pub combined_value : List (Factor K) → List ℤ → Value (suc d)
  combined_value [] es = one_value
  combined_value (c ∷ cs) es = power (ValueF (suc d)) (whole (base_of v c)) (dot c.exps (number_at es)) *ᵛ combined_value cs es

  pub record AreCombined (cs : List (Factor K)) (es : List ℤ) (rs : List (Factor K)) : Type 0 where
    pub monic : All (IsFactor v) rs
    pub width : All (HasWidth 1) rs
    pub value : product_at v rs 0 ≡ combined_value cs es

  abbrev pub up_value : ℤ → List (Factor K) → Polynomial d
  up_value s [] = one_polynomial
  up_value s (c ∷ cs) = pow (PolynomialR d) (base_of v c) (up_part (s *ℤ exponent c 0)) *ᵖ up_value s cs
