-- Fractions of polynomials over the values of one depth: the map is k to k + 1, and a unit is a constant.
--   unit_fixed       a unit stays as it is at k + 1
--   rel_values       only 1 is both a fraction of polynomials that are apart and of the form r(k + 1)/r(k)
use Rattle.std.proofs.Common.{◌≡◌, ℕ, zero, suc, refl, sym, ◌∙◌, ap, [], ◌∷◌, arith}
use Rattle.sg_algebra.specs.Coefficients.{coef}
use Rattle.sg_algebra.proofs.Divides.{Divides, dvd_same}
use Rattle.sg_algebra.proofs.PolynomialRing.{PolyR}
use Rattle.sg_algebra.proofs.PolynomialLowest.{unit_constant}
use Rattle.sg_algebra.proofs.Value.{Value, one_value}
use Rattle.sg_algebra.proofs.ValueField.{ValueR, ValueF, ValueD}
use Rattle.sg_algebra.proofs.Polynomial.{Polynomial, PolynomialR, PolynomialD, poly, poly_same, constant, one_polynomial}
use Rattle.sg_dispersion_theory.proofs.Listed.{list_of, poly-list_of, poly_dvd}
use Rattle.sg_first_order_theory.proofs.Next.{next, nextH, next-constant, unit_denominator}
use Rattle.sg_first_order_theory.proofs.ValueFractions.{value_fractions}
use Rattle.sg_relations_theory.proofs.RatioTheorem.{Rel, rel, inside}

module _ (d : ℕ) where
  as_lists : (x : Polynomial d) → Divides (PolynomialR d) x one_polynomial → Divides (PolyR (ValueR d)) (list_of x) (one_value ∷ [])
  as_lists x h = poly_dvd (list_of x) (one_value ∷ []) (dvd_same (PolynomialR d) x one_polynomial (poly (list_of x)) one_polynomial (sym (poly-list_of x)) refl h)

  pub unit_is_constant : (x : Polynomial d) → Divides (PolynomialR d) x one_polynomial → (c : Value d) × (x ≡ constant c)
  unit_is_constant x h = (coef (ValueR d) (list_of x) 0, sym (poly-list_of x) ∙ poly_same (list_of x) (coef (ValueR d) (list_of x) 0 ∷ []) at)
    where
      at : (n : ℕ) → coef (ValueR d) (list_of x) n ≡ coef (ValueR d) (coef (ValueR d) (list_of x) 0 ∷ []) n
      at zero = refl
      at (suc n) = let k = as_lists x h in unit_constant (ValueD d) (list_of x) k.cofactor ((PolyR (ValueR d)).symm k.is) (suc n) (omega arith)

  pub unit_fixed : (x : Polynomial d) → Divides (PolynomialR d) x one_polynomial → next x ≡ x
  unit_fixed x h = let c = unit_is_constant x h in ap next c.1 ∙ next-constant c.0 ∙ sym c.1

  pub rel_values : Rel (PolynomialD d) (nextH d) (ValueF (suc d)) (inside (value_fractions d))
  rel_values = rel (PolynomialD d) (nextH d) (ValueF (suc d)) (value_fractions d) (λ a b q h s k. unit_denominator a b q h s k) unit_fixed
