-- Repeated factors taken out.
--   over_common     a polynomial over its greatest common divisor with its derivative
--   itself          a polynomial is one such, with the factor 1
--   radical_some    what is left isn't 0
--   radicals_meet   two polynomials meet where what is left of them does
use Rattle.std.proofs.Common.{◌≡◌, ℕ, refl, sym, ◌∙◌, subst, List, [], ◌∷◌, ℤ, inl, inr, ◌↔◌}
use Rattle.sg_algebra.proofs.Solver.{ring, by, scale, reads}
use Rattle.sg_algebra.proofs.Divides.{Divides}
use Rattle.sg_algebra.proofs.Derivative.{derivative}
use Rattle.sg_algebra.proofs.Value.{Value}
use Rattle.sg_algebra.proofs.ValueField.{ValueR}
use Rattle.sg_algebra.proofs.Rational.{whole_value}
use Rattle.sg_algebra.proofs.Polynomial.{Polynomial, PolynomialR, poly, zero_polynomial, one_polynomial, ◌*ᵖ◌}
use Rattle.sg_dispersion_theory.proofs.Radical.{IsRadical, coprime_of_radicals}
use Rattle.sg_poly.specs.Divisors.{IsGcd}
use Rattle.sg_spread.specs.Shifts.{Meets}
use Rattle.sg_spread.proofs.Apart.{meets_or_coprime, meets_common}
use Rattle.sg_spread.proofs.Candidates.{coprime_divisors}

module _ {d : ℕ} where
  turn : (x y z : Polynomial d) → x ≡ y *ᵖ z → x ≡ z *ᵖ y
  turn x y z e = e ∙ ring (PolynomialR d) (y ∷ z ∷ []) (search reads depth 12) refl

  pub over_common : (a r : List (Value d)) (g s : Polynomial d) → poly a ≡ poly r *ᵖ g → IsGcd g (poly a) s → s ≡ poly (derivative (ValueR d) a) → IsRadical a r
  over_common a r g s e h k = record { factor = g; is = turn (poly a) (poly r) g e; divides = subst (λ (x : Polynomial d). Divides (PolynomialR d) g x) k h.right }

  one_times : (x : Polynomial d) → x ≡ one_polynomial *ᵖ x
  one_times x = ring (PolynomialR d) (x ∷ []) (search reads depth 12) refl

  pub itself : (a r : List (Value d)) → poly r ≡ poly a → IsRadical a r
  itself a r e = record {
    factor = one_polynomial;
    is = sym e ∙ one_times (poly r);
    divides = record { cofactor = poly (derivative (ValueR d) a); is = one_times (poly (derivative (ValueR d) a)) };
  }

  pub radical_some : (a r : List (Value d)) → IsRadical a r → ¬ (poly a ≡ zero_polynomial) → ¬ (poly r ≡ zero_polynomial)
  radical_some a r h n z = n (h.is ∙ by (PolynomialR d) (h.factor ∷ poly r ∷ []) (scale (PolynomialR d) h.factor z) (search reads depth 12) refl)

  radical_divides : (a r : List (Value d)) → IsRadical a r → Divides (PolynomialR d) (poly r) (poly a)
  radical_divides a r h = record { cofactor = h.factor; is = turn (poly a) h.factor (poly r) h.is }

  pub radicals_meet : (a b r s : List (Value d)) (m : ℤ) → IsRadical a r → IsRadical b s → ¬ (poly a ≡ zero_polynomial) → ¬ (poly b ≡ zero_polynomial) → Meets r s m ↔ Meets a b m
  radicals_meet a b r s m h k some other = (
    λ met. elim (meets_or_coprime a b m some) [
      | inl x ↦ x
      | inr c ↦ absurd (meets_common r s m met (coprime_divisors a b r s m (radical_divides a r h) (radical_divides b s k) c))
    ],
    λ met. elim (meets_or_coprime r s m (radical_some a r h some)) [
      | inl x ↦ x
      | inr c ↦ absurd (meets_common a b m met (coprime_of_radicals d (whole_value d m) a b r s some other h k c))
    ],
  )
