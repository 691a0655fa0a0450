-- Fractions of polynomials in lowest terms.
--   IsReduced p q     the polynomials with the coefficients p and q have no common divisor but constants (some u p + w q is 1), and the lower one, q, is monic
use Rattle.std.specs.Prelude.{ℕ, List}
use Rattle.sg_algebra.proofs.Value.{Value}
use Rattle.sg_algebra.proofs.Polynomial.{PolynomialR, poly}
use Rattle.sg_algebra.proofs.Coprime.{Coprime}
use Rattle.sg_poly.specs.Divisors.{IsMonic}

pub record IsReduced {d : ℕ} (p q : List (Value d)) : Type 0 where
  pub coprime : Coprime (PolynomialR d) (poly p) (poly q)
  pub monic : IsMonic q
