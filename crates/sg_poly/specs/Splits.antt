-- Common factors that are taken out of two polynomials.
--   KeepsGcd g a b p q    g times a greatest common divisor of a and b is one of p and q
--   AreRests v g a b p q     the same of the polynomials whose coefficients have the values that `v` says
--   AreLess v g a b g' a' b'    g', a', b' are rests of whatever g, a, b are
use Rattle.std.specs.Prelude.{ℕ, List}
use Rattle.sg_algebra.proofs.Value.{Value}
use Rattle.sg_algebra.proofs.Polynomial.{Polynomial, ◌*ᵖ◌}
use Rattle.sg_poly.specs.Divisors.{IsGcd}
use Rattle.sg_poly.specs.Polynomials.{polynomial}

pub record KeepsGcd {d : ℕ} (g a b p q : Polynomial d) : Type 0 where
  pub lifts : (c : Polynomial d) → IsGcd c a b → IsGcd (g *ᵖ c) p q

module _ {K : Type 0} {d : ℕ} (v : K → Value d) where
  abbrev pub AreRests : List K → List K → List K → List K → List K → Type 0
  AreRests g a b p q = KeepsGcd (polynomial v g) (polynomial v a) (polynomial v b) (polynomial v p) (polynomial v q)

  abbrev pub AreLess : List K → List K → List K → List K → List K → List K → Type 0
  AreLess g a b g' a' b' = (p q : Polynomial d) → KeepsGcd (polynomial v g) (polynomial v a) (polynomial v b) p q → KeepsGcd (polynomial v g') (polynomial v a') (polynomial v b') p q
