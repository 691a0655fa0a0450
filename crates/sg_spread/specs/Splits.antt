-- Whole roots that are split off.
--   linear m         the polynomial k - m
--   of_roots r       the product of k - m over the items m of r
--   product_of r p   this product times the polynomial with the coefficients p
--   AreAllRoots p r  each item of r is a root of p
use Rattle.std.specs.Prelude.{List, [], ◌∷◌, map, ℤ, Contains}
use Rattle.sg_algebra.proofs.Value.{neg_value, one_value}
use Rattle.sg_algebra.proofs.Rational.{whole_value}
use Rattle.sg_algebra.proofs.Polynomial.{Polynomial, poly, one_polynomial, ◌*ᵖ◌}
use Rattle.sg_num.specs.Roots.{IsRoot}
use Rattle.sg_num.specs.Value.{number}
use Rattle.sg_num.specs.declared.rat.Rat.{Rat}
use Rattle.sg_poly.specs.Polynomials.{polynomial}

abbrev pub linear : ℤ → Polynomial 0
linear m = poly (neg_value (whole_value 0 m) ∷ one_value ∷ [])

abbrev pub of_roots : List ℤ → Polynomial 0
of_roots [] = one_polynomial
of_roots (m ∷ r) = linear m *ᵖ of_roots r

abbrev pub product_of : List ℤ → List Rat → Polynomial 0
product_of r p = of_roots r *ᵖ polynomial number p

abbrev pub AreAllRoots : List Rat → List ℤ → Type 0
AreAllRoots p r = (m : ℤ) → Contains r m → IsRoot (map number p) m
