-- The canonical tree of a rational function.
--   quotient_terms us ls    the terms of the quotient of the polynomials with the whole coefficients us and ls, the highest first: none where the upper one has none
--   HasValuesOf r t         at each whole number where the denominator of r isn't 0, t has the value of r
--   IsRationalTree x t      t is the canonical tree of the rational function x: that of the one quotient with whole coefficients of its lowest parts
use Rattle.std.specs.Prelude.{◌≡◌, ℤ, List, [], ◌∷◌}
use Rattle.sg_algebra.proofs.Polynomial.{EndsNonzero}
use Rattle.sg_algebra.proofs.Rational.{whole_value}
use Rattle.sg_algebra.proofs.Value.{Value, over_value, zero_value}
use Rattle.sg_num.specs.Value.{number}
use Rattle.sg_num.specs.declared.rat.Rat.{Rat}
use Rattle.sg_poly.specs.Polynomials.{polynomial_at}
use Rattle.sg_ratfun.specs.Fractions.{quotient_at}
use Rattle.sg_spec.specs.Tree.{Tree}
use Rattle.sg_ratfun.specs.Reduced.{IsReduced}
use Rattle.sg_spec.specs.Worth.{HasWorth}
use Rattle.sg_spec.specs.Canonical.{Written, element_tree, plane_of}
use Rattle.sg_canonical.specs.Whole.{IsPrimitiveQuotient}

abbrev pub quotient_terms : List ℤ → List ℤ → List Written
quotient_terms [] ls = []
quotient_terms (u ∷ us) ls = record { powers = []; exponents = []; upper = plane_of (u ∷ us); lower = plane_of ls } ∷ []

abbrev pub HasValuesOf : List Rat × List Rat → Tree → Type 0
HasValuesOf r t = (k : ℤ) → ¬ (polynomial_at number r.1 (whole_value 0 k) ≡ zero_value) → HasWorth zero_value t k (quotient_at number r.0 r.1 (whole_value 0 k))

pub record IsRationalTree (x : Value 1) (t : Tree) : Type 0 where
  pub upper : List (Value 0)
  pub lower : List (Value 0)
  pub quotient : x ≡ over_value upper lower
  pub reduced : IsReduced upper lower
  pub upper_ends : EndsNonzero upper
  pub lower_ends : EndsNonzero lower
  pub us : List ℤ
  pub ls : List ℤ
  pub whole : IsPrimitiveQuotient upper lower us ls
  pub form : t ≡ element_tree [] [] (quotient_terms us ls)
