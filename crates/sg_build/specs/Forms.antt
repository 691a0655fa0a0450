-- The quotient of polynomials with whole coefficients as which a rational function over the fractions is written.
--   IsWholeForm x u l    x is the quotient of two polynomials in lowest terms, the lower one monic; times one whole number these are u and l, which have whole
--                        coefficients without common divisor, the leading one of l above 0
--   form_of_rats         this at the depth of the fractions
use Rattle.std.specs.Prelude.{◌≡◌, ℕ, zero, suc, ℤ, List}
use Rattle.sg_algebra.proofs.Polynomial.{EndsNonzero}
use Rattle.sg_algebra.proofs.Value.{Value, over_value}
use Rattle.sg_ratfun.specs.Reduced.{IsReduced}
use Rattle.sg_spec.specs.Canonical.{Plane, plane_of}
use Rattle.sg_canonical.specs.Whole.{IsPrimitiveQuotient}

pub record IsWholeForm (x : Value 1) (u l : Plane) : Type 0 where
  pub upper : List (Value 0)
  pub lower : List (Value 0)
  pub quotient : x ≡ over_value upper lower
  pub reduced : IsReduced upper lower
  pub upper_ends : EndsNonzero upper
  pub lower_ends : EndsNonzero lower
  pub us : List ℤ
  pub ls : List ℤ
  pub whole : IsPrimitiveQuotient upper lower us ls
  pub upper_is : u ≡ plane_of us
  pub lower_is : l ≡ plane_of ls

abbrev pub form_of_rats : (d : ℕ) → Value (suc d) → Plane → Plane → Type 0
form_of_rats zero x u l = IsWholeForm x u l
form_of_rats (suc d) x u l = ⊥
