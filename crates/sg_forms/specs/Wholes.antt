-- The coefficients of canonical forms.
--   IsWhole u l     u over l is the one quotient of polynomials with whole coefficients as which some rational function other than 0 is written
--   IsNormalOver gs h     h is a canonical form over the sums gs with such coefficients
use Rattle.std.specs.Prelude.{◌≡◌, List}
use Rattle.sg_algebra.proofs.Value.{Value, zero_value}
use Rattle.sg_spec.specs.Tree.{Tree}
use Rattle.sg_spec.specs.Canonical.{Plane}
use Rattle.sg_build.specs.Forms.{IsWholeForm}
use Rattle.sg_forms_theory.specs.Forms.{IsFormOver}

abbrev pub IsWhole : Plane → Plane → Type 0
IsWhole u l = (x : Value 1) × ¬ (x ≡ zero_value) × IsWholeForm x u l

abbrev pub IsNormalOver : List Tree → Tree → Type 0
IsNormalOver gs h = IsFormOver IsWhole gs h
