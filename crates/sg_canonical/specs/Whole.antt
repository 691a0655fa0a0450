-- Quotients of polynomials with whole coefficients.
--   IsSmall c         the size of c is at most 2^100, so that no step on it is wide
--   common_divisor cs d    of the whole numbers cs and d
--   multiplied d p    the values p, each times the whole number d
--   wholes cs         the whole numbers cs as values
--   IsCommon p cs d     the fractions p, the last first, are the whole numbers cs over d, which is above 0; they have no common divisor
--   IsPrimitiveQuotient p q us ls    the polynomials with the coefficients p and q, the lowest first, times the leading coefficient of ls, which is above 0, are those
--                       with the whole coefficients us and ls, the highest first; they have no common divisor
use Rattle.std.specs.Prelude.{◌≡◌, ℕ, ◌≤◌, ℤ, pos, ◌<ℤ◌, unsigned_abs, List, [], ◌∷◌, ◌++◌, map, reverse}
use Rattle.sg_algebra.specs.Divisor.{gcd}
use Rattle.sg_algebra.proofs.Rational.{whole_value}
use Rattle.sg_algebra.proofs.Value.{Value, ◌*ᵛ◌}
use Rattle.sg_num.specs.declared.rat.Rat.{Rat}
use Rattle.sg_num.specs.Value.{number}
use Rattle.sg_spec.specs.Canonical.{content, leading, plane_of}

abbrev pub IsSmall : ℤ → Type 0
IsSmall c = unsigned_abs c ≤ 1267650600228229401496703205376

abbrev pub multiplied : ℤ → List (Value 0) → List (Value 0)
multiplied d p = map (λ v. whole_value 0 d *ᵛ v) p

abbrev pub common_divisor : List ℤ → ℕ → ℕ
common_divisor [] d = d
common_divisor (c ∷ cs) d = gcd (unsigned_abs c) (common_divisor cs d)

abbrev pub wholes : List ℤ → List (Value 0)
wholes cs = map (whole_value 0) cs

pub record IsCommon (p : List Rat) (cs : List ℤ) (d : ℤ) : Type 0 where
  pub positive : pos 0 <ℤ d
  pub value : wholes cs ≡ reverse (multiplied d (map number p))
  pub lowest : common_divisor cs (unsigned_abs d) ≡ 1

pub record IsPrimitiveQuotient (p q : List (Value 0)) (us ls : List ℤ) : Type 0 where
  pub upper : wholes us ≡ reverse (multiplied (leading (plane_of ls)) p)
  pub lower : wholes ls ≡ reverse (multiplied (leading (plane_of ls)) q)
  pub positive : pos 0 <ℤ leading (plane_of ls)
  pub primitive : content (us ++ ls) ≡ 1
