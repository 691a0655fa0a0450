-- The normal form of a polynomial in the variable and the parameter.
--   row_gcd c p, plane_gcd c p      the greatest common divisor of c and of all coefficients
--   row_lead, plane_lead            the last coefficient other than 0, of the last row that has one; 0 where there is none
--   IsDividedBy g q p               q has at the powers j of the variable and i of the parameter the g-th part of what p has at i and j
--   IsSomePlane p                   a coefficient isn't 0
--   IsLeading q i j                 no coefficient other than 0 stands after the one at i and j, which isn't 0
--   IsNormal q p                    q is p in its normal form: over the powers of the variable rows over the powers of the parameter, without a
--                                   common divisor, and with a leading coefficient above 0; the zero polynomial is its own
use Rattle.std.specs.Prelude.{◌≡◌, ◌≢◌, ℕ, ◌<◌, List, [], ◌∷◌, ℤ, pos, ◌*ℤ◌, ◌<ℤ◌, unsigned_abs}
use Rattle.std.specs.Int.{◌∣◌}
use Rattle.sg_algebra.specs.Divisor.{gcd}
use Rattle.sg_spec.specs.Parts.{Plane}
use Rattle.sg_parts.specs.Planes.{coefficient, unless_none}

abbrev pub row_gcd : ℕ → List ℤ → ℕ
row_gcd g [] = g
row_gcd g (c ∷ p) = row_gcd (gcd g (unsigned_abs c)) p

abbrev pub plane_gcd : ℕ → Plane → ℕ
plane_gcd g [] = g
plane_gcd g (row ∷ p) = plane_gcd (row_gcd g row) p

abbrev pub row_lead : List ℤ → ℤ
row_lead [] = pos 0
row_lead (c ∷ p) = unless_none (row_lead p) c

abbrev pub plane_lead : Plane → ℤ
plane_lead [] = pos 0
plane_lead (row ∷ p) = unless_none (plane_lead p) (row_lead row)

abbrev pub IsDividedBy : ℤ → Plane → Plane → Type 0
IsDividedBy g q p = (i j : ℕ) → coefficient q j i *ℤ g ≡ coefficient p i j

abbrev pub IsSomePlane : Plane → Type 0
IsSomePlane p = (i : ℕ) × (j : ℕ) × (coefficient p i j ≢ pos 0)

pub record IsLeading (q : Plane) (i j : ℕ) : Type 0 where
  pub some : coefficient q i j ≢ pos 0
  pub last_row : (k l : ℕ) → i < k → coefficient q k l ≡ pos 0
  pub last : (l : ℕ) → j < l → coefficient q i l ≡ pos 0

pub record IsNormal (q p : Plane) : Type 0 where
  pub factor : ℤ
  pub some : factor ≢ pos 0
  pub divided : IsDividedBy factor q p
  pub primitive : IsSomePlane p → (d : ℕ) → ((i j : ℕ) → d ∣ unsigned_abs (coefficient q i j)) → d ≡ 1
  pub positive : (i j : ℕ) → IsLeading q i j → pos 0 <ℤ coefficient q i j
