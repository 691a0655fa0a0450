-- Where a part is 0.
--   IsZero z p l         what is told of the polynomial p from the limit l on
use Rattle.std.specs.Prelude.{◌<◌, ◌≤◌, ◌≤ℤ◌, ℤ}
use Rattle.sg_spec.specs.Parts.{Plane, leading, cauchy}
use Rattle.sg_parts.specs.Planes.{VanishesAt, IsLeastZero}
use Rattle.sg_parts.specs.declared.zeros.Zero.{Zero}
use Rattle.sg_parts.specs.declared.zeros.Zero.TheVariants.{Far, At, Nowhere}

abbrev pub IsZero : Zero → Plane → ℤ → Type 0
IsZero Far p l = 4096 < cauchy (leading p)
IsZero (At m) p l = (cauchy (leading p) ≤ 4096) × IsLeastZero p l m
IsZero Nowhere p l = (cauchy (leading p) ≤ 4096) × ((m : ℤ) → l ≤ℤ m → VanishesAt p m → ⊥)
