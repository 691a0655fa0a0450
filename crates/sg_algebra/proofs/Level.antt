-- The tower of fields: classes of fractions of whole numbers, then classes of fractions of polynomials over the level below.
--   Level d      the field at level d
--   K d          its elements
--   level_path   its equality is ≡
--   level_inv-O  the inverse of zero is zero
--   level_set    its elements form a set
use Rattle.std.proofs.Common.{◌≡◌, ℕ, zero, suc}
use mathlib.Core.Quot.{Quot-set}
use Rattle.sg_algebra.specs.Ring.{Field}
use Rattle.sg_algebra.proofs.Whole.{ℤD}
use Rattle.sg_algebra.proofs.Field.{domain}
use Rattle.sg_algebra.proofs.Degree.{PolyD}
use Rattle.sg_algebra.proofs.Ratio.{RatioF, ratio_inv-O}

abbrev pub Level : ℕ → Field
Level zero = RatioF ℤD
Level (suc d) = RatioF (PolyD (domain (Level d)))

abbrev pub K : ℕ → Type 0
K d = (Level d).R.A

pub level_path : (d : ℕ) (x y : K d) → (Level d).R.◌≈◌ x y → x ≡ y
level_path zero x y e = e
level_path (suc d) x y e = e

pub level_inv-O : (d : ℕ) → (Level d).inv (Level d).R.O ≡ (Level d).R.O
level_inv-O zero = ratio_inv-O ℤD
level_inv-O (suc d) = ratio_inv-O (PolyD (domain (Level d)))

pub level_set : (d : ℕ) → IsSet (K d)
level_set zero = Quot-set
level_set (suc d) = Quot-set
