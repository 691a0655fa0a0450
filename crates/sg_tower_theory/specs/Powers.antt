-- Products of powers with whole exponents.
--   power F x e        x to the power e, x other than 0: for negative e a power of the inverse
--   powers F xs es     the product of the powers of the elements xs by the exponents es
use Rattle.std.specs.Prelude.{suc, List, [], ◌∷◌, ℤ, pos, negsuc}
use Rattle.sg_algebra.specs.Ring.{Field}
use Rattle.sg_algebra.proofs.Ring.{pow}

abbrev pub power : (F : Field) → F.R.A → ℤ → F.R.A
power F x (pos n) = pow F.R x n
power F x (negsuc n) = pow F.R (F.inv x) (suc n)

abbrev pub powers : (F : Field) → List F.R.A → List ℤ → F.R.A
powers F [] es = F.R.I
powers F (x ∷ xs) [] = F.R.I
powers F (x ∷ xs) (e ∷ es) = F.R.◌⊠◌ (power F x e) (powers F xs es)
