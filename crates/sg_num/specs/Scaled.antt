-- Polynomials in another unit.
--   scaled R c p     for the polynomial with the coefficients p, of degree n, those of c^n p(k / c): the coefficient at i times c^(n - i)
use Rattle.std.specs.Prelude.{List, [], ◌∷◌, length}
use Rattle.sg_algebra.specs.Ring.{Ring}
use Rattle.sg_algebra.proofs.Ring.{pow}

module _ (R : Ring) where
  open R use {A, ◌⊠◌}

  abbrev pub scaled : A → List A → List A
  scaled c [] = []
  scaled c (x ∷ p) = (x ⊠ pow R c (length p)) ∷ scaled c p
