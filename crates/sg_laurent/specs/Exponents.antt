-- Lists of exponents, one for each product.
--   unit_exponents n i      1 at i, 0 at the other places below n
use Rattle.std.specs.Prelude.{ℕ, zero, suc, List, [], ◌∷◌, ℤ, pos}

abbrev pub unit_exponents : ℕ → ℕ → List ℤ
unit_exponents zero i = []
unit_exponents (suc n) zero = pos 1 ∷ unit_exponents n n
unit_exponents (suc n) (suc i) = pos 0 ∷ unit_exponents n i
