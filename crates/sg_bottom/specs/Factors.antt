-- The factors of products, where v says which value a constant has.
--   HasZero v αs       one of the factors is 0
--   AreNonzero v αs    none is
use Rattle.std.specs.Prelude.{◌≡◌, ℕ, suc, List, [], ◌∷◌, ◌⊎◌}
use Rattle.sg_algebra.proofs.Value.{Value, zero_value}
use Rattle.sg_ratfun.specs.Fractions.{ratio}

module _ {K : Type 0} {d : ℕ} (v : K → Value d) where
  abbrev pub HasZero : List (List K × List K) → Type 0
  HasZero [] = ⊥
  HasZero (α ∷ αs) = (ratio v α ≡ zero_value) ⊎ HasZero αs

  abbrev pub AreNonzero : List (List K × List K) → Type 0
  AreNonzero αs = ¬ HasZero αs
