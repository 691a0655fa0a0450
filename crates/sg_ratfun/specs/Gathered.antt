-- Lists of fractions of polynomials.
--   coefficients list     the coefficients of each numerator and each denominator, in turn
--   ItemsAt val list args values    each item of the list has at args the value that stands in its place, which isn't 0 where the item isn't
use Rattle.std.specs.Prelude.{◌≡◌, ℕ, List, [], ◌∷◌, ◌++◌, ℤ}
use Rattle.sg_algebra.proofs.Value.{Value, zero_value}
use Rattle.sg_algebra.proofs.Place.{Pairwise, HasValue}
use Rattle.sg_num.specs.Value.{number}
use Rattle.sg_num.specs.declared.rat.Rat.{Rat}

abbrev pub coefficients : {K : Type 0} → List (List K × List K) → List K
coefficients [] = []
coefficients (r ∷ rs) = r.0 ++ (r.1 ++ coefficients rs)

abbrev pub ItemsAt : {E : Type 0} {d : ℕ} → (E → Value d) → List E → List ℤ → List Rat → Type 0
ItemsAt {E} {d} val list args values = Pairwise (λ x r. HasValue d (val x) args (number r) × (¬ (val x ≡ zero_value) → ¬ (number r ≡ zero_value))) list values
