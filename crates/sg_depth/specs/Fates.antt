-- What the next sum is over those before it. ρ says which formal tower it is and which of its elements an item stands for.
--   IsFate facts ρ places known o    new, and the tower with one more sum stands over one more; or expressed by the element, and the tower stands over one more
use Rattle.std.specs.Prelude.{ℕ, suc, List, [], ◌∷◌, ◌++◌, length, map}
use Rattle.sg_tower.specs.Elements.{Reading, IsNewSum, raised}
use Rattle.sg_limits.specs.declared.inspection.Facts.{Facts}
use Rattle.sg_depth.specs.declared.fate.Fate.{Fate}
use Rattle.sg_depth.specs.declared.fate.Fate.TheVariants.{New, Known}
use Rattle.sg_depth.specs.Building.{IsBuilt, IsOwnOf}

abbrev pub IsFate : {d : ℕ} {E : Type 0} → Facts → Reading d E → List ℕ → List E → Fate E → Type 0
IsFate {d} {E} facts ρ places known (New b) =
    IsNewSum ρ b × ((own : List E) → IsOwnOf ρ b own → (r : ℕ) → IsBuilt facts (suc r) ρ places known → IsBuilt facts r (raised ρ b) (places ++ length known ∷ []) (map (λ e. e ∷ []) known ++ own ∷ []))
IsFate {d} {E} facts ρ places known (Known h) = (r : ℕ) → IsBuilt facts (suc r) ρ places known → IsBuilt facts r ρ places (known ++ h ∷ [])
