-- Numbers that are added to a list.
--   IsKept P v old new       v is added at the end exactly where P holds
--   IsQuotientKept c v old new   the quotient of v by c is added at the end, where there is a whole one
use Rattle.std.specs.Prelude.{◌≡◌, ◌≢◌, List, [], ◌∷◌, ◌++◌, ℤ, ◌*ℤ◌, ◌⊎◌}

abbrev pub IsKept : Type 0 → ℤ → List ℤ → List ℤ → Type 0
IsKept P v old new = (P × (new ≡ old ++ v ∷ [])) ⊎ ((¬ P) × (new ≡ old))

abbrev pub IsQuotientKept : ℤ → ℤ → List ℤ → List ℤ → Type 0
IsQuotientKept c v old new = ((q : ℤ) × (q *ℤ c ≡ v) × (new ≡ old ++ q ∷ [])) ⊎ (((q : ℤ) → q *ℤ c ≢ v) × (new ≡ old))
