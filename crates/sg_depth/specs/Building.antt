-- How far a tower over the sums of a command has come, and what its next sum is. ρ says which formal tower it is and which of its elements an item stands for.
--   IsBuilt facts r ρ places known   the tower stands over all but the last r of the sums: its own are those at the places, and known are the elements of all before these
--   earlier facts known                the sums whose elements are known
--   IsOwnOf ρ b own                    own is the new sum on top, which grows by b
--   IsGrown ρ b places known ρ' ..     the tower with the new sum, the places and the known elements with it
--   IsPlacedNext facts ρ places known body b   b is the difference of the next sum, which has this body
--   HasStart facts ρ places known y            y has a value at the start
--   IsConstant facts ρ places known g y c      c is what y lacks there of the value of the sum g
--   HasAtStart, HasNoneAtStart facts ρ vs y     y has this value at the start, has none, where the sums of the tower have the values vs
--   IsRaisedBy ρ c y h                         h is y and the constant c
--   IsLevelledTo facts ρ places known g y h    h is y and the constant that y lacks
--   AreStartValues facts places vs             the values at the start of the sums at the places
use Rattle.std.specs.Prelude.{◌≡◌, ℕ, ◌≤ℤ◌, List, [], ◌∷◌, ◌++◌, length, map, take, All}
use Rattle.sg_algebra.proofs.Place.{Pairwise}
use Rattle.sg_algebra.proofs.Value.{Value, ◌-ᵛ◌}
use Rattle.sg_spec.specs.Tree.{Tree}
use Rattle.sg_spec.specs.Worth.{HasWorth}
use Rattle.sg_tower_theory.proofs.Formal.{elements, shifted}
use Rattle.sg_value_theory.proofs.Elements.{Point, HasElement}
use Rattle.sg_value_theory.proofs.TreePoints.{IsPointOf}
use Rattle.sg_value_theory.proofs.TowerOf.{at_places}
use Rattle.sg_depth_theory.proofs.Standing.{Stands, IsOwn, IsStep, IsLevelled}
use Rattle.sg_tower.specs.Elements.{Reading, Same, raised}
use Rattle.sg_build.specs.Letters.{letter, HasNoLetter}
use Rattle.sg_build.specs.Points.{IsPointAt}
use Rattle.sg_limits.specs.declared.inspection.Facts.{Facts}
use Rattle.sg_depth.specs.Commands.{sums_of, prods_of}

pub record IsBuilt {d : ℕ} {E : Type 0} (facts : Facts) (r : ℕ) (ρ : Reading d E) (places : List ℕ) (known : List E) : Type 0 where
  pub no_letter : All (HasNoLetter d) (sums_of facts)
  pub state : Stands (letter d) facts.start (prods_of facts) (sums_of facts) r ρ.formal places (map ρ.of known)

abbrev pub earlier : {E : Type 0} → Facts → List E → List Tree
earlier facts known = take (length known) (sums_of facts)

abbrev pub IsOwnOf : {d : ℕ} {E : Type 0} → Reading d E → E → List E → Type 0
IsOwnOf ρ b own = IsOwn ρ.formal (ρ.of b) (map ρ.of own)

pub record IsGrown {d : ℕ} {E : Type 0} (ρ : Reading d E) (b : E) (places : List ℕ) (known : List E) (ρ' : Reading d (List E)) (places' : List ℕ) (known' : List (List E)) : Type 0 where
  pub reading_is : ρ' ≡ raised ρ b
  pub places_are : places' ≡ places ++ length known ∷ []
  pub own : List E
  pub known_are : known' ≡ map (λ e. e ∷ []) known ++ own ∷ []
  pub own_is : IsOwnOf ρ b own

abbrev pub IsPlacedNext : {d : ℕ} {E : Type 0} → Facts → Reading d E → List ℕ → List E → Tree → E → Type 0
IsPlacedNext {d} facts ρ places known body b = IsStep (letter d) facts.start (prods_of facts) (earlier facts known) ρ.formal places body (ρ.of b)

abbrev pub IsLevelledTo : {d : ℕ} {E : Type 0} → Facts → Reading d E → List ℕ → List E → Tree → E → E → Type 0
IsLevelledTo {d} facts ρ places known g y h = IsLevelled (letter d) facts.start (prods_of facts) (earlier facts known) ρ.formal places g (ρ.of y) (ρ.of h)

abbrev pub HasStart : {d : ℕ} {E : Type 0} → Facts → Reading d E → List ℕ → List E → E → Type 0
HasStart {d} facts ρ places known y =
    (p : Point d) → p.variable ≡ facts.start → IsPointOf (letter d) (prods_of facts) (at_places (earlier facts known) places) p → (v : Value d) × HasElement ρ.formal p (ρ.of y) v

abbrev pub HasAtStart : {d : ℕ} {E : Type 0} → Facts → Reading d E → List (Value d) → E → Value d → Type 0
HasAtStart {d} facts ρ vs y v = (p : Point d) → IsPointAt ρ.formal facts.start vs p → HasElement ρ.formal p (ρ.of y) v

abbrev pub HasNoneAtStart : {d : ℕ} {E : Type 0} → Facts → Reading d E → List (Value d) → E → Type 0
HasNoneAtStart {d} facts ρ vs y = (p : Point d) → IsPointAt ρ.formal facts.start vs p → (v : Value d) → ¬ HasElement ρ.formal p (ρ.of y) v

abbrev pub IsRaisedBy : {d : ℕ} {E : Type 0} → Reading d E → Value d → E → E → Type 0
IsRaisedBy ρ c y h = Same ρ (ρ.of h) ((elements ρ.formal).◌⊞◌ (ρ.of y) ((shifted ρ.formal).κ.on c))

abbrev pub AreStartValues : {d : ℕ} → Facts → List ℕ → List (Value d) → Type 0
AreStartValues {d} facts places vs = Pairwise (λ g v. HasWorth (letter d) g facts.start v) (at_places (sums_of facts) places) vs

pub record IsConstant {d : ℕ} {E : Type 0} (facts : Facts) (ρ : Reading d E) (places : List ℕ) (known : List E) (g : Tree) (y : E) (c : Value d) : Type 0 where
  pub point : Point d
  pub at_start : point.variable ≡ facts.start
  pub is_point : IsPointOf (letter d) (prods_of facts) (at_places (earlier facts known) places) point
  pub target : Value d
  pub found : Value d
  pub first : HasWorth (letter d) g facts.start target
  pub here_has : HasElement ρ.formal point (ρ.of y) found
  pub difference : c ≡ target -ᵛ found
