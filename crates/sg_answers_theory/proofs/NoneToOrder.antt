-- No recurrence, over the tower of a list of expressions.
--   none_to_order      where all products are free or placed over the free ones, and each sum has its element: no formal recurrence, no
--                      recurrence in values
use Rattle.std.proofs.Common.{◌≡◌, ℕ, ◌⊎◌, inl, inr, ℤ, subst, List, [], ◌∷◌, Contains}
use Rattle.sg_algebra.specs.Coefficients.{Each}
use Rattle.sg_algebra.proofs.Place.{Pairwise}
use Rattle.sg_spec.specs.Tree.{Tree}
use Rattle.sg_spec.specs.Generators.{prods, sums}
use Rattle.sg_tower_theory.proofs.Formal.{Formal, Element, IsIndependent}
use Rattle.sg_value_theory.proofs.TowerOf.{IsTowerOf, at_places}
use Rattle.sg_value_theory.proofs.PointsOf.{HasValues, HasUnits}
use Rattle.sg_value_theory.proofs.OwnSums.{contains_cons, nothing}
use Rattle.sg_answers_theory.specs.Recurrences.{shifts, allowed_in, NoRec}
use Rattle.sg_answers_theory.proofs.Combinations.{NoRecurrence}
use Rattle.sg_answers_theory.proofs.WholeCoefficients.{no_late_relation}
use Rattle.sg_answers_theory.proofs.AtParameters.{letter}
use Rattle.sg_answers_theory.proofs.ElementsOver.{AgreesFrom, IsPlaced}
use Rattle.sg_answers_theory.proofs.NoRecurrences.{OnlyZero, no_recurrence}

pairwise_contains : {Y : Type 0} (P : Tree → Y → Type 0) (xs : List Tree) (ys : List Y) → Pairwise P xs ys → (t : Tree) → Contains xs t → (y : Y) × P t y
pairwise_contains P [] ys p t c = absurd (nothing c)
pairwise_contains P (x ∷ xs) [] p t c = absurd p
pairwise_contains {Y} P (x ∷ xs) (y ∷ ys) p t c = go (contains_cons x t xs c) (λ k. pairwise_contains P xs ys p.1 t k)
  where
    go : (x ≡ t) ⊎ Contains xs t → (Contains xs t → (y : Y) × P t y) → (y : Y) × P t y
    go (inl e) again = (y, subst (λ (z : Tree). P z y) e p.0)
    go (inr k) again = again k

module _ (f : Tree) (J : ℕ) (s : ℤ) (ps : List Tree) (F : Formal 1) (places : List ℕ) (known : List (Element F)) where
  abbrev es : List Tree
  es = shifts J f

  pub none_to_order : (is : IsTowerOf letter s ps (sums es) F places known) (units : Each (HasUnits letter) ps) (frees : Each (HasValues letter) (at_places (sums es) places)) (independent : IsIndependent F)
      → ((g : Tree) → Contains (prods es) g → IsPlaced letter s ps (at_places (sums es) places) F g)
      → (xs : List (Element F)) → Pairwise (AgreesFrom letter s ps (at_places (sums es) places) F) xs es → OnlyZero s ps (at_places (sums es) places) F is.follows units frees independent xs → NoRecurrence f J
  none_to_order is units frees independent products xs stand none =
      no_recurrence s ps (at_places (sums es) places) F is.follows units frees independent (allowed_in es) products
      (λ g c. pairwise_contains (λ g x. AgreesFrom letter s ps (at_places (sums es) places) F x g) (sums es) known is.known_agree g c) f J xs stand none

  -- with coefficients as lists of whole numbers
  pub no_relation : (is : IsTowerOf letter s ps (sums es) F places known) (units : Each (HasUnits letter) ps) (frees : Each (HasValues letter) (at_places (sums es) places)) (independent : IsIndependent F)
      → ((g : Tree) → Contains (prods es) g → IsPlaced letter s ps (at_places (sums es) places) F g)
      → (xs : List (Element F)) → Pairwise (AgreesFrom letter s ps (at_places (sums es) places) F) xs es → OnlyZero s ps (at_places (sums es) places) F is.follows units frees independent xs → NoRec f J
  no_relation is units frees independent products xs stand none =
      no_late_relation s ps (at_places (sums es) places) F is.follows units frees independent (allowed_in es) products
      (λ g c. pairwise_contains (λ g x. AgreesFrom letter s ps (at_places (sums es) places) F x g) (sums es) known is.known_agree g c) f J xs stand none
