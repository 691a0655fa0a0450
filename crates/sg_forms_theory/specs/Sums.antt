-- What the sums of a list are over those before them, and the simplest form of an expression over them, where Q says which polynomials may stand above and below
-- in a coefficient.
--   IsFree before g               the sum g is new: no expression over the sums before, which may stand in divisors, agrees with g from any point on
--   AreNew ss gs                  the sums gs are some of the sums ss, in their order, each new over all sums of ss before it
--   IsEqualFrom s h f             the expressions h and f have one value at every place from s on
--   IsExpressed Q s before gs g h     h is g in canonical form over the sums gs, and so over the sums before
--   frees ss os                   the new ones of the sums ss: those for which no expression stands in the list os
--   IsStanding Q s before gs g o  g is new, or expressed by the expression that is there
--   AreStandings Q s ss os        so for each sum of ss and those before it, of which the expressions hold the new ones alone
--   IsSimplest Q s ss f h         h is f in canonical form over the new ones of the sums ss, from s on; no other such form agrees with f from any point on
use Rattle.std.specs.Prelude.{◌≡◌, ℕ, ◌<◌, ℤ, pos, ◌≤ℤ◌, Option, Some, None, List, [], ◌∷◌, length, take, get_or}
use Rattle.sg_algebra.specs.Coefficients.{Each}
use Rattle.sg_spec.specs.Tree.{Tree, here}
use Rattle.sg_spec.specs.Value.{val, SameValue}
use Rattle.sg_spec.specs.Generators.{Over}
use Rattle.sg_spec.specs.Telescoping.{Agree}
use Rattle.sg_spec.specs.Canonical.{Plane}
use Rattle.sg_value_theory.proofs.TowerOf.{Ascending, at_places}
use Rattle.sg_forms_theory.specs.Forms.{IsFormOver}

abbrev pub IsFree : List Tree → Tree → Type 0
IsFree before g = (e : Tree) → Over before e → ¬ Agree e g

pub record AreNew (ss gs : List Tree) : Type 0 where
  pub places : List ℕ
  pub ascending : Ascending places
  pub inside : Each (λ i. i < length ss) places
  pub are : gs ≡ at_places ss places
  pub new : Each (λ i. IsFree (take i ss) (get_or ss i here)) places

abbrev pub IsEqualFrom : ℤ → Tree → Tree → Type 0
IsEqualFrom s h f = (k : ℤ) → s ≤ℤ k → SameValue (val h (pos 0) k) (val f (pos 0) k)

abbrev pub frees : List Tree → List (Option Tree) → List Tree
frees [] os = []
frees (g ∷ gs) [] = []
frees (g ∷ gs) (None ∷ os) = g ∷ frees gs os
frees (g ∷ gs) (Some h ∷ os) = frees gs os

module _ (Q : Plane → Plane → Type 0) (s : ℤ) where
  pub record IsExpressed (before gs : List Tree) (g h : Tree) : Type 0 where
    pub over : Over before h
    pub form : IsFormOver Q gs h
    pub same : IsEqualFrom s h g

  abbrev pub IsStanding : List Tree → List Tree → Tree → Option Tree → Type 0
  IsStanding before gs g None = IsFree before g
  IsStanding before gs g (Some h) = IsExpressed before gs g h

  pub record AreStandings (ss : List Tree) (os : List (Option Tree)) : Type 0 where
    pub count : length os ≡ length ss
    pub each : (i : ℕ) → i < length ss → IsStanding (take i ss) (frees (take i ss) (take i os)) (get_or ss i here) (get_or os i None)

  pub record IsSimplest (ss : List Tree) (f h : Tree) : Type 0 where
    pub standings : List (Option Tree)
    pub are : AreStandings ss standings
    pub over : Over ss h
    pub form : IsFormOver Q (frees ss standings) h
    pub same : IsEqualFrom s h f
    pub only : (e : Tree) → IsFormOver Q (frees ss standings) e → Agree e f → e ≡ h
