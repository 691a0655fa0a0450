-- What is summed over the sums of a command, and what is answered. ρ says which formal tower it is and which of its elements an item stands for.
--   IsSummand facts f a            f is built over the sums and holds no parameter, it has a value from a on, and a isn't past the start
--   IsClosedForm facts f a h       h is a closed form of the sum of f from a on, whatever further expressions the sums are from
--   IsCanonicalForm facts h        h is the canonical form of an element over new sums
--   IsPrintedForm facts h          h is printed as it is, where the sums are
--   HasNoClosedForm facts f        no expression over the sums telescopes f from any point on
--   IsAnswer facts f a o           the closed form with all this, or that there is none
--   IsStartPoint facts f places p  at the point p of the tower f the variable is the start, and its sums have the values of those at the places
--   HasStart facts ρ places y      the item y has a value at the start; IsStartValue: this one
--   IsSumBefore facts f a u        u is the sum of f from a to the number before the start
--   IsTotal facts ρ places f a g y y is g one place further, and the constant by which the sum before the start is more than g there
use Rattle.std.specs.Prelude.{◌≡◌, ℕ, ℤ, pos, ◌-ℤ◌, ◌≤ℤ◌, Option, Some, None, false, List, ◌∷◌}
use Rattle.sg_algebra.specs.Coefficients.{Each}
use Rattle.sg_algebra.proofs.Value.{Value, ◌-ᵛ◌}
use Rattle.sg_spec.specs.Tree.{Tree, sum_from}
use Rattle.sg_spec.specs.Canonical.{IsCanonicalOver}
use Rattle.sg_spec.specs.Closed.{Closed}
use Rattle.sg_spec.specs.Generators.{Over, sums, prods, start}
use Rattle.sg_spec.specs.Printing.{InForm}
use Rattle.sg_spec.specs.Telescoping.{Tele}
use Rattle.sg_spec.specs.Worth.{HasWorth}
use Rattle.sg_expr.specs.Tree.{tree_of}
use Rattle.sg_expr.specs.declared.tree.Expr.{Expr}
use Rattle.sg_tower_theory.proofs.Formal.{elements, shifted}
use Rattle.sg_value_theory.proofs.Elements.{Point, HasElement}
use Rattle.sg_value_theory.proofs.TreePoints.{IsPointOf}
use Rattle.sg_value_theory.proofs.TowerOf.{BuiltOver, at_places}
use Rattle.sg_tower.specs.Elements.{Reading, Same}
use Rattle.sg_limits.specs.declared.inspection.Facts.{Facts}
use Rattle.sg_build.specs.Letters.{letter, HasNoLetter}
use Rattle.sg_depth.specs.Commands.{sums_of, prods_of}
use Rattle.sg_forms_theory.specs.Sums.{AreNew}

pub record IsSummand (facts : Facts) (f : Tree) (a : ℤ) : Type 0 where
  pub built : BuiltOver (prods_of facts) (sums_of facts) f
  pub no_letter : HasNoLetter 0 f
  pub values : (k : ℤ) → a ≤ℤ k → (v : Value 0) × HasWorth (letter 0) f k v
  pub below : a ≤ℤ facts.start

abbrev pub IsClosedForm : Facts → Tree → ℤ → Tree → Type 0
IsClosedForm facts f a h =
    (others : List Tree) → facts.start ≡ start (f ∷ others) a → prods_of facts ≡ prods (f ∷ others) → sums_of facts ≡ sums (f ∷ others) → Closed f others a h facts.start

abbrev pub IsCanonicalForm : Facts → Tree → Type 0
IsCanonicalForm facts h = (gs : List Tree) × AreNew (sums_of facts) gs × IsCanonicalOver (prods_of facts) gs h

abbrev pub IsPrintedForm : Facts → Tree → Type 0
IsPrintedForm facts h = Each (InForm false false) (sums_of facts) → InForm false false h

abbrev pub HasNoClosedForm : Facts → Tree → Type 0
HasNoClosedForm facts f = (e : Tree) → Over (sums_of facts) e → ¬ Tele e f

abbrev pub IsAnswer : Facts → Tree → ℤ → Option Expr → Type 0
IsAnswer facts f a (Some h) = IsClosedForm facts f a (tree_of h) × IsCanonicalForm facts (tree_of h) × IsPrintedForm facts (tree_of h)
IsAnswer facts f a None = HasNoClosedForm facts f

abbrev pub IsSumBefore : Facts → Tree → ℤ → Value 0 → Type 0
IsSumBefore facts f a u = HasWorth (letter 0) (sum_from a f) (facts.start -ℤ pos 1) u

pub record IsStartPoint (facts : Facts) (places : List ℕ) (p : Point 0) : Type 0 where
  pub at_start : p.variable ≡ facts.start
  pub is_point : IsPointOf (letter 0) (prods_of facts) (at_places (sums_of facts) places) p

module _ {E : Type 0} (facts : Facts) (ρ : Reading 0 E) (places : List ℕ) where
  abbrev pub HasStart : E → Type 0
  HasStart y = (p : Point 0) → IsStartPoint facts places p → (v : Value 0) × HasElement ρ.formal p (ρ.of y) v

  abbrev pub IsStartValue : E → Value 0 → Type 0
  IsStartValue y v = (p : Point 0) × IsStartPoint facts places p × HasElement ρ.formal p (ρ.of y) v

  pub record IsTotal (f : Tree) (a : ℤ) (g y : E) : Type 0 where
    pub before : Value 0
    pub found : Value 0
    pub is_before : IsSumBefore facts f a before
    pub is_found : IsStartValue g found
    pub sum_is : Same ρ (ρ.of y) ((elements ρ.formal).◌⊞◌ ((shifted ρ.formal).σ.on (ρ.of g)) ((shifted ρ.formal).κ.on (before -ᵛ found)))
