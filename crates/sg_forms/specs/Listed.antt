-- Expressions over the sums of a command, in the tower over these. ρ says which formal tower it is and which of its elements an item stands for.
--   IsListed facts f             f is built over the sums and holds no parameter, and it has a value from the start on
--   IsItem facts ρ known f x     the item x has the values of f wherever the known items have those of the sums
--   IsSimplestOf facts f h       h is the simplest form of f
--   IsPrintedForm facts h        h is printed as it is, where the sums are
--   IsPrintedMark facts o        so is what is told of a sum
--   IsSaid facts ρ places x h    h is the expression of the item x over the sums at the places: it has its values, and it is printed as it is, where they are
--   IsCheck facts f g b          whether g telescopes f from the start on; else the equation fails beyond every point
--   AreTelling facts places sts  what is told of the sums, of which the new ones are those at the places
--   IsTelling facts places i n sts     so of the first i sums, of which the first n places are
use Rattle.std.specs.Prelude.{◌≡◌, ℕ, ℤ, ◌≤ℤ◌, List, [], ◌++◌, Option, None, Some, Bool, true, false}
use Rattle.sg_algebra.specs.Coefficients.{Each}
use Rattle.sg_algebra.proofs.Value.{Value}
use Rattle.sg_spec.specs.Tree.{Tree}
use Rattle.sg_spec.specs.Printing.{InForm}
use Rattle.sg_spec.specs.Worth.{HasWorth}
use Rattle.sg_value_theory.proofs.TowerOf.{BuiltOver, at_places}
use Rattle.sg_tower.specs.Elements.{Reading}
use Rattle.sg_limits.specs.declared.inspection.Facts.{Facts}
use Rattle.sg_build.specs.Letters.{letter, HasNoLetter}
use Rattle.sg_build.specs.Points.{IsPlaced}
use Rattle.sg_build.specs.Forms.{form_of_rats}
use Rattle.sg_build.specs.Expressions.{IsExpression, ExpressesOver, IsPrintedAlike}
use Rattle.sg_depth.specs.Commands.{sums_of, prods_of}
use Rattle.sg_forms_theory.specs.Sums.{IsSimplest}
use Rattle.sg_forms_theory.specs.Checks.{TelescopesFrom, FailsBeyond}
use Rattle.sg_forms_theory.proofs.Marking.{IsMarked, AreMarked}
use Rattle.sg_forms.specs.Wholes.{IsWhole}
use Rattle.sg_forms.specs.Marks.{marks_of}
use Rattle.sg_forms.specs.declared.frees.Standing.{Standing}

pub record IsListed (facts : Facts) (f : Tree) : Type 0 where
  pub built : BuiltOver (prods_of facts) (sums_of facts) f
  pub no_letter : HasNoLetter 0 f
  pub values : (k : ℤ) → facts.start ≤ℤ k → (v : Value 0) × HasWorth (letter 0) f k v

abbrev pub IsItem : {E : Type 0} → Facts → Reading 0 E → List E → Tree → E → Type 0
IsItem facts ρ known f x = IsPlaced (letter 0) ρ (prods_of facts ++ sums_of facts) known f x

abbrev pub IsSimplestOf : Facts → Tree → Tree → Type 0
IsSimplestOf facts f h = IsSimplest IsWhole facts.start (sums_of facts) f h

abbrev pub IsPrintedForm : Facts → Tree → Type 0
IsPrintedForm facts h = Each (InForm false false) (sums_of facts) → InForm false false h

abbrev pub IsPrintedMark : Facts → Option Tree → Type 0
IsPrintedMark facts None = Unit {0}
IsPrintedMark facts (Some h) = IsPrintedForm facts h

pub record IsSaid {E : Type 0} (facts : Facts) (ρ : Reading 0 E) (places : List ℕ) (x : E) (h : Tree) : Type 0 where
  pub expression : IsExpression (form_of_rats 0) ρ.formal (ρ.of x) [] (at_places (sums_of facts) places) h
  pub says : ExpressesOver (letter 0) ρ.formal (ρ.of x) [] (at_places (sums_of facts) places) h
  pub printed : IsPrintedAlike 0 [] (at_places (sums_of facts) places) h

abbrev pub IsCheck : Facts → Tree → Tree → Bool → Type 0
IsCheck facts f g true = TelescopesFrom facts.start g f
IsCheck facts f g false = FailsBeyond g f

abbrev pub AreTelling : Facts → List ℕ → List Standing → Type 0
AreTelling facts places sts = AreMarked IsWhole facts.start (sums_of facts) places (marks_of sts)

abbrev pub IsTelling : Facts → List ℕ → ℕ → ℕ → List Standing → Type 0
IsTelling facts places i n sts = IsMarked IsWhole facts.start (sums_of facts) places i n (marks_of sts)
