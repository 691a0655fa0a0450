-- What is answered of the expressions of a command.
--   IsFirstSimplified a es h     h is the simplest form of the first expression over the sums of all, from the start of all from a on
--   HasOneForm es h              for expressions over the same sums the simplest form is h exactly where they agree with the first expression from some point on
--   FirstTelescopes a es         the second expression telescopes the first at every place from the start of all from a on
--   FirstFails es                beyond every point it fails somewhere
--   IsPrinted, ArePrinted        the expressions that are told are printed as they are
--   AreTold s ss sts             what is told of the sums ss: each is new over those before it, or expressed by the new ones of them
use Rattle.std.specs.Prelude.{◌≡◌, ◌↔◌, ℤ, List, [], ◌∷◌, Option, None, Some, false}
use Rattle.sg_algebra.specs.Coefficients.{Each}
use Rattle.sg_spec.specs.Tree.{Tree}
use Rattle.sg_spec.specs.Generators.{sums, start}
use Rattle.sg_spec.specs.Telescoping.{Agree}
use Rattle.sg_spec.specs.Printing.{InForm}
use Rattle.sg_forms_theory.specs.Sums.{AreStandings, IsSimplest}
use Rattle.sg_forms_theory.specs.Checks.{TelescopesFrom, FailsBeyond}
use Rattle.sg_forms.specs.Wholes.{IsWhole}
use Rattle.sg_forms.specs.Marks.{marks_of}
use Rattle.sg_forms.specs.declared.frees.Standing.{Standing}

abbrev pub IsFirstSimplified : ℤ → List Tree → Tree → Type 0
IsFirstSimplified a [] h = ⊥
IsFirstSimplified a (f ∷ others) h = IsSimplest IsWhole (start (f ∷ others) a) (sums (f ∷ others)) f h

abbrev pub HasOneForm : List Tree → Tree → Type 0
HasOneForm [] h = ⊥
HasOneForm (f ∷ others) h = (b : ℤ) (g : Tree) (more : List Tree) (e : Tree) → sums (g ∷ more) ≡ sums (f ∷ others) → IsFirstSimplified b (g ∷ more) e → (Agree f g) ↔ (h ≡ e)

abbrev pub FirstTelescopes : ℤ → List Tree → Type 0
FirstTelescopes a [] = ⊥
FirstTelescopes a (f ∷ []) = ⊥
FirstTelescopes a (f ∷ (g ∷ others)) = TelescopesFrom (start (f ∷ (g ∷ others)) a) g f

abbrev pub FirstFails : List Tree → Type 0
FirstFails [] = ⊥
FirstFails (f ∷ []) = ⊥
FirstFails (f ∷ (g ∷ others)) = FailsBeyond g f

abbrev pub AreTold : ℤ → List Tree → List Standing → Type 0
AreTold s ss sts = AreStandings IsWhole s ss (marks_of sts)

-- each expression that is told is printed as it is
abbrev pub IsPrinted : Option Tree → Type 0
IsPrinted None = Unit {0}
IsPrinted (Some h) = InForm false false h

abbrev pub ArePrinted : List Standing → Type 0
ArePrinted sts = Each IsPrinted (marks_of sts)
