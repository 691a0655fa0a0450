-- What an answer says of the expressions of a command's texts, once no refusal touches them.
--   IsClosedLine      `closed <h> from <s>`: h is a closed form, canonical over some of the sums, each of them new over all those before it; its text is the
--                     one that is printed for it
--   IsNoneLine        `none over k, <sums>`: no expression over the sums of the texts, which may stand in divisors, telescopes f, from no point on
--   AreTowerLines     a line a sum of f, in the order of the sums: `free <g>` exactly where no expression over the sums before, which may stand in
--                     divisors, agrees with g from any point on; else `<g> = <h> from <s>`: h is g in canonical form over new sums before, from s on
--   IsSimplifiedLine  `<h> from <s>`: h is the simplest form of f over its sums, and so the one that all expressions have that agree with f from some point on
--   IsYesLine         `yes from <s>`: g telescopes f from s on; IsNoLine: `no`: beyond every point it fails somewhere
--   IsFractionLine    the value of an expression, in lowest terms
--   IsNoValueLine     `no value`: it has none
--   IsDefined         the defined answer; a line a command
--   IsWideStep        what is known of a step that doesn't fit; a line a command that knows more than this
--   IsNarrow          no step is wide: a plain polynomial is summed from a limit on that is near; or `tower` asks for the sums
--                     of an expression without any
use Rattle.std.specs.Prelude.{◌≡◌, ℕ, ◌≤◌, List, [], ◌∷◌, ◌++◌, ℤ, pos, negsuc, unsigned_abs, codes, Option, Some, None, ◌⊎◌}
use Rattle.sg_algebra.specs.Coefficients.{Each}
use Rattle.sg_spec.specs.Fraction.{Fraction}
use Rattle.sg_spec.specs.Tree.{Tree}
use Rattle.sg_spec.specs.Value.{val, SameValue}
use Rattle.sg_spec.specs.Steps.{steps, IsFirstMisfit}
use Rattle.sg_spec.specs.Reading.{Reads}
use Rattle.sg_spec.specs.Generators.{Over, all_sums, sums, prods, start}
use Rattle.sg_spec.specs.Canonical.{IsCanonicalOver}
use Rattle.sg_spec.specs.Closed.{Closed}
use Rattle.sg_spec.specs.Telescoping.{Tele}
use Rattle.sg_num.specs.Value.{fraction}
use Rattle.sg_num.specs.Stopped.{IsTooWide}
use Rattle.sg_num.specs.declared.rat.Rat.{Rat}
use Rattle.sg_num.specs.declared.step.Wide.{Wide as WideStep}
use Rattle.sg_plain.specs.Plain.{IsPlain}
use Rattle.sg_text.specs.PrintedText.{printed}
use Rattle.sg_text.specs.RationalText.{rational_text}
use Rattle.sg_value.specs.Answer.{step_of}
use Rattle.sg_words.specs.declared.asked.Command.{Command}
use Rattle.sg_words.specs.declared.asked.Command.TheVariants.{Sum, Tower, Simplify, Check, Value, ValueAtParameter}
use Rattle.sg_forms_theory.specs.Sums.{AreNew, AreStandings, IsSimplest}
use Rattle.sg_forms_theory.specs.Checks.{TelescopesFrom, FailsBeyond}
use Rattle.sg_forms.specs.Wholes.{IsWhole}
use Rattle.sg_top.specs.Lines.{closed_line, none_line, tower_lines, form_line, yes_line}
use Rattle.sg_top.specs.declared.status.Status.{Status}
use Rattle.sg_top.specs.declared.status.Status.TheVariants.{Done, No}

pub record IsClosedLine (a : ℤ) (f : Tree) (others : List Tree) (status : Status) (out : List ℕ) : Type 0 where
  pub status_is : status ≡ Done
  pub form : Tree
  pub first : ℤ
  pub closed : Closed f others a form first
  pub new : List Tree
  pub new_are : AreNew (sums (f ∷ others)) new
  pub canonical : IsCanonicalOver (prods (f ∷ others)) new form
  pub reads_back : Reads (printed (codes "m") form) (codes "m") form
  pub is : out ≡ closed_line (printed (codes "m") form) first

pub record IsNoneLine (f : Tree) (others : List Tree) (status : Status) (out : List ℕ) : Type 0 where
  pub status_is : status ≡ No
  pub none : (e : Tree) → Over (sums (f ∷ others)) e → ¬ Tele e f
  pub is : out ≡ none_line (prods (f ∷ others) ++ sums (f ∷ others))

-- the expression that a sum is, where there is one, is what its text reads as
abbrev pub IsReadBack : Option Tree → Type 0
IsReadBack None = Unit {0}
IsReadBack (Some h) = Reads (printed (codes "k") h) (codes "k") h

pub record AreTowerLines (f : Tree) (status : Status) (out : List ℕ) : Type 0 where
  pub status_is : status ≡ Done
  pub standings : List (Option Tree)
  pub are : AreStandings IsWhole (start (f ∷ []) (negsuc 1000)) (sums (f ∷ [])) standings
  pub read_back : Each IsReadBack standings
  pub is : out ≡ tower_lines (start (f ∷ []) (negsuc 1000)) (sums (f ∷ [])) standings

pub record IsSimplifiedLine (a : ℤ) (f : Tree) (status : Status) (out : List ℕ) : Type 0 where
  pub status_is : status ≡ Done
  pub form : Tree
  pub simplest : IsSimplest IsWhole (start (f ∷ []) a) (sums (f ∷ [])) f form
  pub reads_back : Reads (printed (codes "k") form) (codes "k") form
  pub is : out ≡ form_line (printed (codes "k") form) (start (f ∷ []) a)

pub record IsYesLine (a : ℤ) (f g : Tree) (status : Status) (out : List ℕ) : Type 0 where
  pub status_is : status ≡ Done
  pub holds : TelescopesFrom (start (f ∷ (g ∷ [])) a) g f
  pub is : out ≡ yes_line (start (f ∷ (g ∷ [])) a)

pub record IsNoLine (f g : Tree) (status : Status) (out : List ℕ) : Type 0 where
  pub status_is : status ≡ No
  pub fails : FailsBeyond g f
  pub is : out ≡ codes "no\n"

pub record IsFractionLine (v : Option Fraction) (status : Status) (out : List ℕ) : Type 0 where
  pub status_is : status ≡ Done
  pub number : Rat
  pub is_value : SameValue (Some (fraction number)) v
  pub is : out ≡ rational_text (fraction number) ++ codes "\n"

pub record IsNoValueLine (v : Option Fraction) (status : Status) (out : List ℕ) : Type 0 where
  pub status_is : status ≡ No
  pub none : v ≡ None
  pub is : out ≡ codes "no value\n"

-- the first text is the summand, and the others lend their sums
abbrev pub IsSumOutput : ℤ → List Tree → Status → List ℕ → Type 0
IsSumOutput a [] status out = ⊥
IsSumOutput a (f ∷ others) status out = IsClosedLine a f others status out ⊎ IsNoneLine f others status out

abbrev pub IsTowerOutput : List Tree → Status → List ℕ → Type 0
IsTowerOutput (f ∷ []) status out = AreTowerLines f status out
IsTowerOutput es status out = ⊥

abbrev pub IsSimplifyOutput : ℤ → List Tree → Status → List ℕ → Type 0
IsSimplifyOutput a (f ∷ []) status out = IsSimplifiedLine a f status out
IsSimplifyOutput a es status out = ⊥

abbrev pub IsCheckOutput : ℤ → List Tree → Status → List ℕ → Type 0
IsCheckOutput a (f ∷ (g ∷ [])) status out = IsYesLine a f g status out ⊎ IsNoLine f g status out
IsCheckOutput a es status out = ⊥

abbrev pub IsValueOutput : ℤ → ℤ → List Tree → Status → List ℕ → Type 0
IsValueOutput n k (e ∷ []) status out = IsFractionLine (val e n k) status out ⊎ IsNoValueLine (val e n k) status out
IsValueOutput n k es status out = ⊥

abbrev pub IsDefined : Command → List Tree → Status → List ℕ → Type 0
IsDefined (Sum a) es status out = IsSumOutput a es status out
IsDefined Tower es status out = IsTowerOutput es status out
IsDefined (Simplify a) es status out = IsSimplifyOutput a es status out
IsDefined (Check a) es status out = IsCheckOutput a es status out
IsDefined (Value k) es status out = IsValueOutput (pos 0) k es status out
IsDefined (ValueAtParameter n k) es status out = IsValueOutput n k es status out

-- the first step of the evaluation that doesn't fit
abbrev pub IsValueStep : ℤ → ℤ → List Tree → WideStep → Type 0
IsValueStep n k (e ∷ []) step = IsFirstMisfit (steps e n k) (step_of step)
IsValueStep n k es step = ⊥

abbrev pub IsWideStep : Command → List Tree → WideStep → Type 0
IsWideStep (Value k) es step = IsValueStep (pos 0) k es step
IsWideStep (ValueAtParameter n k) es step = IsValueStep n k es step
IsWideStep c es step = IsTooWide step

abbrev pub IsNarrow : Command → List Tree → Type 0
IsNarrow (Sum a) (f ∷ []) = IsPlain f × (unsigned_abs a ≤ 64)
IsNarrow Tower (f ∷ []) = all_sums f ≡ []
IsNarrow c es = ⊥
