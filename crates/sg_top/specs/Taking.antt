-- What comes of the texts of a command, step by step.
--   IsReadAs       their expressions; or the line of the first text that isn't read
--   IsOutcome      their expressions, which keep the counted limits; or the line of a refusal
--   AreInForm      expressions as they are read
--   IsRational     without sums and products
--   Alone          there is one expression alone, and it is such
--   IsFirstLater   the expression at this place, counted from 1, is the first that holds a product
--   IsLimited      a lower limit is from -1,000 to 1,000
--   AreTested      expressions without products, no part of whose divisors is 0, of which these are the facts
--   IsTestReply    the reply where they aren't: the line of the first with a product, or what the search for poles answers
--   IsToldReply    the lines of what the sums are over those before them; or a step that doesn't fit, where there is a sum
--   IsStopped      the reply of a step that doesn't fit
--   IsPoleCause    what the search for poles tells once the counted limits are kept
--   IsPoleReply    its reply: the line of a refusal; or a step that doesn't fit, where a part is heavy
--   IsValueLine    the reply of a value, or of no value
--   IsStepOf       the line of the first step of an evaluation that doesn't fit
--   IsEvaluated    the reply of an evaluation of an expression for a parameter and a variable
use Rattle.std.specs.Prelude.{◌≡◌, ℕ, ◌+◌, List, [], ◌∷◌, ◌++◌, length, map, ℤ, pos, negsuc, ◌≤ℤ◌, false, Option, Some, None, ◌⊎◌, codes}
use Rattle.sg_spec.specs.Tree.{Tree}
use Rattle.sg_spec.specs.Steps.{steps, IsFirstMisfit}
use Rattle.sg_algebra.specs.Coefficients.{Each}
use Rattle.sg_spec.specs.Generators.{all_sums, all_prods, sums}
use Rattle.sg_spec.specs.Limits.{counted}
use Rattle.sg_spec.specs.Printing.{has_parameter, InForm}
use Rattle.sg_limits.specs.Counts.{IsFault, AreFacts}
use Rattle.sg_limits.specs.declared.fault.LimitFault.{LimitFault}
use Rattle.sg_limits.specs.declared.inspection.Facts.{Facts}
use Rattle.sg_num.specs.Value.{fraction}
use Rattle.sg_num.specs.Stopped.{IsTooWide}
use Rattle.sg_num.specs.declared.rat.Rat.{Rat}
use Rattle.sg_num.specs.declared.step.Wide.{Wide as WideStep}
use Rattle.sg_text.specs.RationalText.{rational_text}
use Rattle.sg_expr.specs.Tree.{tree_of}
use Rattle.sg_value.specs.Answer.{step_of}
use Rattle.sg_words.specs.declared.asked.Command.{Command}
use Rattle.sg_words.specs.declared.asked.Command.TheVariants.{Sum, Tower, Simplify, Check, Value, ValueAtParameter}
use Rattle.sg_top.specs.Lines.{wide_line, item_line}
use Rattle.sg_worth_theory.proofs.Plain.{HasNoProduct}
use Rattle.sg_top.specs.Stages.{letters_of, AreRead}
use Rattle.sg_top.specs.Refusals.{IsTextRefusal, IsCountRefusal, IsPoleRefusal, IsSpared, HasHeavyPart}
use Rattle.sg_top.specs.Output.{IsTowerOutput, IsValueOutput}
use Rattle.sg_top.specs.declared.status.Status.{Status}
use Rattle.sg_top.specs.declared.status.Status.TheVariants.{Done, No, Refused, Wide}
use Rattle.sg_top.specs.declared.taken.Taken.{Taken}
use Rattle.sg_top.specs.declared.taken.Taken.TheVariants.{Items, Line}

abbrev pub IsReadAs : Command → List (List ℕ) → Taken → Type 0
IsReadAs c texts (Items es) = AreRead c texts (map tree_of es)
IsReadAs c texts (Line line) = IsTextRefusal c texts line.items

abbrev pub IsOutcome : Command → List (List ℕ) → Taken → Type 0
IsOutcome c texts (Items es) = AreRead c texts (map tree_of es) × (counted (map tree_of es) ≡ None)
IsOutcome c texts (Line line) = IsTextRefusal c texts line.items ⊎ ((es : List Tree) × AreRead c texts es × IsCountRefusal es line.items)

abbrev pub AreInForm : Command → List Tree → Type 0
AreInForm c es = Each (InForm (has_parameter (letters_of c)) false) es

abbrev pub IsRational : Tree → Type 0
IsRational e = (all_sums e ≡ []) × (all_prods e ≡ [])

abbrev pub Alone : (Tree → Type 0) → List Tree → Type 0
Alone P [] = ⊥
Alone P (e ∷ []) = P e
Alone P (e ∷ (g ∷ es)) = ⊥

pub record IsFirstLater (item : ℕ) (es : List Tree) : Type 0 where
  pub before : List Tree
  pub expression : Tree
  pub after : List Tree
  pub split : es ≡ before ++ expression ∷ after
  pub plain : Each HasNoProduct before
  pub product : HasNoProduct expression → ⊥
  pub item_is : item ≡ length before + 1

abbrev pub IsLimited : Command → Type 0
IsLimited (Sum a) = (negsuc 999 ≤ℤ a) × (a ≤ℤ pos 1000)
IsLimited Tower = Unit {0}
IsLimited (Simplify a) = (negsuc 999 ≤ℤ a) × (a ≤ℤ pos 1000)
IsLimited (Check a) = (negsuc 999 ≤ℤ a) × (a ≤ℤ pos 1000)
IsLimited (Value k) = Unit {0}
IsLimited (ValueAtParameter n k) = Unit {0}

pub record AreTested (a : ℤ) (facts : Facts) (es : List Tree) : Type 0 where
  pub plain : Each HasNoProduct es
  pub spared : IsSpared (Sum a) es
  pub facts_are : AreFacts facts (Some a) es

pub record IsStopped (status : Status) (line : List ℕ) : Type 0 where
  pub wide : status ≡ Wide
  pub step : WideStep
  pub too_wide : IsTooWide step
  pub is : line ≡ wide_line step

abbrev pub IsPoleCause : LimitFault → ℤ → List Tree → Type 0
IsPoleCause fault a es = (counted es ≡ None) × IsFault fault (Some a) es

abbrev pub IsPoleReply : ℤ → List Tree → Status → List ℕ → Type 0
IsPoleReply a es status line = ((status ≡ Refused) × IsPoleRefusal (Sum a) es line) ⊎ (IsStopped status line × HasHeavyPart (Sum a) es)

abbrev pub IsTestReply : ℤ → List Tree → Status → List ℕ → Type 0
IsTestReply a es status line =
    ((status ≡ Refused) × ((item : ℕ) × IsFirstLater item es × (line ≡ item_line (codes "later") item))) ⊎ (Each HasNoProduct es × IsPoleReply a es status line)

abbrev pub IsToldReply : List Tree → Status → List ℕ → Type 0
IsToldReply es status line = (IsStopped status line × (sums es ≡ [] → ⊥)) ⊎ IsTowerOutput es status line

abbrev pub IsValueLine : Option Rat → Status → List ℕ → Type 0
IsValueLine (Some r) status line = (status ≡ Done) × (line ≡ rational_text (fraction r) ++ codes "\n")
IsValueLine None status line = (status ≡ No) × (line ≡ codes "no value\n")

pub record IsStepOf (e : Tree) (n k : ℤ) (line : List ℕ) : Type 0 where
  pub step : WideStep
  pub first : IsFirstMisfit (steps e n k) (step_of step)
  pub is : line ≡ wide_line step

abbrev pub IsEvaluated : Tree → ℤ → ℤ → Status → List ℕ → Type 0
IsEvaluated e n k status line = ((status ≡ Wide) × IsStepOf e n k line) ⊎ IsValueOutput n k (e ∷ []) status line
