-- The refusals, in their order.
--   IsMisplaced       the text at a place is read, and may not stand there: that is told at its first byte
--   IsRefusedAt       the text at a place isn't read, or may not stand there
--   IsTextRefusal     the first text that is refused
--   IsCountRefusal    the first count that passes its limit
--   IsLaterRefusal    the first expression that the command doesn't take yet
--   IsPoleRefusal     the first far pole; or else the first pole, or else the first zero factor, with the least point
--   IsSpared          there is none of these
--   HasHeavyPart      some part is too heavy to be looked at
use Rattle.std.specs.Prelude.{◌≡◌, ℕ, ◌+◌, List, ◌∷◌, ◌++◌, All, length, Some, codes, ◌⊎◌}
use Rattle.sg_spec.specs.Tree.{Tree}
use Rattle.sg_spec.specs.Reading.{Refusal, faulty, form, IsRead, IsRefused}
use Rattle.sg_spec.specs.Limits.{CountFault, counted}
use Rattle.sg_spec.specs.Faults.{parts_of, PoleFault, IsPoleFault, AreSpared, Among, IsHeavyNumbered}
use Rattle.sg_words.specs.declared.asked.Command.{Command}
use Rattle.sg_top.specs.Lines.{item_line, refusal_words, count_line, pole_line}
use Rattle.sg_top.specs.Stages.{input_bounds, letters_of, lower_of, examined, MayStand, AreRead, IsTaken}

pub record IsMisplaced (c : Command) (item : ℕ) (text : List ℕ) (refusal : Refusal) : Type 0 where
  pub expression : Tree
  pub read : IsRead input_bounds (letters_of c) text expression
  pub misplaced : MayStand c item expression → ⊥
  pub is : refusal ≡ faulty (record { kind = form; place = 0 })

abbrev pub IsRefusedAt : Command → ℕ → List ℕ → Refusal → Type 0
IsRefusedAt c item text refusal = IsRefused input_bounds (letters_of c) text refusal ⊎ IsMisplaced c item text refusal

pub record IsTextRefusal (c : Command) (texts : List (List ℕ)) (out : List ℕ) : Type 0 where
  pub before : List (List ℕ)
  pub text : List ℕ
  pub after : List (List ℕ)
  pub split : texts ≡ before ++ text ∷ after
  pub trees : List Tree
  pub read : AreRead c before trees
  pub refusal : Refusal
  pub cause : IsRefusedAt c (length before + 1) text refusal
  pub is : out ≡ item_line (refusal_words refusal) (length before + 1)

pub record IsCountRefusal (es : List Tree) (out : List ℕ) : Type 0 where
  pub fault : CountFault
  pub cause : counted es ≡ Some fault
  pub is : out ≡ count_line fault

pub record IsLaterRefusal (c : Command) (es : List Tree) (out : List ℕ) : Type 0 where
  pub before : List Tree
  pub expression : Tree
  pub after : List Tree
  pub split : es ≡ before ++ expression ∷ after
  pub taken : All (IsTaken c) before
  pub not_taken : IsTaken c expression → ⊥
  pub is : out ≡ item_line (codes "later") (length before + 1)

pub record IsPoleRefusal (c : Command) (es : List Tree) (out : List ℕ) : Type 0 where
  pub fault : PoleFault
  pub cause : IsPoleFault (parts_of (lower_of c) (examined c es)) fault
  pub is : out ≡ pole_line (letters_of c) fault

abbrev pub IsSpared : Command → List Tree → Type 0
IsSpared c es = AreSpared (parts_of (lower_of c) (examined c es))

abbrev pub HasHeavyPart : Command → List Tree → Type 0
HasHeavyPart c es = Among IsHeavyNumbered (parts_of (lower_of c) (examined c es))
