-- Answers, layer by layer: of expressions, of texts, of words, and what a sink then holds.
--   IsWideReply       `wide <step>`: a step that doesn't fit, and the command is none that never is wide; it stands in place of a pole's line only
--                     where a part is heavy
--   IsTakenReply      the answer for expressions that keep the limits and that the command takes
--   IsCountedReply    for expressions that keep the limits
--   IsTreeReply       for expressions
--   IsReply           for texts: a refusal of one of them, or the answer for their expressions
--   IsCommandAnswer   to words that are a command
--   IsUsage           `usage`: the words are no command
--   IsWant            out of memory
--   Input             what a source tells: the bytes that are left, where it tells them, and how often it has failed; both
--                     before the call and after it. Only `batch` reads it
--   IsLineAnswer      to the words of a line of a batch; a line without words has no output
--   IsBatch           the outputs of the lines in turn; out of memory ends them, and no other answer does
--   IsWholeBatch      the source was read whole, and its lines were answered
--   IsLargeBatch      `refused batch`: it doesn't fit
--   IsReadFault       `read fault`: its count of faults rose
--   IsBatchAnswer     to `batch`
--   Outcome           the answer to one sample; AreSampled: to those of a seed from i on, each by the command that sums from 1 on
--   sample_line       how many of them were closed forms, how many `none`, how many `wide`, and how many bytes they had
--   IsGenAnswer       to `gen`
--   IsUsageAnswer     to words that ask for none of these
--   IsAnswer          the whole text of an answer and its status
--   Tells             what was appended to what is held is such a text; where a sink tells nothing there is one all the same
--   IsFrontOf         the first bytes of such a text
--   Answers           what a call with this status appended; after a write fault the count of faults rose
use Rattle.std.specs.Prelude.{◌≡◌, ℕ, ◌+◌, pos, Bool, true, false, List, [], ◌∷◌, ◌++◌, length, map, All, codes, decimal, Option, Some, None, ◌⊎◌}
use Rattle.std.specs.List.{count_by, sum_by}
use Rattle.sg_spec.specs.Tree.{Tree}
use Rattle.sg_spec.specs.Limits.{counted}
use Rattle.sg_num.specs.declared.step.Wide.{Wide as WideStep}
use Rattle.sg_io.specs.Bytes.{Rose}
use Rattle.sg_gen.specs.Sample.{sampled}
use Rattle.sg_lines.specs.Lines.{lines_of, words_in}
use Rattle.sg_lines.specs.Whole.{IsWhole, IsLarge}
use Rattle.sg_words.specs.Words.{IsCommand, IsNoCommand, IsBatchWord, IsGenWords}
use Rattle.sg_words.specs.declared.asked.Command.{Command}
use Rattle.sg_words.specs.declared.asked.Command.TheVariants.{Sum}
use Rattle.sg_top.specs.Lines.{wide_line}
use Rattle.sg_top.specs.Stages.{AreRead, IsTaken}
use Rattle.sg_top.specs.Refusals.{IsTextRefusal, IsCountRefusal, IsLaterRefusal, IsPoleRefusal, IsSpared, HasHeavyPart}
use Rattle.sg_top.specs.Output.{IsDefined, IsWideStep, IsNarrow}
use Rattle.sg_top.specs.declared.status.Status.{Status}
use Rattle.sg_top.specs.declared.status.Status.TheVariants.{Done, No, Usage, Refused, Wide, Memory, ReadFault, WriteFault}

pub record IsWideReply (c : Command) (es : List Tree) (out : List ℕ) : Type 0 where
  pub step : WideStep
  pub cause : IsWideStep c es step
  pub spared : IsSpared c es ⊎ HasHeavyPart c es
  pub not_narrow : IsNarrow c es → ⊥
  pub is : out ≡ wide_line step

abbrev pub IsTakenReply : Command → List Tree → Status → List ℕ → Type 0
IsTakenReply c es status out =
    ((status ≡ Refused) × IsPoleRefusal c es out) ⊎ ((status ≡ Wide) × IsWideReply c es out) ⊎ (IsSpared c es × IsDefined c es status out)

abbrev pub IsCountedReply : Command → List Tree → Status → List ℕ → Type 0
IsCountedReply c es status out = ((status ≡ Refused) × IsLaterRefusal c es out) ⊎ (All (IsTaken c) es × IsTakenReply c es status out)

abbrev pub IsTreeReply : Command → List Tree → Status → List ℕ → Type 0
IsTreeReply c es status out = ((status ≡ Refused) × IsCountRefusal es out) ⊎ ((counted es ≡ None) × IsCountedReply c es status out)

pub record IsReadReply (c : Command) (texts : List (List ℕ)) (status : Status) (out : List ℕ) : Type 0 where
  pub trees : List Tree
  pub read : AreRead c texts trees
  pub reply : IsTreeReply c trees status out

abbrev pub IsReply : Command → List (List ℕ) → Status → List ℕ → Type 0
IsReply c texts status out = ((status ≡ Refused) × IsTextRefusal c texts out) ⊎ IsReadReply c texts status out

pub record IsCommandAnswer (words : List (List ℕ)) (status : Status) (out : List ℕ) : Type 0 where
  pub command : Command
  pub texts : List (List ℕ)
  pub words_are : IsCommand words command texts
  pub reply : IsReply command texts status out

abbrev pub IsUsage : List (List ℕ) → Status → List ℕ → Type 0
IsUsage words status out = (status ≡ Usage) × (out ≡ codes "usage\n") × IsNoCommand words

abbrev pub IsWant : Status → List ℕ → Type 0
IsWant status out = (status ≡ Memory) × (out ≡ codes "memory\n")

pub record Input : Type 0 where
  pub left : Option (List ℕ)
  pub left_after : Option (List ℕ)
  pub faults : ℕ
  pub faults_after : ℕ

abbrev pub IsLineAnswer : List (List ℕ) → Status → List ℕ → Type 0
IsLineAnswer [] status out = (status ≡ Done) × (out ≡ [])
IsLineAnswer (w ∷ ws) status out = IsCommandAnswer (w ∷ ws) status out ⊎ IsUsage (w ∷ ws) status out

-- no answer to a line has the status of memory
pub data IsBatch : List (List (List ℕ)) → Status → List ℕ → Type 0 where
  ended : IsBatch [] Done []
  stopped : {words : List (List ℕ)} {lines : List (List (List ℕ))} → IsBatch (words ∷ lines) Memory (codes "memory\n")
  answered : {words : List (List ℕ)} {lines : List (List (List ℕ))} {end : Status} (status : Status) (out rest : List ℕ)
      → IsLineAnswer words status out → IsBatch lines end rest → IsBatch (words ∷ lines) end (out ++ rest)

pub record IsWholeBatch (input : Input) (status : Status) (out : List ℕ) : Type 0 where
  pub bytes : List ℕ
  pub whole : IsWhole input.left input.left_after bytes
  pub outputs : IsBatch (map words_in (lines_of bytes)) status out

abbrev pub IsLargeBatch : Input → Status → List ℕ → Type 0
IsLargeBatch input status out = (status ≡ Refused) × (out ≡ codes "refused batch\n") × IsLarge input.left input.left_after

abbrev pub IsReadFault : Input → Status → List ℕ → Type 0
IsReadFault input status out = (status ≡ ReadFault) × (out ≡ codes "read fault\n") × Rose input.faults input.faults_after

abbrev pub IsBatchAnswer : Input → List (List ℕ) → Status → List ℕ → Type 0
IsBatchAnswer input words status out = IsBatchWord words × (IsWholeBatch input status out ⊎ IsLargeBatch input status out ⊎ IsReadFault input status out)

pub record Outcome : Type 0 where
  pub status : Status
  pub out : List ℕ

abbrev pub AreSampled : ℕ → ℕ → List Outcome → Type 0
AreSampled seed i [] = Unit {0}
AreSampled seed i (o ∷ os) = IsTreeReply (Sum (pos 1)) (sampled seed i ∷ []) o.status o.out × AreSampled seed (i + 1) os

abbrev pub is_done : Status → Bool
is_done Done = true
is_done other = false

abbrev pub is_no : Status → Bool
is_no No = true
is_no other = false

abbrev pub is_wide : Status → Bool
is_wide Wide = true
is_wide other = false

abbrev pub sample_line : List Outcome → List ℕ
sample_line os = codes "closed " ++ decimal (count_by (λ o. is_done o.status) os) ++ codes " none " ++ decimal (count_by (λ o. is_no o.status) os)
    ++ codes " wide " ++ decimal (count_by (λ o. is_wide o.status) os) ++ codes " bytes " ++ decimal (sum_by (λ o. length o.out) os) ++ codes "\n"

pub record IsGenLine (seed count : ℕ) (status : Status) (out : List ℕ) : Type 0 where
  pub status_is : status ≡ Done
  pub outcomes : List Outcome
  pub all : length outcomes ≡ count
  pub answers : AreSampled seed 0 outcomes
  pub is : out ≡ sample_line outcomes

abbrev pub IsGenAnswer : List (List ℕ) → Status → List ℕ → Type 0
IsGenAnswer words status out = (seed : ℕ) × (count : ℕ) × IsGenWords words seed count × IsGenLine seed count status out

pub record IsUsageAnswer (words : List (List ℕ)) (status : Status) (out : List ℕ) : Type 0 where
  pub usage : IsUsage words status out
  pub no_batch : IsBatchWord words → ⊥
  pub no_gen : (seed count : ℕ) → IsGenWords words seed count → ⊥

abbrev pub IsAnswer : Input → List (List ℕ) → Status → List ℕ → Type 0
IsAnswer input words status out =
    IsCommandAnswer words status out ⊎ IsBatchAnswer input words status out ⊎ IsGenAnswer words status out ⊎ IsUsageAnswer words status out ⊎ IsWant status out

abbrev pub Tells : (List ℕ → Type 0) → Option (List ℕ) → Option (List ℕ) → Type 0
Tells P (Some old) (Some new) = (out : List ℕ) × (new ≡ old ++ out) × P out
Tells P (Some old) None = ⊥
Tells P None (Some new) = ⊥
Tells P None None = (out : List ℕ) × P out

abbrev pub IsFrontOf : (List ℕ → Type 0) → List ℕ → Type 0
IsFrontOf P bytes = (rest : List ℕ) × P (bytes ++ rest)

-- what the sink held before and holds after, and its counts of faults before and after; no answer has the status of a write fault
abbrev pub Answers : Input → List (List ℕ) → Status → Option (List ℕ) → Option (List ℕ) → ℕ → ℕ → Type 0
Answers input words status old new before after =
    ((status ≡ WriteFault) × Rose before after × Tells (IsFrontOf (λ out. (s : Status) × IsAnswer input words s out)) old new)
    ⊎ Tells (IsAnswer input words status) old new
