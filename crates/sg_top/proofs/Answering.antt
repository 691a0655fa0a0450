-- From how a call ends to what is said of an answer.
--   batch-answers    the answer to a batch
--   fixed-answers    a text that is the answer
--   want-answers     out of memory
--   command-line, usage-line     the answers to a line
--   whole-output, large-output, fault-output, want-output     the answers to a batch, before it is known that it was asked for
--   command-answer, gen-answer, usage-answer     the answers to other words
use Rattle.std.specs.Prelude.{◌≡◌, ◌==◌, ℕ, Bool, true, false, List, [], ◌∷◌, length, map, Option, codes}
use Rattle.std.proofs.Common.{refl, sym, ◌∙◌, inl, inr}
use Rattle.sg_io.specs.Bytes.{Rose}
use Rattle.sg_lines.specs.Lines.{lines_of, words_in}
use Rattle.sg_lines.specs.Whole.{IsWhole, IsLarge}
use Rattle.sg_words.specs.Words.{IsCommand, IsNoCommand, IsBatchWord, IsGenWords}
use Rattle.sg_words.specs.declared.asked.Command.{Command}
use Rattle.sg_top.specs.Answer.{Input, IsReply, IsGenLine, IsLineAnswer, IsBatch, IsAnswer, Answers}
use Rattle.sg_top.specs.Ending.{Ends, IsFixed, IsBatchOutput}
use Rattle.sg_top.specs.declared.status.Status.{Status}
use Rattle.sg_top.specs.declared.status.Status.TheVariants.{Usage, Refused, Memory, ReadFault}
use Rattle.sg_top.proofs.Sending.{ends-more, ends-fixed}

of-batch : (input : Input) (words : List (List ℕ)) → IsBatchWord words → (s : Status) (out : List ℕ) → IsBatchOutput input s out → IsAnswer input words s out
of-batch input words w s out (inl whole) = inr (inl (w, inl whole))
of-batch input words w s out (inr (inl large)) = inr (inl (w, inr (inl large)))
of-batch input words w s out (inr (inr (inl fault))) = inr (inl (w, inr (inr fault)))
of-batch input words w s out (inr (inr (inr want))) = inr (inr (inr (inr want)))

pub batch-answers : (input : Input) (words : List (List ℕ)) (status : Status) (old new : Option (List ℕ)) (before after : ℕ) → IsBatchWord words → Ends (IsBatchOutput input) status old new before after
    → Answers input words status old new before after
batch-answers input words status old new before after w e = ends-more (IsBatchOutput input) (IsAnswer input words) status old new before after (of-batch input words w) e

pub fixed-answers : (input : Input) (words : List (List ℕ)) (fixed status : Status) (text : List ℕ) (old new : Option (List ℕ)) (before after : ℕ) → IsAnswer input words fixed text
    → Ends (IsFixed fixed text) status old new before after → Answers input words status old new before after
fixed-answers input words fixed status text old new before after a e = ends-fixed (IsAnswer input words) fixed status text old new before after a e

pub want-answers : (input : Input) (words : List (List ℕ)) (status : Status) (old new : Option (List ℕ)) (before after : ℕ) → Ends (IsFixed Memory (codes "memory\n")) status old new before after
    → Answers input words status old new before after
want-answers input words status old new before after e = fixed-answers input words Memory status (codes "memory\n") old new before after (inr (inr (inr (inr (refl, refl))))) e

pub command-answer : (input : Input) (words : List (List ℕ)) (command : Command) (texts : List (List ℕ)) (status : Status) (out : List ℕ) → IsCommand words command texts → IsReply command texts status out
    → IsAnswer input words status out
command-answer input words command texts status out w r = inl (record { command = command; texts = texts; words_are = w; reply = r })

pub gen-answer : (input : Input) (words : List (List ℕ)) (seed count : ℕ) (status : Status) (out : List ℕ) → IsGenWords words seed count → IsGenLine seed count status out → IsAnswer input words status out
gen-answer input words seed count status out w g = inr (inr (inl (seed, count, w, g)))

pub usage-answer : (input : Input) (words : List (List ℕ)) (status : Status) (out : List ℕ) → IsNoCommand words → (IsBatchWord words → ⊥) → ((seed count : ℕ) → IsGenWords words seed count → ⊥)
    → status ≡ Usage → out ≡ codes "usage\n" → IsAnswer input words status out
usage-answer input words status out no_command no_batch no_gen s o = inr (inr (inr (inl (record { usage = (s, o, no_command); no_batch = no_batch; no_gen = no_gen }))))

-- ---- Lines

pub command-line : (words : List (List ℕ)) (command : Command) (texts : List (List ℕ)) (status : Status) (out : List ℕ) → (words ≡ [] → ⊥) → IsCommand words command texts → IsReply command texts status out
    → IsLineAnswer words status out
command-line [] command texts status out some w r = absurd (some refl)
command-line (word ∷ words) command texts status out some w r = inl (record { command = command; texts = texts; words_are = w; reply = r })

pub usage-line : (words : List (List ℕ)) (status : Status) (out : List ℕ) → (words ≡ [] → ⊥) → IsNoCommand words → status ≡ Usage → out ≡ codes "usage\n" → IsLineAnswer words status out
usage-line [] status out some no_command s o = absurd (some refl)
usage-line (word ∷ words) status out some no_command s o = inr (s, o, no_command)

pub not-empty : (words : List (List ℕ)) (b : Bool) → b ≡ (length words == 0) → b ≡ false → words ≡ [] → ⊥
not-empty [] b e f w = let no_truth : true ≡ false = sym e ∙ f in absurd (cc)
not-empty (word ∷ words) b e f w = absurd (cc)

-- ---- Batches

pub whole-output : (input : Input) (bytes : List ℕ) (status : Status) (old new : Option (List ℕ)) (before after : ℕ) → IsWhole input.left input.left_after bytes
    → Ends (IsBatch (map words_in (lines_of bytes))) status old new before after → Ends (IsBatchOutput input) status old new before after
whole-output input bytes status old new before after whole e =
    ends-more (IsBatch (map words_in (lines_of bytes))) (IsBatchOutput input) status old new before after (λ s out b. inl (record { bytes = bytes; whole = whole; outputs = b })) e

pub large-output : (input : Input) (status : Status) (old new : Option (List ℕ)) (before after : ℕ) → IsLarge input.left input.left_after
    → Ends (IsFixed Refused (codes "refused batch\n")) status old new before after → Ends (IsBatchOutput input) status old new before after
large-output input status old new before after large e = ends-fixed (IsBatchOutput input) Refused status (codes "refused batch\n") old new before after (inr (inl (refl, refl, large))) e

pub fault-output : (input : Input) (status : Status) (old new : Option (List ℕ)) (before after : ℕ) → Rose input.faults input.faults_after
    → Ends (IsFixed ReadFault (codes "read fault\n")) status old new before after → Ends (IsBatchOutput input) status old new before after
fault-output input status old new before after rose e = ends-fixed (IsBatchOutput input) ReadFault status (codes "read fault\n") old new before after (inr (inr (inl (refl, refl, rose)))) e

pub want-output : (input : Input) (status : Status) (old new : Option (List ℕ)) (before after : ℕ) → Ends (IsFixed Memory (codes "memory\n")) status old new before after
    → Ends (IsBatchOutput input) status old new before after
want-output input status old new before after e = ends-fixed (IsBatchOutput input) Memory status (codes "memory\n") old new before after (inr (inr (inr (refl, refl)))) e
