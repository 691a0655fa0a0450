-- The replies to the commands that simplify and check.
--   test-simplified, test-checked      to expressions that don't pass the tests
--   simplified-line, simplified-wide   to one that does; taken-simplified
--   yes-line, no-line, checked-wide    to two that do; taken-checked
use Rattle.std.proofs.Common.{◌≡◌, ℕ, ℤ, List, [], ◌∷◌, length, codes, ap, ◌∙◌, ◌⊎◌, inl, inr, arith}
use Rattle.sg_algebra.specs.Coefficients.{Each}
use Rattle.sg_spec.specs.Generators.{start}
use Rattle.sg_spec.specs.Reading.{Reads}
use Rattle.sg_spec.specs.Tree.{Tree}
use Rattle.sg_text.specs.PrintedText.{printed}
use Rattle.sg_words.specs.declared.asked.Command.TheVariants.{Simplify, Check}
use Rattle.sg_forms.specs.Commands.{IsFirstSimplified, FirstTelescopes, FirstFails}
use Rattle.sg_top.specs.Lines.{item_line, form_line, yes_line}
use Rattle.sg_worth_theory.proofs.Plain.{HasNoProduct}
use Rattle.sg_top.specs.Stages.{IsTaken}
use Rattle.sg_top.specs.Refusals.{IsSpared, HasHeavyPart}
use Rattle.sg_top.specs.Answer.{IsCountedReply, IsTakenReply}
use Rattle.sg_top.specs.Taking.{IsStopped, IsTestReply}
use Rattle.sg_top.specs.declared.status.Status.{Status}
use Rattle.sg_top.specs.declared.status.Status.TheVariants.{Done, No}
use Rattle.sg_top.proofs.Items.{all-of}

-- ---- Simplest forms

pub taken-simplified : (a : ℤ) (es : List Tree) (status : Status) (line : List ℕ) → Each HasNoProduct es → IsTakenReply (Simplify a) es status line → IsCountedReply (Simplify a) es status line
taken-simplified a es status line h reply = inr (all-of (IsTaken (Simplify a)) es h, reply)

pub simplified-wide : (a : ℤ) (es : List Tree) (status : Status) (line : List ℕ) → (IsSpared (Simplify a) es ⊎ HasHeavyPart (Simplify a) es) → IsStopped status line → IsTakenReply (Simplify a) es status line
simplified-wide a es status line spared s = inr (inl (s.wide, record { step = s.step; cause = s.too_wide; spared = spared; not_narrow = λ h. h; is = s.is }))

pub test-simplified : (a : ℤ) (es : List Tree) (status : Status) (line : List ℕ) → IsTestReply a es status line → IsCountedReply (Simplify a) es status line
test-simplified a es status line (inl (refused, (item, l, is))) =
    inl (
      refused,
      record {
        before = l.before;
        expression = l.expression;
        after = l.after;
        split = l.split;
        taken = all-of (IsTaken (Simplify a)) l.before l.plain;
        not_taken = l.product;
        is = is ∙ ap (item_line (codes "later")) l.item_is;
      },
    )
test-simplified a es status line (inr (h, inl (refused, p))) = taken-simplified a es status line h (inl (refused, record { fault = p.fault; cause = p.cause; is = p.is }))
test-simplified a es status line (inr (h, inr (s, heavy))) = taken-simplified a es status line h (simplified-wide a es status line (inr heavy) s)

pub simplified-line : (a s : ℤ) (es : List Tree) (h : Tree) (status : Status) (line : List ℕ) → length es ≡ 1 → IsSpared (Simplify a) es → s ≡ start es a → IsFirstSimplified a es h
    → Reads (printed (codes "k") h) (codes "k") h → status ≡ Done → line ≡ form_line (printed (codes "k") h) s → IsTakenReply (Simplify a) es status line
simplified-line a s [] h status line one spared e simplest back done is = absurd simplest
simplified-line a s (f ∷ (g ∷ es)) h status line one spared e simplest back done is = absurd (omega (arith, one))
simplified-line a s (f ∷ []) h status line one spared e simplest back done is =
    inr (inr (spared, record { status_is = done; form = h; simplest = simplest; reads_back = back; is = is ∙ ap (form_line (printed (codes "k") h)) e }))

-- ---- Checks

pub taken-checked : (a : ℤ) (es : List Tree) (status : Status) (line : List ℕ) → Each HasNoProduct es → IsTakenReply (Check a) es status line → IsCountedReply (Check a) es status line
taken-checked a es status line h reply = inr (all-of (IsTaken (Check a)) es h, reply)

pub checked-wide : (a : ℤ) (es : List Tree) (status : Status) (line : List ℕ) → (IsSpared (Check a) es ⊎ HasHeavyPart (Check a) es) → IsStopped status line → IsTakenReply (Check a) es status line
checked-wide a es status line spared s = inr (inl (s.wide, record { step = s.step; cause = s.too_wide; spared = spared; not_narrow = λ h. h; is = s.is }))

pub test-checked : (a : ℤ) (es : List Tree) (status : Status) (line : List ℕ) → IsTestReply a es status line → IsCountedReply (Check a) es status line
test-checked a es status line (inl (refused, (item, l, is))) =
    inl (
      refused,
      record {
        before = l.before;
        expression = l.expression;
        after = l.after;
        split = l.split;
        taken = all-of (IsTaken (Check a)) l.before l.plain;
        not_taken = l.product;
        is = is ∙ ap (item_line (codes "later")) l.item_is;
      },
    )
test-checked a es status line (inr (h, inl (refused, p))) = taken-checked a es status line h (inl (refused, record { fault = p.fault; cause = p.cause; is = p.is }))
test-checked a es status line (inr (h, inr (s, heavy))) = taken-checked a es status line h (checked-wide a es status line (inr heavy) s)

pub yes-line : (a s : ℤ) (es : List Tree) (status : Status) (line : List ℕ) → length es ≡ 2 → IsSpared (Check a) es → s ≡ start es a → FirstTelescopes a es → status ≡ Done → line ≡ yes_line s → IsTakenReply (Check a) es status line
yes-line a s [] status line two spared e holds done is = absurd holds
yes-line a s (f ∷ []) status line two spared e holds done is = absurd holds
yes-line a s (f ∷ (g ∷ (k ∷ es))) status line two spared e holds done is = absurd (omega (arith, two))
yes-line a s (f ∷ (g ∷ [])) status line two spared e holds done is = inr (inr (spared, inl (record { status_is = done; holds = holds; is = is ∙ ap yes_line e })))

pub no-line : (a : ℤ) (es : List Tree) (status : Status) (line : List ℕ) → length es ≡ 2 → IsSpared (Check a) es → FirstFails es → status ≡ No → line ≡ codes "no\n" → IsTakenReply (Check a) es status line
no-line a [] status line two spared fails done is = absurd fails
no-line a (f ∷ []) status line two spared fails done is = absurd fails
no-line a (f ∷ (g ∷ (k ∷ es))) status line two spared fails done is = absurd (omega (arith, two))
no-line a (f ∷ (g ∷ [])) status line two spared fails done is = inr (inr (spared, inr (record { status_is = done; fails = fails; is = is })))
