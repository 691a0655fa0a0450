-- From what the calls below answer to what is said of an answer.
--   admitted                        expressions that pass the tests, as the tower asks for them
--   later-reply, taken-reply, closed-reply, wide-reply     the replies to a sum
--   nested-closed, nested-none      those over sums
--   not-lone                        what is no expression alone may be wide
--   pole-taken                  what the search for poles answers is one
--   far-form, pole-form, factor-form             the part of a pole can be printed
--   far-refusal, pole-refusal, factor-refusal    the lines of poles
--   stop-keeps, stop-heavy      a step that doesn't fit in their place
--   value-reply                 the replies of an evaluation
use Rattle.std.proofs.Common.{◌≡◌, ℕ, ℤ, List, [], ◌∷◌, ◌++◌, length, map, Option, Some, None, codes, pos, negsuc, ◌≤ℤ◌, refl, sym, ap, ap₂, subst, ◌∙◌, ◌⊎◌, false, inl, inr, arith}
use Rattle.std.proofs.lemmas.Int.{ints}
use Rattle.std.specs.Fmt.{signed_decimal}
use Rattle.sg_algebra.specs.Coefficients.{Each}
use Rattle.sg_expr.specs.Tree.{tree_of}
use Rattle.sg_expr.specs.declared.tree.Expr.{Expr}
use Rattle.sg_num.specs.declared.rat.Rat.{Rat}
use Rattle.sg_spec.specs.Closed.{Closed}
use Rattle.sg_spec.specs.Canonical.{IsCanonicalOver}
use Rattle.sg_spec.specs.Faults.{Numbered, parts_from, IsFarNumbered, Vanishes, far_pole, pole, zero_factor}
use Rattle.sg_spec.specs.Generators.{Over, sums, prods, start}
use Rattle.sg_spec.specs.Limits.{counted}
use Rattle.sg_spec.specs.Parts.{divides, is_body}
use Rattle.sg_spec.specs.Polynomials.{IsPolynomial}
use Rattle.sg_spec.specs.Printing.{InForm}
use Rattle.sg_spec.specs.Telescoping.{Tele}
use Rattle.sg_spec.specs.Reading.{Reads}
use Rattle.sg_spec.specs.Tree.{Tree}
use Rattle.sg_spec.specs.Value.{val}
use Rattle.sg_limits.specs.Counts.{IsShown, IsPoleOf, IsFault}
use Rattle.sg_limits.specs.declared.inspection.Facts.{Facts}
use Rattle.sg_depth.specs.Commands.{AreAdmitted}
use Rattle.sg_limits.specs.declared.fault.LimitFault.TheVariants.{Stop as LimitStop}
use Rattle.sg_num.specs.Stopped.{KeepsWideStep, IsMemory}
use Rattle.sg_num.specs.declared.step.Stop.{Stop}
use Rattle.sg_num.specs.declared.step.Stop.TheVariants.{Memory, Wide}
use Rattle.sg_text.specs.PrintedText.{printed}
use Rattle.sg_value.specs.Answer.{IsValue}
use Rattle.sg_words.specs.declared.asked.Command.TheVariants.{Sum, Value, ValueAtParameter}
use Rattle.sg_top.specs.Lines.{item_line, closed_line, none_line, letters_at, part_text}
use Rattle.sg_nested.specs.Commands.{IsFirstClosed, IsFirstCanonical, HasNoFirst}
use Rattle.sg_forms_theory.specs.Sums.{AreNew}
use Rattle.sg_worth_theory.proofs.Plain.{HasNoProduct}
use Rattle.sg_top.specs.Stages.{IsTaken}
use Rattle.sg_top.specs.Refusals.{IsPoleRefusal, IsSpared, HasHeavyPart}
use Rattle.sg_top.specs.Output.{IsValueOutput, IsNarrow}
use Rattle.sg_top.specs.Answer.{IsCountedReply, IsTakenReply}
use Rattle.sg_top.specs.Taking.{AreTested, IsStopped, IsPoleReply, IsValueLine, IsEvaluated, IsRational, Alone, IsFirstLater}
use Rattle.sg_top.specs.declared.status.Status.{Status}
use Rattle.sg_top.specs.declared.status.Status.TheVariants.{Done, No, Refused}
use Rattle.sg_top.proofs.Items.{all-of}
use Rattle.sg_top.proofs.Parted.{no_sums, no_products, none_spared, first_form}

-- ---- Expressions

pub admitted : (a : ℤ) (facts : Facts) (es : List Tree) → Each (InForm false false) es → counted es ≡ None → negsuc 1000 ≤ℤ a → a ≤ℤ pos 1000 → AreTested a facts es → AreAdmitted a facts es
admitted a facts es form kept low high tested = record {
  within = record { form = form; kept = kept; low = low; high = high };
  plain = tested.plain;
  spared = tested.spared;
  facts_are = tested.facts_are;
}

pub lower : (a : ℤ) → negsuc 999 ≤ℤ a → negsuc 1000 ≤ℤ a
lower a low = omega (arith, ints, low)

pub later-reply : (a : ℤ) (es : List Tree) (item : ℕ) (line : List ℕ) → IsFirstLater item es → line ≡ item_line (codes "later") item → IsCountedReply (Sum a) es Refused line
later-reply a es item line l is = inl (
  refl,
  record {
    before = l.before;
    expression = l.expression;
    after = l.after;
    split = l.split;
    taken = all-of (IsTaken (Sum a)) l.before l.plain;
    not_taken = l.product;
    is = is ∙ ap (item_line (codes "later")) l.item_is;
  },
)

pub taken-reply : (a : ℤ) (es : List Tree) (status : Status) (line : List ℕ) → Each HasNoProduct es → IsTakenReply (Sum a) es status line → IsCountedReply (Sum a) es status line
taken-reply a es status line h reply = inr (all-of (IsTaken (Sum a)) es h, reply)

none-new : (ss : List Tree) → AreNew ss []
none-new ss = record { places = []; ascending = tt; inside = tt; are = refl; new = tt }

pub closed-reply : (a : ℤ) (f h : Tree) (status : Status) (line : List ℕ) → IsRational f → IsSpared (Sum a) (f ∷ []) → Closed f [] a h a → IsCanonicalOver [] [] h
    → Reads (printed (codes "m") h) (codes "m") h → status ≡ Done → line ≡ closed_line (printed (codes "m") h) a → IsTakenReply (Sum a) (f ∷ []) status line
closed-reply a f h status line rational spared closed canonical back done is =
    let over_own : IsCanonicalOver (prods (f ∷ [])) [] h = rw (no_products f rational) canonical in
    inr (inr (
      spared,
      inl (record {
        status_is = done;
        form = h;
        first = a;
        closed = closed;
        new = [];
        new_are = none-new (sums (f ∷ []));
        canonical = over_own;
        reads_back = back;
        is = is;
      }),
    ))

pub wide-reply : (a : ℤ) (es : List Tree) (status : Status) (line : List ℕ) → (IsSpared (Sum a) es ⊎ HasHeavyPart (Sum a) es) → IsStopped status line → (IsNarrow (Sum a) es → ⊥) → IsTakenReply (Sum a) es status line
wide-reply a es status line spared s narrow = inr (inl (s.wide, record { step = s.step; cause = s.too_wide; spared = spared; not_narrow = narrow; is = s.is }))

pub not-lone : (a : ℤ) (items : List Expr) → (length items ≡ 1 → ⊥) → IsNarrow (Sum a) (map tree_of items) → ⊥
not-lone a [] h n = n
not-lone a (x ∷ []) h n = h refl
not-lone a (x ∷ (y ∷ items)) h n = n

pub nested-closed : (a : ℤ) (es : List Tree) (s : ℤ) (h : Tree) (status : Status) (line : List ℕ) → IsSpared (Sum a) es → s ≡ start es a → IsFirstClosed a es h → IsFirstCanonical es h
    → Reads (printed (codes "m") h) (codes "m") h → status ≡ Done → line ≡ closed_line (printed (codes "m") h) s → IsTakenReply (Sum a) es status line
nested-closed a [] s h status line spared e closed canonical back done is = absurd closed
nested-closed a (f ∷ others) s h status line spared e closed canonical back done is =
    inr (inr (
      spared,
      inl (record {
        status_is = done;
        form = h;
        first = start (f ∷ others) a;
        closed = closed;
        new = canonical.0;
        new_are = canonical.1;
        canonical = canonical.2;
        reads_back = back;
        is = is ∙ ap (closed_line (printed (codes "m") h)) e;
      }),
    ))

pub nested-none : (a : ℤ) (es ps ss : List Tree) (status : Status) (line : List ℕ) → IsSpared (Sum a) es → ps ≡ prods es → ss ≡ sums es → HasNoFirst es → status ≡ No → line ≡ none_line (ps ++ ss) → IsTakenReply (Sum a) es status line
nested-none a [] ps ss status line spared p q never done is = absurd never
nested-none a (f ∷ others) ps ss status line spared p q never done is =
    inr (inr (spared, inr (record { status_is = done; none = never; is = is ∙ ap₂ (λ (x y : List Tree). none_line (x ++ y)) p q })))

pub pole-taken : (a : ℤ) (es : List Tree) (status : Status) (line : List ℕ) → (IsNarrow (Sum a) es → ⊥) → IsPoleReply a es status line → IsTakenReply (Sum a) es status line
pole-taken a es status line narrow (inl refusal) = inl refusal
pole-taken a es status line narrow (inr (s, heavy)) = wide-reply a es status line (inr heavy) s narrow

-- ---- Poles

-- the part that is told
shown-form : {item depth : ℕ} {part : Expr} {x : Numbered} → IsShown item part depth x → InForm false false x.part.tree → InForm false false (tree_of part)
shown-form s f = subst (InForm false false) s.tree_is f

pub far-form : (a : ℤ) (es : List Tree) (item depth : ℕ) (part : Expr) → Each (InForm false false) es → IsPoleOf far_pole item part depth (parts_from 1 a es) → InForm false false (tree_of part)
far-form a es item depth part h p = shown-form p.shown (first_form false a es IsFarNumbered p.element h p.is)

pub pole-form : (a : ℤ) (es : List Tree) (item depth : ℕ) (k : ℤ) (part : Expr) → Each (InForm false false) es → IsPoleOf (pole k) item part depth (parts_from 1 a es) → InForm false false (tree_of part)
pole-form a es item depth k part h p = shown-form p.shown (first_form false a es (Vanishes divides) p.element h p.is.1.first)

pub factor-form : (a : ℤ) (es : List Tree) (item depth : ℕ) (k : ℤ) (part : Expr) → Each (InForm false false) es → IsPoleOf (zero_factor k) item part depth (parts_from 1 a es) → InForm false false (tree_of part)
factor-form a es item depth k part h p = shown-form p.shown (first_form false a es (Vanishes is_body) p.element h p.is.2.first)

-- the lines of a part that is told, with what stands before it
shown-line : (before : List ℕ) (item depth : ℕ) (part : Expr) (x : Numbered) (line : List ℕ) → IsShown item part depth x → line ≡ item_line (before ++ printed (letters_at depth (codes "k")) (tree_of part)) item
    → line ≡ item_line (before ++ part_text (codes "k") x.part) x.item
shown-line before item depth part x line s is = rw (s.item_is, s.tree_is, s.depth_is) is

pub far-refusal : (a : ℤ) (es : List Tree) (item depth : ℕ) (part : Expr) (line : List ℕ) → IsPoleOf far_pole item part depth (parts_from 1 a es)
    → line ≡ item_line (codes "far pole of " ++ printed (letters_at depth (codes "k")) (tree_of part)) item → IsPoleRefusal (Sum a) es line
far-refusal a es item depth part line p is =
    record { fault = far_pole p.element; cause = p.is; is = shown-line (codes "far pole of ") item depth part p.element line p.shown is }

pub pole-refusal : (a : ℤ) (es : List Tree) (item depth : ℕ) (k : ℤ) (part : Expr) (line : List ℕ) → IsPoleOf (pole k) item part depth (parts_from 1 a es)
    → line ≡ item_line (codes "pole at " ++ signed_decimal k ++ codes " of " ++ printed (letters_at depth (codes "k")) (tree_of part)) item → IsPoleRefusal (Sum a) es line
pole-refusal a es item depth k part line p is =
    record { fault = pole k p.element; cause = p.is; is = shown-line (codes "pole at " ++ signed_decimal k ++ codes " of ") item depth part p.element line p.shown is }

pub factor-refusal : (a : ℤ) (es : List Tree) (item depth : ℕ) (k : ℤ) (part : Expr) (line : List ℕ) → IsPoleOf (zero_factor k) item part depth (parts_from 1 a es)
    → line ≡ item_line (codes "zero factor at " ++ signed_decimal k ++ codes " of " ++ printed (letters_at depth (codes "k")) (tree_of part)) item → IsPoleRefusal (Sum a) es line
factor-refusal a es item depth k part line p is =
    record { fault = zero_factor k p.element; cause = p.is; is = shown-line (codes "zero factor at " ++ signed_decimal k ++ codes " of ") item depth part p.element line p.shown is }

-- the step that doesn't fit, on the way to the parts
pub stop-keeps : (stop : Stop) (a : ℤ) (es : List Tree) → IsFault (LimitStop stop) (Some a) es → KeepsWideStep stop
stop-keeps (Memory e) a es f = tt
stop-keeps (Wide w) a es f = f.1.0

pub stop-heavy : (stop : Stop) (a : ℤ) (es : List Tree) → (IsMemory stop → ⊥) → IsFault (LimitStop stop) (Some a) es → HasHeavyPart (Sum a) es
stop-heavy (Memory e) a es free f = absurd (free tt)
stop-heavy (Wide w) a es free f = f.1.1

-- ---- Values

pub value-line : (e : Tree) (n k : ℤ) (found : Option Rat) (status : Status) (line : List ℕ) → IsValue found (val e n k) → IsValueLine found status line → IsValueOutput n k (e ∷ []) status line
value-line e n k (Some r) status line h l = inl (record { status_is = l.0; number = r; is_value = h; is = l.1 })
value-line e n k None status line h l = inr (record { status_is = l.0; none = h; is = l.1 })

pub value-reply : (k : ℤ) (e : Tree) (status : Status) (line : List ℕ) → IsEvaluated e (pos 0) k status line → IsCountedReply (Value k) (e ∷ []) status line
value-reply k e status line (inl (s, w)) = inr (all-of (IsTaken (Value k)) (e ∷ []) (tt, tt), inr (inl (s, record { step = w.step; cause = w.first; spared = inl none_spared; not_narrow = λ h. h; is = w.is })))
value-reply k e status line (inr o) = inr (all-of (IsTaken (Value k)) (e ∷ []) (tt, tt), inr (inr (none_spared, o)))

pub parameter-reply : (n k : ℤ) (e : Tree) (status : Status) (line : List ℕ) → IsEvaluated e n k status line → IsCountedReply (ValueAtParameter n k) (e ∷ []) status line
parameter-reply n k e status line (inl (s, w)) =
    inr (all-of (IsTaken (ValueAtParameter n k)) (e ∷ []) (tt, tt), inr (inl (s, record { step = w.step; cause = w.first; spared = inl none_spared; not_narrow = λ h. h; is = w.is })))
parameter-reply n k e status line (inr o) = inr (all-of (IsTaken (ValueAtParameter n k)) (e ∷ []) (tt, tt), inr (inr (none_spared, o)))
