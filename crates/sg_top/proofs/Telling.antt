-- The replies to the command that asks for the sums of an expression.
--   lines-more, lines-all       the lines of the first sums, one after another
--   mark-at, marks-more, marks-all      what each expression is that is told
--   test-told       the reply to an expression that doesn't pass the tests
--   empty-told, sums-told       the lines for one that does; told-answer: what they are for the expression with its quotients
--   told-count, some-sums, none-sums    as many are told as there are sums; there are some, or none
--   examined-few, examined-form, examined-kept, examined-test, examined-told      the expression that is examined, and its replies
use Rattle.std.proofs.Common.{◌≡◌, ℕ, zero, suc, ◌+◌, ◌<◌, ◌==◌, Bool, true, false, ℤ, negsuc, List, [], ◌∷◌, ◌++◌, length, take, drop, map, get_or, codes, Option, None, refl, sym, ap, ap₂, subst, ◌∙◌, ◌⊎◌, inl, inr, append_assoc, append-nil, add-one, arith}
use Rattle.std.specs.Prelude.{All}
use Rattle.std.proofs.Math.Seq.{take-suc, take-length}
use Rattle.std.proofs.lemmas.Bool.Decides.{nat_tests}
use Rattle.std.proofs.lemmas.List.{map-append, length-map, length-take-le}
use Rattle.sg_algebra.specs.Coefficients.{Each}
use Rattle.sg_expr.specs.Tree.{tree_of}
use Rattle.sg_expr.specs.declared.tree.Expr.{Expr}
use Rattle.sg_limits.specs.declared.inspection.Facts.{Facts}
use Rattle.sg_spec.specs.Faults.{with_item}
use Rattle.sg_spec.specs.Generators.{all_sums, distinct, sums, start}
use Rattle.sg_spec.specs.Limits.{counted}
use Rattle.sg_spec.specs.Parts.{Part}
use Rattle.sg_spec.specs.Printing.{InForm}
use Rattle.sg_spec.specs.Tree.{Tree}
use Rattle.sg_worth_theory.proofs.Plain.{HasNoProduct}
use Rattle.sg_words.specs.declared.asked.Command.TheVariants.{Sum, Tower}
use Rattle.sg_forms_theory.specs.Sums.{AreStandings}
use Rattle.sg_forms.specs.Commands.{AreTold}
use Rattle.sg_forms.specs.Marks.{mark_of, marks_of}
use Rattle.sg_forms.specs.Wholes.{IsWhole}
use Rattle.sg_forms.specs.declared.frees.Standing.{Standing}
use Rattle.sg_top.specs.Lines.{item_line, standing_line, standing_lines, tower_lines}
use Rattle.sg_top.specs.Stages.{IsTaken, undivided}
use Rattle.sg_top.specs.Refusals.{IsLaterRefusal, IsSpared, HasHeavyPart}
use Rattle.sg_top.specs.Output.{IsReadBack, AreTowerLines}
use Rattle.sg_top.specs.Answer.{IsCountedReply, IsTakenReply}
use Rattle.sg_top.specs.Taking.{IsFirstLater, AreTested, IsStopped, IsTestReply, IsToldReply}
use Rattle.sg_top.specs.declared.status.Status.{Status}
use Rattle.sg_top.specs.declared.status.Status.TheVariants.{Done}
use Rattle.sg_top.proofs.Items.{all-of}
use Rattle.sg_top.proofs.Undivided.{all_prods-undivided, sums-undivided, start-undivided, counted-undivided, form-undivided, parts-undivided}

-- ---- Lines

lines-append : (s : ℤ) (gs hs : List Tree) (os ps : List (Option Tree)) → length gs ≡ length os → standing_lines s (gs ++ hs) (os ++ ps) ≡ standing_lines s gs os ++ standing_lines s hs ps
lines-append s [] hs [] ps e = refl
lines-append s [] hs (o ∷ os) ps e = absurd (omega (arith, e))
lines-append s (g ∷ gs) hs [] ps e = absurd (omega (arith, e))
lines-append s (g ∷ gs) hs (o ∷ os) ps e =
    ap (λ (l : List ℕ). standing_line s g o ++ l) (lines-append s gs hs os ps (omega (arith, e))) ∙ sym (append_assoc (standing_line s g o) (standing_lines s gs os) (standing_lines s hs ps))

one-more : {A : Type 0} (xs : List A) (i : ℕ) (x : A) → i < length xs → x ≡ get_or xs i x → take (i + 1) xs ≡ take i xs ++ (x ∷ [])
one-more xs i x l e = ap (λ n. take n xs) (add-one i) ∙ take-suc xs i x l ∙ ap (λ t. take i xs ++ (t ∷ [])) (sym e)

pub lines-more : (s : ℤ) (gens : List Expr) (told : List Standing) (i : ℕ) (g : Expr) (st : Standing) (old new line : List ℕ) → length told ≡ length gens → i < length gens → g ≡ get_or gens i g → st ≡ get_or told i st
    → old ≡ standing_lines s (map tree_of (take i gens)) (marks_of (take i told)) → line ≡ standing_line s (tree_of g) (mark_of st) → new ≡ old ++ line
    → new ≡ standing_lines s (map tree_of (take (i + 1) gens)) (marks_of (take (i + 1) told))
lines-more s gens told i g st old new line count l e f was is grows =
    let gens-next = ap (map tree_of) (one-more gens i g l e) ∙ map-append tree_of (take i gens) (g ∷ []) in
    let told-next = ap marks_of (one-more told i st (omega (arith, l, count)) f) ∙ map-append mark_of (take i told) (st ∷ []) in
    let left = length-map (take i gens) tree_of ∙ length-take-le i gens (omega (arith, l)) in
    let right = length-map (take i told) mark_of ∙ length-take-le i told (omega (arith, l, count)) in
    grows ∙ ap₂ (λ (u v : List ℕ). u ++ v) was (is ∙ sym (append-nil (standing_line s (tree_of g) (mark_of st))))
    ∙ sym (lines-append s (map tree_of (take i gens)) (tree_of g ∷ []) (marks_of (take i told)) (mark_of st ∷ []) (left ∙ sym right))
    ∙ sym (ap₂ (λ (u : List Tree) (v : List (Option Tree)). standing_lines s u v) gens-next told-next)

pub lines-all : (s : ℤ) (gens : List Expr) (told : List Standing) (i : ℕ) (text : List ℕ) → length told ≡ length gens → i ≡ length gens → text ≡ standing_lines s (map tree_of (take i gens)) (marks_of (take i told))
    → text ≡ standing_lines s (map tree_of gens) (marks_of told)
lines-all s gens told i text count e is =
    is ∙ ap₂ (λ (u : List Expr) (v : List Standing). standing_lines s (map tree_of u) (marks_of v)) (ap (λ n. take n gens) e ∙ take-length gens) (ap (λ n. take n told) (e ∙ sym count) ∙ take-length told)

-- ---- What each is

pub mark-at : (P : Option Tree → Type 0) (told : List Standing) (i : ℕ) (st : Standing) → i < length told → st ≡ get_or told i st → Each P (marks_of told) → P (mark_of st)
mark-at P [] i st l e h = absurd (omega (arith, l))
mark-at P (x ∷ told) zero st l e h = subst (λ (y : Standing). P (mark_of y)) (sym e) h.0
mark-at P (x ∷ told) (suc i) st l e h = mark-at P told i st (omega (arith, l)) e h.1

each-append : (P : Option Tree → Type 0) (os : List (Option Tree)) (o : Option Tree) → Each P os → P o → Each P (os ++ (o ∷ []))
each-append P [] o h p = (p, tt)
each-append P (x ∷ os) o h p = (h.0, each-append P os o h.1 p)

pub marks-more : (P : Option Tree → Type 0) (told : List Standing) (i : ℕ) (st : Standing) → i < length told → st ≡ get_or told i st → Each P (marks_of (take i told)) → P (mark_of st) → Each P (marks_of (take (i + 1) told))
marks-more P told i st l e h p =
    subst (Each P) (sym (ap marks_of (one-more told i st l e) ∙ map-append mark_of (take i told) (st ∷ []))) (each-append P (marks_of (take i told)) (mark_of st) h p)

pub marks-all : (P : Option Tree → Type 0) (told : List Standing) (i : ℕ) → i ≡ length told → Each P (marks_of (take i told)) → Each P (marks_of told)
marks-all P told i e h = subst (λ (l : List Standing). Each P (marks_of l)) (ap (λ n. take n told) e ∙ take-length told) h

-- ---- The tests

no-middle : {A : Type 0} (before after : List A) (x : A) → [] ≡ before ++ x ∷ after → ⊥
no-middle [] after x e = cc
no-middle (y ∷ before) after x e = cc

alone-split : (u : Tree) (before after : List Tree) (x : Tree) → u ∷ [] ≡ before ++ x ∷ after → (length before ≡ 0) × (u ≡ x)
alone-split u [] after x e = (refl, ap (λ l. get_or l 0 u) e)
alone-split u (y ∷ before) after x e = absurd (no-middle before after x (ap (λ l. drop 1 l) e))

later-told : (f : Tree) (item : ℕ) (line : List ℕ) → IsFirstLater item (undivided f ∷ []) → line ≡ item_line (codes "later") item → IsLaterRefusal Tower (f ∷ []) line
later-told f item line l is =
    let (none, first) = alone-split (undivided f) l.before l.after l.expression l.split in
    record {
      before = [];
      expression = f;
      after = [];
      split = refl;
      taken = all-of (IsTaken Tower) [] tt;
      not_taken = λ h. l.product (subst HasNoProduct first (all_prods-undivided f ∙ h));
      is = is ∙ ap (item_line (codes "later")) (l.item_is ∙ ap (λ n. n + 1) none);
    }

plain-told : (f : Tree) → Each HasNoProduct (undivided f ∷ []) → All (IsTaken Tower) (f ∷ [])
plain-told f h = all-of (IsTaken Tower) (f ∷ []) (sym (all_prods-undivided f) ∙ h.0, tt)

-- an expression without sums and products has no heavy part
light-told : (f : Tree) → HasNoProduct f → HasHeavyPart Tower (f ∷ []) → all_sums f ≡ [] → ⊥
light-told f plain heavy none =
    let no_parts = ap (λ (ps : List Part). with_item 1 ps ++ []) (parts-undivided (negsuc 1000) 0 f none plain) in
    no-middle heavy.before heavy.after heavy.element (sym no_parts ∙ heavy.split)

wide-told : (f : Tree) (status : Status) (line : List ℕ) → (IsSpared Tower (f ∷ []) ⊎ HasHeavyPart Tower (f ∷ [])) → IsStopped status line → (all_sums f ≡ [] → ⊥) → IsTakenReply Tower (f ∷ []) status line
wide-told f status line spared s some = inr (inl (s.wide, record { step = s.step; cause = s.too_wide; spared = spared; not_narrow = some; is = s.is }))

pub test-told : (f : Tree) (status : Status) (line : List ℕ) → IsTestReply (negsuc 1000) (undivided f ∷ []) status line → IsCountedReply Tower (f ∷ []) status line
test-told f status line (inl (refused, (item, l, is))) = inl (refused, later-told f item line l is)
test-told f status line (inr (h, inl (refused, p))) = inr (plain-told f h, inl (refused, record { fault = p.fault; cause = p.cause; is = p.is }))
test-told f status line (inr (h, inr (s, heavy))) =
    inr (plain-told f h, wide-told f status line (inr heavy) s (light-told f (sym (all_prods-undivided f) ∙ h.0) heavy))

-- ---- What the sums are

pub empty-told : (es : List Tree) (status : Status) (line : List ℕ) → length es ≡ 1 → sums es ≡ [] → status ≡ Done → line ≡ codes "empty\n" → IsToldReply es status line
empty-told [] status line one none done is = absurd (omega (arith, one))
empty-told (f ∷ (g ∷ es)) status line one none done is = absurd (omega (arith, one))
empty-told (f ∷ []) status line one none done is =
    inr (record {
      status_is = done;
      standings = [];
      are = subst (λ (ss : List Tree). AreStandings IsWhole (start (f ∷ []) (negsuc 1000)) ss []) (sym none) (record { count = refl; each = λ i l. absurd (omega (arith, l)) });
      read_back = tt;
      is = is ∙ sym (ap (λ (ss : List Tree). tower_lines (start (f ∷ []) (negsuc 1000)) ss []) none);
    })

some-lines : (s : ℤ) (ss : List Tree) (os : List (Option Tree)) → (ss ≡ [] → ⊥) → standing_lines s ss os ≡ tower_lines s ss os
some-lines s [] os some = absurd (some refl)
some-lines s (g ∷ gs) os some = refl

pub sums-told : (es : List Tree) (gens : List Expr) (told : List Standing) (s : ℤ) (status : Status) (line : List ℕ) → length es ≡ 1 → map tree_of gens ≡ sums es → (sums es ≡ [] → ⊥) → s ≡ start es (negsuc 1000)
    → AreTold (start es (negsuc 1000)) (sums es) told → Each IsReadBack (marks_of told) → status ≡ Done → line ≡ standing_lines s (map tree_of gens) (marks_of told) → IsToldReply es status line
sums-told [] gens told s status line one same some at are back done is = absurd (omega (arith, one))
sums-told (f ∷ (g ∷ es)) gens told s status line one same some at are back done is = absurd (omega (arith, one))
sums-told (f ∷ []) gens told s status line one same some at are back done is =
    inr (record {
      status_is = done;
      standings = marks_of told;
      are = are;
      read_back = back;
      is = is ∙ ap₂ (λ (k : ℤ) (ss : List Tree). standing_lines k ss (marks_of told)) at same ∙ some-lines (start (f ∷ []) (negsuc 1000)) (sums (f ∷ [])) (marks_of told) some;
    })

pub told-count : (s : ℤ) (ss : List Tree) (gens : List Expr) (told : List Standing) → map tree_of gens ≡ ss → AreTold s ss told → length told ≡ length gens
told-count s ss gens told same are = sym (length-map told mark_of) ∙ are.count ∙ ap (λ (l : List Tree). length l) (sym same) ∙ length-map gens tree_of

pub some-sums : (gens : List Expr) (ss : List Tree) (b : Bool) → b ≡ (length gens == 0) → b ≡ false → map tree_of gens ≡ ss → ss ≡ [] → ⊥
some-sums [] ss b e f same none = let no_truth : true ≡ false = sym e ∙ f in absurd (cc)
some-sums (x ∷ gens) ss b e f same none = let no_list : tree_of x ∷ map tree_of gens ≡ [] = same ∙ none in absurd (cc)

pub none-sums : (gens : List Expr) (ss : List Tree) (b : Bool) → b ≡ (length gens == 0) → b ≡ true → map tree_of gens ≡ ss → ss ≡ []
none-sums [] ss b e f same = sym same
none-sums (x ∷ gens) ss b e f same = let empty : length (x ∷ gens) ≡ 0 = grind (arith, nat_tests) in absurd (omega (arith, empty))

-- ---- With quotients

lines-told : (f : Tree) (status : Status) (line : List ℕ) → AreTowerLines (undivided f) status line → AreTowerLines f status line
lines-told f status line lines = record {
  status_is = lines.status_is;
  standings = lines.standings;
  are =
      subst (λ (k : ℤ). AreStandings IsWhole k (sums (f ∷ [])) lines.standings) (start-undivided f (negsuc 1000))
      (subst (λ (ss : List Tree). AreStandings IsWhole (start (undivided f ∷ []) (negsuc 1000)) ss lines.standings) (sums-undivided f) lines.are);
  read_back = lines.read_back;
  is = lines.is ∙ ap₂ (λ (k : ℤ) (ss : List Tree). tower_lines k ss lines.standings) (start-undivided f (negsuc 1000)) (sums-undivided f);
}

pub told-answer : (f : Tree) (status : Status) (line : List ℕ) → Each HasNoProduct (undivided f ∷ []) → IsSpared (Sum (negsuc 1000)) (undivided f ∷ []) → IsToldReply (undivided f ∷ []) status line
    → IsCountedReply Tower (f ∷ []) status line
told-answer f status line h spared (inl (s, some)) =
    inr (plain-told f h, wide-told f status line (inl spared) s (λ none. some (sums-undivided f ∙ ap (λ (ts : List Tree). distinct (ts ++ [])) none)))
told-answer f status line h spared (inr lines) = inr (plain-told f h, inr (inr (spared, lines-told f status line lines)))

module _ (es examined : List Tree) (f : Tree) (alone : es ≡ f ∷ []) (is : examined ≡ undivided f ∷ []) where
  pub examined-few : length examined ≡ 1
  examined-few = ap (λ (l : List Tree). length l) is

  pub examined-form : Each (InForm false false) es → Each (InForm false false) examined
  examined-form h = subst (Each (InForm false false)) (sym is) (form-undivided false false f (subst (Each (InForm false false)) alone h).0, tt)

  pub examined-kept : counted es ≡ None → counted examined ≡ None
  examined-kept h = ap counted is ∙ counted-undivided f ∙ sym (ap counted alone) ∙ h

  pub examined-test : (status : Status) (line : List ℕ) → IsTestReply (negsuc 1000) examined status line → IsCountedReply Tower es status line
  examined-test status line t =
      subst (λ (l : List Tree). IsCountedReply Tower l status line) (sym alone)
      (test-told f status line (subst (λ (l : List Tree). IsTestReply (negsuc 1000) l status line) is t))

  pub examined-told : (facts : Facts) (status : Status) (line : List ℕ) → AreTested (negsuc 1000) facts examined → IsToldReply examined status line → IsCountedReply Tower es status line
  examined-told facts status line tested told =
      let known = subst (λ (l : List Tree). AreTested (negsuc 1000) facts l) is tested in
      subst (λ (l : List Tree). IsCountedReply Tower l status line) (sym alone)
      (told-answer f status line known.plain known.spared (subst (λ (l : List Tree). IsToldReply l status line) is told))
