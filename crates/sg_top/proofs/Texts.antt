-- The texts of a command, one after another.
--   read-length, read-first, read-next      as many expressions as texts; the first one, and one more
--   refused-first, refused-next      the line of a text that is refused, after others that are read
--   form-first                  what a text tells that is no sum as a whole
--   read-form                   what is read is in reader's form
--   limited                     the numbers of a command are within their ranges
--   has-texts                   it has so many texts
--   some-texts, few-texts       at least one, and at most 16
use Rattle.std.proofs.Common.{◌≡◌, ℕ, suc, ◌+◌, ◌<◌, ◌≤◌, List, [], ◌∷◌, ◌++◌, length, take, drop, get_or, map, Some, refl, sym, ap, subst, ◌∙◌, arith, add-one}
use Rattle.std.proofs.Math.Seq.{take-suc, drop-cons}
use Rattle.std.proofs.lemmas.List.{take-append-drop, map-append, length-map}
use Rattle.sg_expr.specs.Tree.{tree_of}
use Rattle.sg_expr.specs.declared.tree.Expr.{Expr}
use Rattle.sg_spec.specs.Reading.{Refusal, faulty, form}
use Rattle.sg_spec.specs.Tree.{Tree}
use Rattle.sg_text.proofs.PrintForms.{read_form}
use Rattle.sg_words.specs.Words.{IsCommand, HasTexts}
use Rattle.sg_words.specs.declared.asked.Command.{Command}
use Rattle.sg_words.specs.declared.asked.Command.TheVariants.{Sum, Tower, Simplify, Check, Value, ValueAtParameter}
use Rattle.sg_top.specs.Lines.{refusal_words, item_line}
use Rattle.sg_top.specs.Stages.{input_bounds, letters_of, IsReadAt, AreReadFrom, AreRead}
use Rattle.sg_top.specs.Refusals.{IsRefusedAt, IsTextRefusal}
use Rattle.sg_top.specs.Taking.{AreInForm, IsLimited}

pub read-length : (c : Command) (item : ℕ) (texts : List (List ℕ)) (es : List Tree) → AreReadFrom c item texts es → length es ≡ length texts
read-length c item [] [] r = refl
read-length c item [] (e ∷ es) r = absurd r
read-length c item (text ∷ texts) [] r = absurd r
read-length c item (text ∷ texts) (e ∷ es) r = ap suc (read-length c (item + 1) texts es r.1)

pub read-form : (c : Command) (item : ℕ) (texts : List (List ℕ)) (es : List Tree) → AreReadFrom c item texts es → AreInForm c es
read-form c item [] [] r = tt
read-form c item [] (e ∷ es) r = absurd r
read-form c item (text ∷ texts) [] r = absurd r
read-form c item (text ∷ texts) (e ∷ es) r = (read_form input_bounds (letters_of c) text e r.0.0, read-form c (item + 1) texts es r.1)

read-more : (c : Command) (item n : ℕ) (texts : List (List ℕ)) (text : List ℕ) (es : List Tree) (e : Tree) → AreReadFrom c item texts es → n ≡ item + length es → IsReadAt c n text e
    → AreReadFrom c item (texts ++ (text ∷ [])) (es ++ (e ∷ []))
read-more c item n [] text [] e r at h = let same : n ≡ item = omega arith in (subst (λ m. IsReadAt c m text e) same h, tt)
read-more c item n [] text (x ∷ es) e r at h = absurd r
read-more c item n (t ∷ texts) text [] e r at h = absurd r
read-more c item n (t ∷ texts) text (x ∷ es) e r at h = (r.0, read-more c (item + 1) n texts text es e r.1 (omega arith) h)

pub read-first : (c : Command) (text : List ℕ) (items new : List Expr) (e : Expr) → items ≡ [] → IsReadAt c 1 text (tree_of e) → new ≡ items ++ (e ∷ []) → AreRead c (text ∷ []) (map tree_of new)
read-first c text items new e none h is =
    let alone : new ≡ e ∷ [] = is ∙ ap (λ (l : List Expr). l ++ (e ∷ [])) none in
    rw alone (h, tt)

pub read-next : (c : Command) (first : List ℕ) (others : List (List ℕ)) (i : ℕ) (text : List ℕ) (items new : List Expr) (e : Expr) → i < length others → text ≡ get_or others i text
    → AreRead c (first ∷ take i others) (map tree_of items) → IsReadAt c (length items + 1) text (tree_of e) → new ≡ items ++ (e ∷ []) → AreRead c (first ∷ take (i + 1) others) (map tree_of new)
read-next c first others i text items new e h at r k is =
    let before : take (i + 1) others ≡ take i others ++ (text ∷ []) = ap (λ n. take n others) (add-one i) ∙ take-suc others i text h ∙ ap (λ t. take i others ++ (t ∷ [])) (sym at) in
    let place : length items + 1 ≡ 1 + length (map tree_of items) = omega (arith, length-map items tree_of) in
    rw (before, is, map-append tree_of items (e ∷ [])) (read-more c 1 (length items + 1) (first ∷ take i others) text (map tree_of items) (tree_of e) r place k)

pub refused-first : (c : Command) (first : List ℕ) (others : List (List ℕ)) (r : Refusal) (line : List ℕ) → IsRefusedAt c 1 first r → line ≡ item_line (refusal_words r) 1 → IsTextRefusal c (first ∷ others) line
refused-first c first others r line cause is =
    record { before = []; text = first; after = others; split = refl; trees = []; read = tt; refusal = r; cause = cause; is = is }

pub refused-next : (c : Command) (first : List ℕ) (others : List (List ℕ)) (i : ℕ) (text : List ℕ) (items : List Expr) (r : Refusal) (line : List ℕ) → i < length others → text ≡ get_or others i text
    → AreRead c (first ∷ take i others) (map tree_of items) → IsRefusedAt c (length items + 1) text r → line ≡ item_line (refusal_words r) (length items + 1) → IsTextRefusal c (first ∷ others) line
refused-next c first others i text items r line h at read cause is =
    let cut : drop i others ≡ text ∷ drop (suc i) others = drop-cons others i text h ∙ ap (λ t. t ∷ drop (suc i) others) (sym at) in
    let count : length items ≡ length (first ∷ take i others) = sym (length-map items tree_of) ∙ read-length c 1 (first ∷ take i others) (map tree_of items) read in
    record {
      before = first ∷ take i others;
      text = text;
      after = drop (suc i) others;
      split = ap (λ t. first ∷ t) (sym (take-append-drop i others) ∙ ap (λ t. take i others ++ t) cut);
      trees = map tree_of items;
      read = read;
      refusal = r;
      cause = subst (λ n. IsRefusedAt c (n + 1) text r) count cause;
      is = is ∙ ap (λ n. item_line (refusal_words r) (n + 1)) count;
    }

pub form-first : (r : Refusal) → Some (faulty (record { kind = form; place = 0 })) ≡ Some r → r ≡ faulty (record { kind = form; place = 0 })
form-first r e = cc

-- ---- Commands; a line a command

pub limited : (words : List (List ℕ)) (c : Command) (texts : List (List ℕ)) → IsCommand words c texts → IsLimited c
limited [] (Sum a) texts i = absurd i.0
limited (w ∷ []) (Sum a) texts i = absurd i.0.1
limited (w ∷ (v ∷ vs)) (Sum a) texts i = (i.0.1.0.not_low, i.0.1.0.not_high)
limited words Tower texts i = tt
limited [] (Simplify a) texts i = absurd i.0
limited (w ∷ []) (Simplify a) texts i = absurd i.0.1
limited (w ∷ (v ∷ vs)) (Simplify a) texts i = (i.0.1.0.not_low, i.0.1.0.not_high)
limited [] (Check a) texts i = absurd i.0
limited (w ∷ []) (Check a) texts i = absurd i.0.1
limited (w ∷ (v ∷ vs)) (Check a) texts i = (i.0.1.0.not_low, i.0.1.0.not_high)
limited words (Value k) texts i = tt
limited words (ValueAtParameter n k) texts i = tt

pub has-texts : (words : List (List ℕ)) (c : Command) (texts : List (List ℕ)) → IsCommand words c texts → HasTexts c (length texts)
has-texts words (Sum a) texts i = i.1
has-texts words Tower texts i = i.1
has-texts words (Simplify a) texts i = i.1
has-texts words (Check a) texts i = i.1
has-texts words (Value k) texts i = i.1
has-texts words (ValueAtParameter n k) texts i = i.1

pub some-texts : (c : Command) (n : ℕ) → HasTexts c n → 0 < n
some-texts (Sum a) n h = omega arith
some-texts Tower n h = omega arith
some-texts (Simplify a) n h = omega arith
some-texts (Check a) n h = omega arith
some-texts (Value k) n h = omega arith
some-texts (ValueAtParameter m k) n h = omega arith

pub few-texts : (c : Command) (n : ℕ) → HasTexts c n → n ≤ 16
few-texts (Sum a) n h = omega arith
few-texts Tower n h = omega arith
few-texts (Simplify a) n h = omega arith
few-texts (Check a) n h = omega arith
few-texts (Value k) n h = omega arith
few-texts (ValueAtParameter m k) n h = omega arith
