-- Which command words are, by how many they are.
--   words-split              the first word, and the others
--   with-split               the word `with`, and one to eight texts
--   value-no_parameter       three words after `value`, of which the second is no parameter, are no command
--   value-at_parameter       three words after `value`, of which the first two are a point and a parameter
--   word-ascii               a number word is a text
--   natural-same             a number that isn't below 0
--   one-word                 the only word
--   gen-words                three words that are `gen`, a seed and a count; no-seed, no-count, gen-three, gen-first: what else they are
use Rattle.std.specs.Prelude.{◌≡◌, ℕ, zero, suc, ◌-◌, ◌≤◌, ◌<◌, ◌==◌, ◌⊎◌, cond, nat_lt, true, false, Bool, IsTrue, List, [], ◌∷◌, length, take, drop, ℤ, pos, negsuc, ◌≤ℤ◌, unsigned_abs, codes, slice_index}
use Rattle.std.specs.Str.{IsAscii, IsUtf8}
use Rattle.std.specs.Str.Parse.{AllDigits}
use Rattle.std.proofs.Common.{refl, arith, get_or, sym, ap, ◌∙◌, subst, inl, inr}
use Rattle.std.proofs.Math.Seq.{take-length}
use Rattle.std.proofs.lemmas.Bool.Decides.{nat_tests}
use Rattle.std.proofs.lemmas.Int.{ints}
use Rattle.std.proofs.lemmas.Str.{IsUtf8-from_ascii}
use Rattle.std.proofs.lemmas.Str.Parse.{digit_at}
use Rattle.sg_words.specs.declared.asked.Command.TheVariants.{Sum, Tower, Simplify, Check, Value, ValueAtParameter}
use Rattle.sg_words.specs.Words.{IsNumberWord, IsCommand, IsNoCommand, IsGenWords, after_with}

pub words-split : (xs : List (List ℕ)) (x word : List ℕ) → 1 ≤ length xs → x ≡ get_or xs 0 x → x ≡ word → xs ≡ word ∷ take (length xs - 1) (drop 1 xs)
words-split [] x word l e w = absurd (omega arith)
words-split (y ∷ ys) x word l e w =
    let n : length (y ∷ ys) - 1 ≡ length ys = omega arith in
    let rest : take (length (y ∷ ys) - 1) ys ≡ ys = rw n (take-length ys) in
    rw rest (ap (λ v. v ∷ ys) (sym e ∙ w))

-- what stands after `value` is one text and no more, or the words are another command's
value-alone : (y z : List ℕ) (texts : List (List ℕ)) → (y ∷ (z ∷ [])) ≡ texts → length texts ≡ 1 → ⊥
value-alone y z texts e l = let l2 : length texts ≡ 2 = ap length (sym e) in omega arith

pub value-no_parameter : (xs : List (List ℕ)) (y : List ℕ) → length xs ≡ 3 → y ≡ get_or xs 1 y → ((n : ℤ) → IsNumberWord (pos 0) (pos 100000) y n → ⊥) → IsNoCommand (codes "value" ∷ xs)
value-no_parameter [] y l e h c texts i = absurd (omega arith)
value-no_parameter (x ∷ []) y l e h c texts i = absurd (omega arith)
value-no_parameter (x ∷ (w ∷ [])) y l e h c texts i = absurd (omega arith)
value-no_parameter (x ∷ (w ∷ (z ∷ (v ∷ vs)))) y l e h c texts i = absurd (omega arith)
value-no_parameter (x ∷ (w ∷ (z ∷ []))) y l e h (Sum a) texts i = let other : codes "value" ≡ codes "sum" = i.0.0 in absurd (cc)
value-no_parameter (x ∷ (w ∷ (z ∷ []))) y l e h Tower texts i = let other : 118 ≡ 116 = ap (λ (l : List ℕ). get_or l 0 0) i.0.0 in absurd (omega (arith, other))
value-no_parameter (x ∷ (w ∷ (z ∷ []))) y l e h (Simplify a) texts i = let other : 118 ≡ 115 = ap (λ (l : List ℕ). get_or l 0 0) i.0.0 in absurd (omega (arith, other))
value-no_parameter (x ∷ (w ∷ (z ∷ []))) y l e h (Check a) texts i = let other : 118 ≡ 99 = ap (λ (l : List ℕ). get_or l 0 0) i.0.0 in absurd (omega (arith, other))
value-no_parameter (x ∷ (w ∷ (z ∷ []))) y l e h (Value k) texts i = value-alone w z texts i.0.1.1 i.1
value-no_parameter (x ∷ (w ∷ (z ∷ []))) y l e h (ValueAtParameter n k) texts i =
    h n (subst (λ u. IsNumberWord (pos 0) (pos 100000) u n) (sym e) i.0.1.1.0)

pub value-at_parameter : (xs : List (List ℕ)) (x y f : List ℕ) (n k m p : ℤ) → length xs ≡ 3 → x ≡ get_or xs 0 x → y ≡ get_or xs 1 y → f ≡ get_or xs 2 f
    → IsNumberWord (negsuc 99999) (pos 100000) x k → IsNumberWord (pos 0) (pos 100000) y n → m ≡ n → p ≡ k
    → IsCommand (codes "value" ∷ xs) (ValueAtParameter m p) (f ∷ take (length xs - 3) (drop 3 xs))
value-at_parameter [] x y f n k m p l e d g i j a b = absurd (omega arith)
value-at_parameter (u ∷ []) x y f n k m p l e d g i j a b = absurd (omega arith)
value-at_parameter (u ∷ (v ∷ [])) x y f n k m p l e d g i j a b = absurd (omega arith)
value-at_parameter (u ∷ (v ∷ (z ∷ (w ∷ ws)))) x y f n k m p l e d g i j a b = absurd (omega arith)
value-at_parameter (u ∷ (v ∷ (z ∷ []))) x y f n k m p l e d g i j a b =
    let at : IsNumberWord (negsuc 99999) (pos 100000) u p = subst (IsNumberWord (negsuc 99999) (pos 100000) u) (sym b) (subst (λ q. IsNumberWord (negsuc 99999) (pos 100000) q k) e i) in
    let for : IsNumberWord (pos 0) (pos 100000) v m = subst (IsNumberWord (pos 0) (pos 100000) v) (sym a) (subst (λ q. IsNumberWord (pos 0) (pos 100000) q n) d j) in
    ((refl, (at, (for, ap (λ q. q ∷ []) (sym g)))), refl)

-- ---- Sums

pub with-split : (xs : List (List ℕ)) (x : List ℕ) → 2 ≤ length xs → length xs ≤ 9 → x ≡ get_or xs 0 x → x ≡ codes "with"
    → (xs ≡ after_with (take (length xs - 1) (drop 1 xs))) × (length (take (length xs - 1) (drop 1 xs)) ≤ 8)
with-split [] x l m e w = absurd (omega arith)
with-split (y ∷ []) x l m e w = absurd (omega arith)
with-split (y ∷ (z ∷ zs)) x l m e w =
    let n : length (y ∷ (z ∷ zs)) - 1 ≡ length (z ∷ zs) = omega arith in
    let rest : take (length (y ∷ (z ∷ zs)) - 1) (z ∷ zs) ≡ z ∷ zs = rw n (take-length (z ∷ zs)) in
    rw rest (ap (λ v. v ∷ (z ∷ zs)) (sym e ∙ w), omega arith)

-- ---- A number word is a text

past : (ds : List ℕ) (i : ℕ) → length ds ≤ i → get_or ds i 0 ≡ 0
past [] i l = refl
past (d ∷ ds) zero l = absurd (omega arith)
past (d ∷ ds) (suc i) l = past ds i (omega arith)

below-or : (i n : ℕ) (b : Bool) → nat_lt i n ≡ b → (i < n) ⊎ (n ≤ i)
below-or i n true e = inl (grind (arith, nat_tests))
below-or i n false e = inr (grind (arith, nat_tests))

digit-small : (ds : List ℕ) (i : ℕ) → AllDigits 10 ds → (i < length ds) ⊎ (length ds ≤ i) → get_or ds i 0 < 128
digit-small ds i d (inl l) = omega (arith, digit_at ds i d l)
digit-small ds i d (inr l) = let r : get_or ds i 0 ≡ 0 = past ds i l in omega arith

digits-ascii : (ds : List ℕ) → AllDigits 10 ds → IsAscii ds
digits-ascii ds d i = digit-small ds i d (below-or i (length ds) (nat_lt i (length ds)) refl)

minus-ascii : (b : ℕ) (ds : List ℕ) → b ≡ 45 → AllDigits 10 ds → IsAscii (b ∷ ds)
minus-ascii b ds e d zero = omega arith
minus-ascii b ds e d (suc i) = digits-ascii ds d i

sign-ascii : (word : List ℕ) (s p : Bool) → (slice_index word 0 == 45) ≡ s → (slice_index word 0 == 43) ≡ p → (slice_index word 0 ≡ 43 → ⊥)
    → AllDigits 10 (cond s (drop 1 word) (drop (cond p 1 0) word)) → IsAscii word
sign-ascii [] s p e f plus d = digits-ascii [] tt
sign-ascii (b ∷ word) true p e f plus d = minus-ascii b word (grind (arith, nat_tests)) d
sign-ascii (b ∷ word) false true e f plus d = absurd (plus (grind (arith, nat_tests)))
sign-ascii (b ∷ word) false false e f plus d = digits-ascii (b ∷ word) d

pub word-ascii : (low high z : ℤ) (word : List ℕ) → IsNumberWord low high word z → IsUtf8 word
word-ascii low high z word w = IsUtf8-from_ascii word (sign-ascii word _ _ refl refl w.no_plus w.digits.1)

-- ---- Batches and samples

pub one-word : (xs : List (List ℕ)) (x word : List ℕ) (b : Bool) → length xs ≡ 1 → x ≡ get_or xs 0 x → ((IsTrue b → x ≡ word) × (x ≡ word → IsTrue b)) → (IsTrue b → xs ≡ word ∷ []) × (xs ≡ word ∷ [] → IsTrue b)
one-word [] x word b l e h = absurd (omega arith)
one-word (y ∷ (z ∷ zs)) x word b l e h = absurd (omega arith)
one-word (y ∷ []) x word b l e h = (λ t. ap (λ u. u ∷ []) (sym e ∙ h.0 t), λ t. h.1 (e ∙ cc))

pub gen-words : (xs : List (List ℕ)) (x s t : List ℕ) (seed count : ℕ) → length xs ≡ 3 → x ≡ get_or xs 0 x → s ≡ get_or xs 1 s → t ≡ get_or xs 2 t → x ≡ codes "gen"
    → IsNumberWord (pos 0) (pos 18446744073709551615) s (pos seed) → IsNumberWord (pos 0) (pos 1000) t (pos count) → IsGenWords xs seed count
gen-words [] x s t seed count l e0 e1 e2 w n m = absurd (omega arith)
gen-words (a ∷ []) x s t seed count l e0 e1 e2 w n m = absurd (omega arith)
gen-words (a ∷ (b ∷ [])) x s t seed count l e0 e1 e2 w n m = absurd (omega arith)
gen-words (a ∷ (b ∷ (c ∷ (d ∷ ds)))) x s t seed count l e0 e1 e2 w n m = absurd (omega arith)
gen-words (a ∷ (b ∷ (c ∷ []))) x s t seed count l e0 e1 e2 w n m =
    (sym e0 ∙ w, (subst (λ u. IsNumberWord (pos 0) (pos 18446744073709551615) u (pos seed)) e1 n, (subst (λ u. IsNumberWord (pos 0) (pos 1000) u (pos count)) e2 m, refl)))

pub no-seed : (xs : List (List ℕ)) (s : List ℕ) → s ≡ get_or xs 1 s → ((z : ℤ) → IsNumberWord (pos 0) (pos 18446744073709551615) s z → ⊥) → (seed count : ℕ) → IsGenWords xs seed count → ⊥
no-seed [] s e no_number seed count g = g
no-seed (a ∷ []) s e no_number seed count g = g.1
no-seed (a ∷ (b ∷ bs)) s e no_number seed count g = no_number (pos seed) (subst (λ u. IsNumberWord (pos 0) (pos 18446744073709551615) u (pos seed)) (sym e) g.1.0)

pub no-count : (xs : List (List ℕ)) (t : List ℕ) → t ≡ get_or xs 2 t → ((z : ℤ) → IsNumberWord (pos 0) (pos 1000) t z → ⊥) → (seed count : ℕ) → IsGenWords xs seed count → ⊥
no-count [] t e no_number seed count g = g
no-count (a ∷ []) t e no_number seed count g = g.1
no-count (a ∷ (b ∷ [])) t e no_number seed count g = g.1.1
no-count (a ∷ (b ∷ (c ∷ cs))) t e no_number seed count g = no_number (pos count) (subst (λ u. IsNumberWord (pos 0) (pos 1000) u (pos count)) (sym e) g.1.1.0)

-- the words are three, and the first one is `gen`
pub gen-three : (xs : List (List ℕ)) (seed count : ℕ) → IsGenWords xs seed count → length xs ≡ 3
gen-three [] seed count g = absurd g
gen-three (a ∷ []) seed count g = absurd g.1
gen-three (a ∷ (b ∷ [])) seed count g = absurd g.1.1
gen-three (a ∷ (b ∷ (c ∷ []))) seed count g = refl
gen-three (a ∷ (b ∷ (c ∷ (d ∷ ds)))) seed count g = let l : length (d ∷ ds) ≡ 0 = ap length g.1.1.1 in absurd (omega arith)

pub gen-first : (xs : List (List ℕ)) (x : List ℕ) (seed count : ℕ) → x ≡ get_or xs 0 x → IsGenWords xs seed count → x ≡ codes "gen"
gen-first [] x seed count e g = absurd g
gen-first (a ∷ bs) x seed count e g = e ∙ g.0

pub natural-same : (z : ℤ) → pos 0 ≤ℤ z → pos (unsigned_abs z) ≡ z
natural-same (pos n) h = refl
natural-same (negsuc n) h = absurd (omega (arith, ints))
