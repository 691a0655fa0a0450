-- Counting byte by byte finds whether the lines of a text fit a batch.
--   counts         the count from a state on, beside the lines of what follows
--   counted        from the start
--   after-none     before the first byte
--   after-more     one more byte, after which what was counted fits
--   after-long     one more byte, after which it doesn't
--   after-then     one text after another
use Rattle.std.specs.Prelude.{◌≡◌, ℕ, zero, suc, ◌+◌, ◌-◌, ◌*◌, ◌≤◌, ◌<◌, ◌==◌, nat_le, cond, Bool, true, false, ◌&&◌, List, [], ◌∷◌, ◌++◌, length, take, drop}
use Rattle.std.proofs.Common.{refl, sym, ap, ◌∙◌, subst, ◌⊎◌, inl, inr, arith, get_or, add-one, zero-add, append_assoc, length-append}
use Rattle.std.proofs.Math.Seq.{take-suc, drop-cons}
use Rattle.std.proofs.lemmas.List.{take-append-drop, append-nil}
use Rattle.std.proofs.lemmas.Bool.Decides.{nat_tests}
use Rattle.sg_lines.specs.Lines.{with_byte, pieces, lines_of, short_lines, fits_batch}
use Rattle.sg_lines.specs.Counting.{no_line, after_byte, fits_so_far, fits_from, IsSmall, HoldsAtMost, IsAfter, IsLong}
use Rattle.sg_lines.specs.declared.whole.Count.{Count}

-- what is said of the lines that follow, where so many have begun and so many bytes of the last one are read
abbrev fits_with : ℕ → ℕ → List (List ℕ) → Bool
fits_with n zero ls = nat_le (n + length ls) 1000 && short_lines ls
fits_with n (suc l) [] = true
fits_with n (suc l) (p ∷ ps) = nat_le (n + length ps) 1000 && (nat_le (suc l + length p) 4096 && short_lines ps)

abbrev at : ℕ → ℕ → Count
at n l = record { lines = n; bytes = l }

abbrev begun : ℕ → ℕ → ℕ
begun n l = cond (l == 0) (n + 1) n

feed-none : (n m : ℕ) (more s : Bool) → n ≤ 1000 → (n + 1 ≤ 1000 → more ≡ (nat_le (n + 1 + m) 1000 && s)) → ((nat_le (n + 1) 1000 && nat_le 0 4096) && more) ≡ (nat_le (n + (m + 1)) 1000 && (nat_le 0 4096 && s))
feed-none n m more s h ih = grind (arith, nat_tests)

feed-open : (n l m : ℕ) (more s : Bool) → n ≤ 1000 → l + 1 ≤ 4096 → more ≡ (nat_le (n + m) 1000 && s) → ((nat_le n 1000 && nat_le 0 4096) && more) ≡ (nat_le (n + m) 1000 && (nat_le (l + 1 + 0) 4096 && s))
feed-open n l m more s h k ih = grind (arith, nat_tests)

first-alone : (n : ℕ) (more : Bool) → (n + 1 ≤ 1000 → more ≡ true) → ((nat_le (n + 1) 1000 && nat_le 1 4096) && more) ≡ (nat_le (n + 1) 1000 && (nat_le 1 4096 && true))
first-alone n more ih = grind (arith, nat_tests)

first-more : (n m p : ℕ) (more s : Bool) → (n + 1 ≤ 1000 → more ≡ (nat_le (n + 1 + m) 1000 && (nat_le (1 + p) 4096 && s)))
    → ((nat_le (n + 1) 1000 && nat_le 1 4096) && more) ≡ (nat_le (n + (m + 1)) 1000 && (nat_le (p + 1) 4096 && s))
first-more n m p more s ih = grind (arith, nat_tests)

other-alone : (n l : ℕ) (more : Bool) → n ≤ 1000 → (l + 1 + 1 ≤ 4096 → more ≡ true) → ((nat_le n 1000 && nat_le (l + 1 + 1) 4096) && more) ≡ (nat_le (n + 0) 1000 && (nat_le (l + 1 + 1) 4096 && true))
other-alone n l more h ih = grind (arith, nat_tests)

other-more : (n l m p : ℕ) (more s : Bool) → n ≤ 1000 → (l + 1 + 1 ≤ 4096 → more ≡ (nat_le (n + m) 1000 && (nat_le (l + 1 + 1 + p) 4096 && s)))
    → ((nat_le n 1000 && nat_le (l + 1 + 1) 4096) && more) ≡ (nat_le (n + m) 1000 && (nat_le (l + 1 + (p + 1)) 4096 && s))
other-more n l m p more s h ih = grind (arith, nat_tests)

begun-open : (n l : ℕ) → begun n (suc l) ≡ n
begun-open n l = grind (arith, nat_tests)

feed : (n l : ℕ) (ls : List (List ℕ)) (more : Bool) → n ≤ 1000 → l ≤ 4096 → (begun n l ≤ 1000 → more ≡ fits_with (begun n l) 0 ls) → ((nat_le (begun n l) 1000 && nat_le 0 4096) && more) ≡ fits_with n l ([] ∷ ls)
feed n zero ls more h k ih = rw (← add-one (length ls)) (feed-none n (length ls) more (short_lines ls) h ih)
feed n (suc l) ls more h k ih =
    let e : begun n (suc l) ≡ n = begun-open n l in
    let now : n ≤ 1000 → more ≡ fits_with n 0 ls = subst (λ b. b ≤ 1000 → more ≡ fits_with b 0 ls) e ih in
    rw (e, ← add-one l) (feed-open n l (length ls) more (short_lines ls) h (omega arith) (now h))

other : (n l b : ℕ) (ls : List (List ℕ)) (more : Bool) → n ≤ 1000 → (begun n l ≤ 1000 → l + 1 ≤ 4096 → more ≡ fits_with (begun n l) (l + 1) ls)
    → ((nat_le (begun n l) 1000 && nat_le (l + 1) 4096) && more) ≡ fits_with n l (with_byte b ls)
other n zero b [] more h ih = first-alone n more (λ q. ih q (omega arith))
other n zero b (p ∷ ps) more h ih = rw (← add-one (length ps), ← add-one (length p)) (first-more n (length ps) (length p) more (short_lines ps) (λ q. ih q (omega arith)))
other n (suc l) b [] more h ih =
    let e : begun n (suc l) ≡ n = begun-open n l in
    let now : n ≤ 1000 → suc l + 1 ≤ 4096 → more ≡ fits_with n (suc l + 1) [] = subst (λ m. m ≤ 1000 → suc l + 1 ≤ 4096 → more ≡ fits_with m (suc l + 1) []) e ih in
    let as_suc : suc l + 1 ≡ suc (suc l) = add-one (suc l) in
    rw (e, ← add-one l) (other-alone n l more h (λ q. rw as_suc at (now h (omega arith))))
other n (suc l) b (p ∷ ps) more h ih =
    let e : begun n (suc l) ≡ n = begun-open n l in
    let now : n ≤ 1000 → suc l + 1 ≤ 4096 → more ≡ fits_with n (suc l + 1) (p ∷ ps) = subst (λ m. m ≤ 1000 → suc l + 1 ≤ 4096 → more ≡ fits_with m (suc l + 1) (p ∷ ps)) e ih in
    let as_suc : suc l + 1 ≡ suc (suc l) = add-one (suc l) in
    let plus : suc (suc l) ≡ l + 1 + 1 = omega arith in
    rw (e, ← add-one l, ← add-one (length p)) (other-more n l (length ps) (length p) more (short_lines ps) h (λ q. rw plus at (rw as_suc at (now h (omega arith)))))

counts-byte : (b : ℕ) (bs : List ℕ) (n l : ℕ) → n ≤ 1000 → l ≤ 4096 → ((m p : ℕ) → m ≤ 1000 → p ≤ 4096 → fits_from (at m p) bs ≡ fits_with m p (pieces 10 bs)) → ((b == 10) ≡ true) ⊎ ((b == 10) ≡ false)
    → fits_from (at n l) (b ∷ bs) ≡ fits_with n l (pieces 10 (b ∷ bs))
counts-byte b bs n l h k ih (inl e) = rw e (feed n l (pieces 10 bs) (fits_from (at (begun n l) 0) bs) h k (λ q. ih (begun n l) 0 q (omega arith)))
counts-byte b bs n l h k ih (inr e) = rw e (other n l b (pieces 10 bs) (fits_from (at (begun n l) (l + 1)) bs) h (λ q r. ih (begun n l) (l + 1) q r))

either : (b : Bool) → (b ≡ true) ⊎ (b ≡ false)
either true = inl refl
either false = inr refl

none-begun : (n : ℕ) → n ≤ 1000 → true ≡ (nat_le (n + 0) 1000 && true)
none-begun n h = grind (arith, nat_tests)

counts : (bs : List ℕ) (n l : ℕ) → n ≤ 1000 → l ≤ 4096 → fits_from (at n l) bs ≡ fits_with n l (pieces 10 bs)
counts [] n zero h k = none-begun n h
counts [] n (suc l) h k = refl
counts (b ∷ bs) n l h k = counts-byte b bs n l h k (counts bs) (either (b == 10))

pub counted : (bytes : List ℕ) → fits_from no_line bytes ≡ fits_batch (lines_of bytes)
counted bytes = counts bytes 0 0 (omega arith) (omega arith) ∙ ap (λ n. nat_le n 1000 && short_lines (lines_of bytes)) (zero-add (length (lines_of bytes)))

-- ---- One byte after another

fits-lines : (n l : ℕ) → (nat_le n 1000 && nat_le l 4096) ≡ true → n ≤ 1000
fits-lines n l h = grind (arith, nat_tests)

fits-bytes : (n l : ℕ) → (nat_le n 1000 && nat_le l 4096) ≡ true → l ≤ 4096
fits-bytes n l h = grind (arith, nat_tests)

so-far-small : (c : Count) → fits_so_far c ≡ true → IsSmall c
so-far-small c h = (fits-lines c.lines c.bytes h, fits-bytes c.lines c.bytes h)

-- the byte is a line feed or another one; a line is open or none is
most-none : (n l m p total : ℕ) → l ≡ 0 → m ≡ n + 1 → p ≤ 1 → HoldsAtMost (at n l) total → HoldsAtMost (at m p) (total + 1)
most-none n l m p total l0 mn p1 (none, some) = let t : total ≤ n * 4097 = none l0 in (λ q. omega arith, λ q. omega arith)

most-open : (n l m p total : ℕ) → 0 < l → l ≤ 4096 → m ≡ n → (p ≡ 0) ⊎ (p ≡ l + 1) → HoldsAtMost (at n l) total → HoldsAtMost (at m p) (total + 1)
most-open n l m p total l0 l4 mn (inl p0) (none, some) = let t : total + 4097 ≤ n * 4097 + l = some l0 in (λ q. omega arith, λ q. omega arith)
most-open n l m p total l0 l4 mn (inr p1) (none, some) = let t : total + 4097 ≤ n * 4097 + l = some l0 in (λ q. omega arith, λ q. omega arith)

next-lines : (n l : ℕ) → ((l ≡ 0) × (begun n l ≡ n + 1)) ⊎ ((0 < l) × (begun n l ≡ n))
next-lines n zero = inl (refl, refl)
next-lines n (suc l) = inr (omega arith, begun-open n l)

next-bytes : (b l : ℕ) → (cond (b == 10) 0 (l + 1) ≡ 0) ⊎ (cond (b == 10) 0 (l + 1) ≡ l + 1)
next-bytes b l = elim (b == 10) as (λ t. (cond t 0 (l + 1) ≡ 0) ⊎ (cond t 0 (l + 1) ≡ l + 1)) [ true ↦ inl refl | false ↦ inr refl ]

one-or-none : (p l : ℕ) → l ≡ 0 → (p ≡ 0) ⊎ (p ≡ l + 1) → p ≤ 1
one-or-none p l h (inl e) = omega arith
one-or-none p l h (inr e) = omega arith

most-more : (n l total b : ℕ) → l ≤ 4096 → HoldsAtMost (at n l) total → HoldsAtMost (after_byte b (at n l)) (total + 1)
most-more n l total b h m = elim (next-lines n l) [
  | inl e ↦ most-none n l (begun n l) (cond (b == 10) 0 (l + 1)) total e.0 e.1 (one-or-none _ l e.0 (next-bytes b l)) m
  | inr e ↦ most-open n l (begun n l) (cond (b == 10) 0 (l + 1)) total e.0 h e.1 (next-bytes b l) m
]

pub after-none : IsAfter no_line [] no_line
after-none = record { small = (omega arith, omega arith); same = λ rest. refl; most = λ total m. (λ q. omega (arith, m.0 q), λ q. absurd (omega arith)) }

-- the text with one more byte
more-text : (text : List ℕ) (i : ℕ) → i < length text → take (i + 1) text ≡ take i text ++ (get_or text i 0 ∷ [])
more-text text i h = ap (λ n. take n text) (add-one i) ∙ take-suc text i 0 h

all-text : (text : List ℕ) (i : ℕ) → i < length text → text ≡ take i text ++ (get_or text i 0 ∷ drop (suc i) text)
all-text text i h = sym (take-append-drop i text) ∙ ap (λ t. take i text ++ t) (drop-cons text i 0 h)

pub after-more : (before c : Count) (text : List ℕ) (i : ℕ) → i < length text → IsAfter before (take i text) c → fits_so_far (after_byte (get_or text i 0) c) ≡ true
    → IsAfter before (take (i + 1) text) (after_byte (get_or text i 0) c)
after-more before c text i h a fits = rw (more-text text i h) (record {
  small = so-far-small (after_byte (get_or text i 0) c) fits;
  same = λ rest. ap (fits_from before) (append_assoc (take i text) (get_or text i 0 ∷ []) rest) ∙ a.same (get_or text i 0 ∷ rest) ∙ ap (λ t. t && fits_from (after_byte (get_or text i 0) c) rest) fits;
  most = λ total m.
      let one : total + length (take i text ++ (get_or text i 0 ∷ [])) ≡ total + length (take i text) + 1 = omega (arith, length-append (take i text) (get_or text i 0 ∷ [])) in
      rw one (most-more c.lines c.bytes (total + length (take i text)) (get_or text i 0) a.small.1 (a.most total m));
})

pub after-long : (before c : Count) (text : List ℕ) (i : ℕ) → i < length text → IsAfter before (take i text) c → fits_so_far (after_byte (get_or text i 0) c) ≡ false
    → IsLong before text
after-long before c text i h a fits rest =
    ap (λ (t : List ℕ). fits_from before (t ++ rest)) (all-text text i h) ∙ ap (fits_from before) (append_assoc (take i text) (get_or text i 0 ∷ drop (suc i) text) rest)
    ∙ a.same (get_or text i 0 ∷ (drop (suc i) text ++ rest)) ∙ ap (λ t. t && fits_from (after_byte (get_or text i 0) c) (drop (suc i) text ++ rest)) fits

pub after-then : (before mid c : Count) (text more : List ℕ) → IsAfter before text mid → IsAfter mid more c → IsAfter before (text ++ more) c
after-then before mid c text more a b = record {
  small = b.small;
  same = λ rest. ap (fits_from before) (append_assoc text more rest) ∙ a.same (more ++ rest) ∙ b.same rest;
  most = λ total m.
      let two : total + length (text ++ more) ≡ total + length text + length more = omega (arith, length-append text more) in
      rw two (b.most (total + length text) (a.most total m));
}

pub long-then : (before mid : Count) (text more : List ℕ) → IsAfter before text mid → IsLong mid more → IsLong before (text ++ more)
long-then before mid text more a b rest = ap (fits_from before) (append_assoc text more rest) ∙ a.same (more ++ rest) ∙ b rest

-- ---- The lines

pub fits-whole : (bytes : List ℕ) (c : Count) → IsAfter no_line bytes c → fits_batch (lines_of bytes) ≡ true
fits-whole bytes c a = sym (counted bytes) ∙ ap (fits_from no_line) (sym (append-nil bytes)) ∙ a.same []

pub large-whole : (bytes rest : List ℕ) → IsLong no_line bytes → fits_batch (lines_of (bytes ++ rest)) ≡ false
large-whole bytes rest long = sym (counted (bytes ++ rest)) ∙ long rest

pub large-alone : (bytes : List ℕ) → IsLong no_line bytes → fits_batch (lines_of bytes) ≡ false
large-alone bytes long = ap (λ (t : List ℕ). fits_batch (lines_of t)) (sym (append-nil bytes)) ∙ large-whole bytes [] long

many : (n l total : ℕ) → n ≤ 1000 → l ≤ 4096 → HoldsAtMost (at n l) total → total ≤ 4097000
many n zero total h k (none, some) = let t : total ≤ n * 4097 = none refl in omega arith
many n (suc l) total h k (none, some) = let t : total + 4097 ≤ n * 4097 + suc l = some (omega arith) in omega arith

pub not-many : (bytes : List ℕ) (c : Count) → IsAfter no_line bytes c → length bytes ≤ 4097000
not-many bytes c a =
    let m : c.lines ≤ 1000 = a.small.0 in
    let t : 0 + length bytes ≤ 4097000 = many c.lines c.bytes (0 + length bytes) m a.small.1 (a.most 0 (λ q. omega arith, λ q. absurd (omega arith))) in
    omega arith

-- each piece that is read brings the end nearer
pub nearer : (bytes more new : List ℕ) (c : Count) → new ≡ bytes ++ more → 0 < length more → IsAfter no_line new c → 4097001 - length new < 4097001 - length bytes
nearer bytes more new c e some a =
    let few : length new ≤ 4097000 = not-many new c a in
    let l : length new ≡ length bytes + length more = ap length e ∙ length-append bytes more in
    omega arith
