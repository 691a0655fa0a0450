-- The printed text of a tree has no blank.
--   plain-blanks       a written tree
--   printed-blanks     the text of a tree
use Rattle.std.specs.Prelude.{◌≡◌, ◌≢◌, ◌==◌, ℕ, zero, suc, ◌≤◌, ◌<◌, ◌^◌, ℤ, pos, negsuc, unsigned_abs, Bool, true, false, cond, List, [], ◌∷◌, ◌++◌, get_or, codes}
use Rattle.std.proofs.Common.{refl, sym, subst, arith, inl, inr}
use Rattle.std.proofs.lemmas.List.Elements.{All-nil, All-cons}
use Rattle.std.specs.Fmt.{decimal}
use Rattle.std.proofs.lemmas.Fmt.{decimal_is_IsNumeral_wide}
use Rattle.std.specs.Str.Parse.{AllDigits, IsNumeral}
use Rattle.std.proofs.lemmas.Str.Parse.{digit_from_value}
use Rattle.sg_spec.specs.Tree.{Tree, numeral, here, param, add, neg, mul, div, power, sum_from, prod_from}
use Rattle.sg_spec.specs.Syntax.{Placed, harmonic, harmonic_of_order}
use Rattle.sg_spec.specs.Printing.{InForm, IsShort, NoBlank}
use Rattle.sg_text.specs.Reads.{IsLetter, IsFree}
use Rattle.sg_text.specs.declared.printing.ProductForm.{ProductForm}
use Rattle.sg_text.specs.declared.printing.ProductForm.TheVariants.{Full, Factorial, Binomial, Power}
use Rattle.sg_text.specs.declared.printing.Level.{Level}
use Rattle.sg_text.specs.declared.printing.Level.TheVariants.{Term, Factor, Atom}
use Rattle.sg_text.specs.PrintedText.{spot_of, next_bound, sign_of, is_first, harmonic_order, body_form, product_form, written_sum, written_product, left_of, written, level_of, is_below, enclosed_if, at_level, limit_text, call_text, plain, printed}
use Rattle.sg_text.proofs.PrintReads.{IsBound, bound-next, small_limit, is-harmonic, split_form, not_binomial, is-binomial}

abbrev Ink : ℕ → Type 0
Ink c = c ≢ 32

-- no byte is a blank
abbrev Inked : List ℕ → Type 0
Inked [] = Unit {0}
Inked (c ∷ w) = Ink c × Inked w

no_blank : (w : List ℕ) → Inked w → NoBlank w
no_blank [] h = All-nil Ink
no_blank (c ∷ w) h = All-cons Ink c w h.0 (no_blank w h.1)

mark : (c : ℕ) → 32 < c → Ink c
mark c h = λ q. absurd (omega arith)

-- from here on a byte above the blank
and : (c : ℕ) (w : List ℕ) → 32 < c → Inked w → Inked (c ∷ w)
and c w h k = (mark c h, k)

joined : (v w : List ℕ) → Inked v → Inked w → Inked (v ++ w)
joined [] w h k = k
joined (c ∷ v) w h k = (h.0, joined v w h.1 k)

left_part : (v w : List ℕ) → Inked (v ++ w) → Inked v
left_part [] w h = tt
left_part (c ∷ v) w h = (h.0, left_part v w h.1)

ink-digits : (w : List ℕ) → AllDigits 10 w → Inked w
ink-digits [] h = tt
ink-digits (c ∷ w) h = let (low, high) = digit_from_value c h.0 in and c w (omega arith) (ink-digits w h.1)

ink-numeral : (w : List ℕ) → IsNumeral 10 w → Inked w
ink-numeral w h = ink-digits w h.1

ink-decimal : (n : ℕ) → n < 10 ^ 64 → Inked (decimal n)
ink-decimal n h = ink-numeral (decimal n) (decimal_is_IsNumeral_wide n h).0

ink-enclosed : (q : Bool) (w : List ℕ) → Inked w → Inked (enclosed_if q w)
ink-enclosed true w h = and 40 (w ++ (41 ∷ [])) (omega arith) (joined w (41 ∷ []) h (and 41 [] (omega arith) tt))
ink-enclosed false w h = h

ink-at : (own wanted : Level) (w : List ℕ) → Inked w → Inked (at_level own wanted w)
ink-at own wanted w h = ink-enclosed (is_below own wanted) w h

ink-limit : (z : ℤ) → unsigned_abs z < 10 ^ 64 → Inked (limit_text (sign_of z) (unsigned_abs z))
ink-limit (pos n) h = ink-decimal n h
ink-limit (negsuc n) h = and 45 (decimal (unsigned_abs (negsuc n))) (omega arith) (ink-decimal (unsigned_abs (negsuc n)) h)

ink-name : (v : ℕ) → Ink v → Inked (v ∷ (41 ∷ []))
ink-name v h = (h, and 41 [] (omega arith) tt)

ink-argument : (x : List ℕ) (v : ℕ) → Ink v → Inked x → Inked (x ++ (44 ∷ (v ∷ (41 ∷ []))))
ink-argument x v h k = joined x (44 ∷ (v ∷ (41 ∷ []))) k (and 44 (v ∷ (41 ∷ [])) (omega arith) (ink-name v h))

ink-call : (b v : ℕ) (z : ℤ) (x : List ℕ) → Ink b → Ink v → unsigned_abs z < 10 ^ 64 → Inked x → Inked (call_text b (sign_of z) (unsigned_abs z) v x)
ink-call b v z x hb hv small h =
    let limit : List ℕ = limit_text (sign_of z) (unsigned_abs z) in
    let end : List ℕ = x ++ (41 ∷ []) in
    let last : Inked end = joined x (41 ∷ []) h (and 41 [] (omega arith) tt) in
    and 40 (b ∷ (44 ∷ (limit ++ (44 ∷ (v ∷ (44 ∷ end)))))) (omega arith) (
      hb,
      and 44 (limit ++ (44 ∷ (v ∷ (44 ∷ end)))) (omega arith)
          (joined limit (44 ∷ (v ∷ (44 ∷ end))) (ink-limit z small) (and 44 (v ∷ (44 ∷ end)) (omega arith) (hv, and 44 end (omega arith) last))),
    )

-- the bytes of a word are above the blank
abbrev all_above : List ℕ → Type 0
all_above [] = Unit {0}
all_above (c ∷ w) = (32 < c) × all_above w

ink-word : (w : List ℕ) → all_above w → Inked w
ink-word [] h = tt
ink-word (c ∷ w) h = (mark c h.0, ink-word w h.1)

bound-ink : (b : ℕ) → IsBound b → Ink b
bound-ink b (inl e) = λ q. absurd (omega arith)
bound-ink b (inr e) = λ q. absurd (omega arith)

ink-sum_word : Inked (codes "sum")
ink-sum_word = ink-word (codes "sum") (omega arith, (omega arith, (omega arith, tt)))

ink-prod_word : Inked (codes "prod")
ink-prod_word = ink-word (codes "prod") (omega arith, (omega arith, (omega arith, (omega arith, tt))))

ink-harmonic_word : Inked (codes "H(")
ink-harmonic_word = ink-word (codes "H(") (omega arith, (omega arith, tt))

ink-fact_word : Inked (codes "fact(")
ink-fact_word = ink-word (codes "fact(") (omega arith, (omega arith, (omega arith, (omega arith, (omega arith, tt)))))

ink-binom_word : Inked (codes "binom(")
ink-binom_word = ink-word (codes "binom(") (omega arith, (omega arith, (omega arith, (omega arith, (omega arith, (omega arith, tt))))))

ink-pow_word : Inked (codes "pow(")
ink-pow_word = ink-word (codes "pow(") (omega arith, (omega arith, (omega arith, (omega arith, tt))))

ink-harmonic : (v r : ℕ) → Ink v → suc r < 10 ^ 64 → (t : Bool)
    → Inked (plain (cond t (harmonic (spot_of 0) (spot_of v)) (harmonic_of_order (spot_of 0) (spot_of v) (spot_of (suc r)))))
ink-harmonic v r h small true = joined (codes "H(") (v ∷ (41 ∷ [])) ink-harmonic_word (ink-name v h)
ink-harmonic v r h small false =
    let d : List ℕ = decimal (suc r) in
    joined (codes "H(") (v ∷ (44 ∷ (d ++ (41 ∷ [])))) ink-harmonic_word
    (h, and 44 (d ++ (41 ∷ [])) (omega arith) (joined d (41 ∷ []) (ink-decimal (suc r) small) (and 41 [] (omega arith) tt)))

ink-sum : (v b r : ℕ) (z : ℤ) (x : Tree) (y : Placed) → Ink v → Ink b → unsigned_abs z < 10 ^ 64 → harmonic_order z x ≡ r → Inked (plain y) → Inked (plain (written_sum v b z r y))
ink-sum v b zero z x y hv hb small e h = joined (codes "sum") (call_text b (sign_of z) (unsigned_abs z) v (plain y)) ink-sum_word (ink-call b v z (plain y) hb hv small h)
ink-sum v b (suc r) z x y hv hb small e h = let (least, is) = is-harmonic z x r e in ink-harmonic v r hv (omega arith) (r == 0)

-- of (x+1-j)/j the text of x is a part
ink-first : (v p b : ℕ) (e : Tree) → Inked (plain (written v p b (div (add (add e (numeral (pos 1))) (neg here)) here))) → Inked (plain (written v p b e))
ink-first v p b e h =
    let u : List ℕ = plain (written v p b e) in
    let one : List ℕ = u ++ (43 ∷ decimal 1) in
    let top : List ℕ = one ++ (45 ∷ (v ∷ [])) in
    left_part u (43 ∷ decimal 1) (left_part one (45 ∷ (v ∷ [])) (left_part top (41 ∷ []) (left_part (40 ∷ (top ++ (41 ∷ []))) (47 ∷ (v ∷ [])) h).1))

ink-left : (v p b : ℕ) (x : Tree) → body_form x ≡ Binomial → Inked (plain (written v p b x)) → Inked (plain (left_of (left_of (left_of (written v p b x)))))
ink-left v p b (div (add (add x o) m) j) h =
    let (constant, is) = is-binomial x o m j h in
    subst (λ q. Inked (plain (written v p b q)) → Inked (plain (left_of (left_of (left_of (written v p b q)))))) (sym is) (ink-first v p b x)
ink-left v p b x h = absurd (not_binomial x refl h)

ink-product : (v w p b : ℕ) (z : ℤ) (x : Tree) → Ink v → Ink b → unsigned_abs z < 10 ^ 64 → (f : ProductForm) → product_form z x ≡ f → Inked (plain (written b p w x))
    → Inked (plain (written_product v b z f (written b p w x)))
ink-product v w p b z x hv hb small Full e h = joined (codes "prod") (call_text b (sign_of z) (unsigned_abs z) v (plain (written b p w x))) ink-prod_word (ink-call b v z (plain (written b p w x)) hb hv small h)
ink-product v w p b z x hv hb small Factorial e h = joined (codes "fact(") (v ∷ (41 ∷ [])) ink-fact_word (ink-name v hv)
ink-product v w p b z x hv hb small Binomial e h =
    let (t, is) = split_form (is_first z) (body_form x) Binomial (λ q. cc) e in
    let u : List ℕ = plain (left_of (left_of (left_of (written b p w x)))) in
    joined (codes "binom(") (u ++ (44 ∷ (v ∷ (41 ∷ [])))) ink-binom_word (ink-argument u v hv (ink-left b p w x is h))
ink-product v w p b z x hv hb small Power e h =
    let u : List ℕ = plain (written b p w x) in
    joined (codes "pow(") (u ++ (44 ∷ (v ∷ (41 ∷ [])))) ink-pow_word (ink-argument u v hv h)

plain-blanks : (e : Tree) (known i : Bool) (v p b : ℕ) → Ink v → Ink p → IsBound b → InForm known i e → IsShort e → Inked (plain (written v p b e))
plain-blanks (numeral z) known i v p b hv hp hb f s = ink-decimal (unsigned_abs z) s
plain-blanks here known i v p b hv hp hb f s = (hv, tt)
plain-blanks param known i v p b hv hp hb f s = (hp, tt)
plain-blanks (add x (neg y)) known i v p b hv hp hb f s =
    let u : List ℕ = at_level (level_of (written v p b y)) Term (plain (written v p b y)) in
    joined (plain (written v p b x)) (45 ∷ u) (plain-blanks x known i v p b hv hp hb f.0 s.0)
    (and 45 u (omega arith) (ink-at (level_of (written v p b y)) Term (plain (written v p b y)) (plain-blanks y known i v p b hv hp hb f.1 s.1)))
plain-blanks (add x y) known i v p b hv hp hb f s =
    let u : List ℕ = at_level (level_of (written v p b y)) Term (plain (written v p b y)) in
    joined (plain (written v p b x)) (43 ∷ u) (plain-blanks x known i v p b hv hp hb f.0 s.0)
    (and 43 u (omega arith) (ink-at (level_of (written v p b y)) Term (plain (written v p b y)) (plain-blanks y known i v p b hv hp hb f.1 s.1)))
plain-blanks (neg x) known i v p b hv hp hb f s =
    and 45 (at_level (level_of (written v p b x)) Term (plain (written v p b x))) (omega arith)
    (ink-at (level_of (written v p b x)) Term (plain (written v p b x)) (plain-blanks x known i v p b hv hp hb f s))
plain-blanks (mul x y) known i v p b hv hp hb f s =
    let t : List ℕ = at_level (level_of (written v p b x)) Term (plain (written v p b x)) in
    let u : List ℕ = at_level (level_of (written v p b y)) Factor (plain (written v p b y)) in
    joined t (42 ∷ u) (ink-at (level_of (written v p b x)) Term (plain (written v p b x)) (plain-blanks x known i v p b hv hp hb f.0 s.0))
    (and 42 u (omega arith) (ink-at (level_of (written v p b y)) Factor (plain (written v p b y)) (plain-blanks y known i v p b hv hp hb f.1 s.1)))
plain-blanks (div x y) known i v p b hv hp hb f s =
    let t : List ℕ = at_level (level_of (written v p b x)) Term (plain (written v p b x)) in
    let u : List ℕ = at_level (level_of (written v p b y)) Factor (plain (written v p b y)) in
    joined t (47 ∷ u) (ink-at (level_of (written v p b x)) Term (plain (written v p b x)) (plain-blanks x known i v p b hv hp hb f.0 s.0))
    (and 47 u (omega arith) (ink-at (level_of (written v p b y)) Factor (plain (written v p b y)) (plain-blanks y known i v p b hv hp hb f.1 s.1)))
plain-blanks (power x e) known i v p b hv hp hb f s =
    let t : List ℕ = at_level (level_of (written v p b x)) Atom (plain (written v p b x)) in
    joined t (94 ∷ decimal e) (ink-at (level_of (written v p b x)) Atom (plain (written v p b x)) (plain-blanks x known i v p b hv hp hb f s.0))
    (and 94 (decimal e) (omega arith) (ink-decimal e s.1))
plain-blanks (sum_from z x) known i v p b hv hp hb f s =
    ink-sum v b (harmonic_order z x) z x (written b p (next_bound b) x) hv (bound-ink b hb) (small_limit (unsigned_abs z) f.1) refl
    (plain-blanks x known false b p (next_bound b) (bound-ink b hb) hp (bound-next b hb) f.2 s)
plain-blanks (prod_from z x) known i v p b hv hp hb f s =
    ink-product v (next_bound b) p b z x hv (bound-ink b hb) (small_limit (unsigned_abs z) f.1) (product_form z x) refl
    (plain-blanks x known true b p (next_bound b) (bound-ink b hb) hp (bound-next b hb) f.2 s)

letter-ink : (c : ℕ) → IsLetter c → Ink c
letter-ink c h = let k : 97 ≤ c = h.0 in mark c (omega arith)

ink_names : (names : List ℕ) → IsFree names → Ink (get_or names 0 0) × Ink (get_or names 1 0)
ink_names [] h = absurd h
ink_names (v ∷ []) h = (letter-ink v h, λ q. absurd (omega arith))
ink_names (v ∷ (p ∷ [])) h = (letter-ink v h.0, letter-ink p h.1)
ink_names (v ∷ (p ∷ (q ∷ more))) h = absurd h

pub printed-blanks : (names : List ℕ) (e : Tree) (known : Bool) → IsFree names → InForm known false e → IsShort e → NoBlank (printed names e)
printed-blanks names e known h f s =
    let (hv, hp) = ink_names names h in
    no_blank (printed names e) (plain-blanks e known false (get_or names 0 0) (get_or names 1 0) 106 hv hp (inl refl) f s)
