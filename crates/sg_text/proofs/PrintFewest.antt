-- The printed text of a tree has as few parentheses as any text that reads as it, and no blank.
--   closed-append       parentheses of two texts, one after the other
--   sum-closed, ..      a call needs one pair more than its body, at most
--   fewer               a tree needs no more of them as it is printed than in any way to write it
--   printed-fewest      so the printed text has the fewest
--   none_to_spare       and none of its pairs can be taken away
use Rattle.std.specs.Prelude.{◌≡◌, ◌≢◌, ◌==◌, ℕ, zero, suc, ◌+◌, ◌≤◌, ◌<◌, ◌^◌, ℤ, pos, negsuc, unsigned_abs, Bool, true, false, cond, ◌&&◌, List, [], ◌∷◌, ◌++◌, get_or}
use Rattle.std.proofs.Common.{refl, sym, subst, ap, ◌∙◌, arith, inl, inr}
use Rattle.std.proofs.lemmas.Bool.Decides.{nat_tests}
use Rattle.std.specs.Fmt.{decimal}
use Rattle.std.proofs.lemmas.Fmt.{decimal_is_IsNumeral_wide}
use Rattle.std.specs.Str.Parse.{AllDigits, IsNumeral}
use Rattle.std.proofs.lemmas.Str.Parse.{digit_from_value}
use Rattle.sg_spec.specs.Tree.{Tree, numeral, here, param, add, neg, div, power}
use Rattle.sg_spec.specs.Syntax.{Placed, number, named, negated, added, subtracted, multiplied, divided, raised, sum_call, product_call, harmonic, harmonic_of_order, factorial, binomial, constant_power}
use Rattle.sg_spec.specs.Reading.{is_variable, inside, signed, tree_in, is_divisor, is_constant, form, unlimited, fault_unless, bound_faults, call_faults, Fault, faults, Reads}
use Rattle.sg_spec.specs.Printing.{IsShort, closed_in, HasFewest}
use Rattle.sg_spec.specs.Shape.{is_constant_tree}
use Rattle.sg_text.specs.Reads.{IsLetter, IsFree}
use Rattle.sg_text.specs.declared.printing.ProductForm.{ProductForm}
use Rattle.sg_text.specs.declared.printing.ProductForm.TheVariants.{Full, Factorial, Binomial, Power}
use Rattle.sg_text.specs.declared.printing.Level.{Level}
use Rattle.sg_text.specs.declared.printing.Level.TheVariants.{Sum, Term, Factor, Atom}
use Rattle.sg_text.specs.PrintedText.{spot_of, next_bound, sign_of, is_first, harmonic_order, body_form, product_form, written_sum, written_product, left_of, written, level_of, is_below, enclosed_if, at_level, limit_text, call_text, text_at, added_text, plain, printed}
use Rattle.sg_text.proofs.PrintSteps.{plain_added}
use Rattle.sg_text.proofs.PrintBounds.{left_empty, right_empty}
use Rattle.sg_text.proofs.PrintReads.{IsBound, bound-next, small_limit, is-harmonic, split_form, not_binomial, is-binomial}
use Rattle.sg_text.proofs.PrintCosts.{paid}
use Rattle.sg_text.proofs.PrintForms.{parens, cost_at, holds_if, bound_small, parens_paid}

pub closed-append : (v w : List ℕ) → closed_in (v ++ w) ≡ closed_in v + closed_in w
closed-append [] w = omega arith
closed-append (b ∷ v) w =
    let h = closed-append v w in
    elim (b == 41) as (λ q. cond q (closed_in (v ++ w) + 1) (closed_in (v ++ w)) ≡ cond q (closed_in v + 1) (closed_in v) + closed_in w) [ true ↦ omega arith | false ↦ h ]

closed-other : (b : ℕ) (w : List ℕ) → b ≢ 41 → closed_in (b ∷ w) ≡ closed_in w
closed-other b w h = let e : (b == 41) ≡ false = grind (arith, nat_tests) in ap (λ q. cond q (closed_in w + 1) (closed_in w)) e

closed-digits : (w : List ℕ) → AllDigits 10 w → closed_in w ≡ 0
closed-digits [] h = refl
closed-digits (c ∷ w) h =
    let (low, high) = digit_from_value c h.0 in
    let e : c ≢ 41 = λ q. absurd (omega arith) in
    closed-other c w e ∙ closed-digits w h.1

closed-numeral : (w : List ℕ) → IsNumeral 10 w → closed_in w ≡ 0
closed-numeral w h = closed-digits w h.1

closed-decimal : (n : ℕ) → n < 10 ^ 64 → closed_in (decimal n) ≡ 0
closed-decimal n h = closed-numeral (decimal n) (decimal_is_IsNumeral_wide n h).0

closed-enclosed : (q : Bool) (w : List ℕ) → closed_in (enclosed_if q w) ≡ cond q (closed_in w + 1) (closed_in w)
closed-enclosed true w = closed-append w (41 ∷ [])
closed-enclosed false w = refl

-- the same level and no more parentheses
at-fewer : (own other wanted : Level) (w : List ℕ) (n : ℕ) → own ≡ other → closed_in w ≤ n → closed_in (at_level own wanted w) ≤ cost_at other wanted n
at-fewer own other wanted w n e h =
    let k = closed-enclosed (is_below own wanted) w in
    let m : cond (is_below own wanted) (closed_in w + 1) (closed_in w) ≤ cost_at own wanted n =
    elim (is_below own wanted) as (λ q. cond q (closed_in w + 1) (closed_in w) ≤ cond q (n + 1) n) [ true ↦ omega arith | false ↦ omega arith ] in
    subst (λ q. closed_in (at_level own wanted w) ≤ cost_at q wanted n) e (omega arith)

closed-limit : (z : ℤ) → unsigned_abs z < 10 ^ 64 → closed_in (limit_text (sign_of z) (unsigned_abs z)) ≡ 0
closed-limit (pos n) h = closed-decimal n h
closed-limit (negsuc n) h = closed-decimal (unsigned_abs (negsuc n)) h

abbrev IsOpen : ℕ → Type 0
IsOpen c = c ≢ 41

bound-open : (b : ℕ) → IsBound b → IsOpen b
bound-open b (inl e) = λ q. absurd (omega arith)
bound-open b (inr e) = λ q. absurd (omega arith)

closed-call : (b v : ℕ) (z : ℤ) (x : List ℕ) → IsOpen b → IsOpen v → unsigned_abs z < 10 ^ 64 → closed_in (call_text b (sign_of z) (unsigned_abs z) v x) ≡ closed_in x + 1
closed-call b v z x hb hv small =
    let limit : List ℕ = limit_text (sign_of z) (unsigned_abs z) in
    let last : List ℕ = 44 ∷ (v ∷ (44 ∷ (x ++ (41 ∷ [])))) in
    let h1 = closed-other b (44 ∷ (limit ++ last)) hb in
    let h2 = closed-append limit last in
    let h3 = closed-limit z small in
    let h4 = closed-other v (44 ∷ (x ++ (41 ∷ []))) hv in
    let h5 = closed-append x (41 ∷ []) in
    omega arith

closed-name : (v : ℕ) → IsOpen v → closed_in (v ∷ (41 ∷ [])) ≡ 1
closed-name v h = closed-other v (41 ∷ []) h

closed-argument : (x : List ℕ) (v : ℕ) → IsOpen v → closed_in (x ++ (44 ∷ (v ∷ (41 ∷ [])))) ≡ closed_in x + 1
closed-argument x v h = let k = closed-append x (44 ∷ (v ∷ (41 ∷ []))) in let m = closed-name v h in omega arith

closed-harmonic : (v r : ℕ) → IsOpen v → suc r < 10 ^ 64 → (t : Bool)
    → closed_in (plain (cond t (harmonic (spot_of 0) (spot_of v)) (harmonic_of_order (spot_of 0) (spot_of v) (spot_of (suc r))))) ≡ 1
closed-harmonic v r h small true = closed-name v h
closed-harmonic v r h small false =
    let d : List ℕ = decimal (suc r) in
    let k1 = closed-other v (44 ∷ (d ++ (41 ∷ []))) h in let k2 = closed-append d (41 ∷ []) in let k3 = closed-decimal (suc r) small in omega arith

sum-closed : (v b r : ℕ) (z : ℤ) (x : Tree) (y : Placed) → IsOpen v → IsOpen b → unsigned_abs z < 10 ^ 64 → harmonic_order z x ≡ r
    → closed_in (plain (written_sum v b z r y)) ≤ closed_in (plain y) + 1
sum-closed v b zero z x y hv hb small e = let k = closed-call b v z (plain y) hb hv small in omega arith
sum-closed v b (suc r) z x y hv hb small e =
    let (least, is) = is-harmonic z x r e in
    let k = closed-harmonic v r hv (omega arith) (r == 0) in omega arith

-- what is before a part doesn't lessen it
closed-first : (v w : List ℕ) → closed_in v ≤ closed_in (v ++ w)
closed-first v w = let h = closed-append v w in omega arith

-- (x+1-j)/j has the parentheses of x
left-closed : (v p b : ℕ) (e : Tree) → closed_in (plain (written v p b e)) ≤ closed_in (plain (written v p b (div (add (add e (numeral (pos 1))) (neg here)) here)))
left-closed v p b e =
    let u : List ℕ = plain (written v p b e) in
    let one : List ℕ = u ++ (43 ∷ decimal 1) in
    let top : List ℕ = one ++ (45 ∷ (v ∷ [])) in
    let h1 = closed-first u (43 ∷ decimal 1) in
    let h2 = closed-first one (45 ∷ (v ∷ [])) in
    let h3 = closed-first top (41 ∷ []) in
    let h4 = closed-first (40 ∷ (top ++ (41 ∷ []))) (47 ∷ (v ∷ [])) in
    omega arith

binomial-left : (v p b : ℕ) (x : Tree) → body_form x ≡ Binomial → closed_in (plain (left_of (left_of (left_of (written v p b x))))) ≤ closed_in (plain (written v p b x))
binomial-left v p b (div (add (add x o) m) j) h =
    let (constant, is) = is-binomial x o m j h in
    subst (λ q. closed_in (plain (left_of (left_of (left_of (written v p b q))))) ≤ closed_in (plain (written v p b q))) (sym is) (left-closed v p b x)
binomial-left v p b x h = absurd (not_binomial x refl h)

product-closed : (v w p b : ℕ) (z : ℤ) (x : Tree) → IsOpen v → IsOpen b → unsigned_abs z < 10 ^ 64 → (f : ProductForm) → product_form z x ≡ f
    → closed_in (plain (written_product v b z f (written b p w x))) ≤ closed_in (plain (written b p w x)) + 1
product-closed v w p b z x hv hb small Full e = let k = closed-call b v z (plain (written b p w x)) hb hv small in omega arith
product-closed v w p b z x hv hb small Factorial e = let k = closed-name v hv in omega arith
product-closed v w p b z x hv hb small Binomial e =
    let (t, is) = split_form (is_first z) (body_form x) Binomial (λ q. cc) e in
    let h = binomial-left b p w x is in
    let k = closed-argument (plain (left_of (left_of (left_of (written b p w x))))) v hv in omega arith
product-closed v w p b z x hv hb small Power e = let k = closed-argument (plain (written b p w x)) v hv in omega arith

-- levels are kept
level-sum : (v b r : ℕ) (z : ℤ) (y : Placed) → level_of (written_sum v b z r y) ≡ Atom
level-sum v b zero z y = refl
level-sum v b (suc r) z y = elim (r == 0) as (λ q. level_of (cond q (harmonic (spot_of 0) (spot_of v)) (harmonic_of_order (spot_of 0) (spot_of v) (spot_of (suc r)))) ≡ Atom) [ true ↦ refl | false ↦ refl ]

level-product : (v b : ℕ) (z : ℤ) (y : Placed) (f : ProductForm) → level_of (written_product v b z f y) ≡ Atom
level-product v b z y Full = refl
level-product v b z y Factorial = refl
level-product v b z y Binomial = refl
level-product v b z y Power = refl

level-added : (v p b : ℕ) (x y : Tree) → level_of (written v p b (add x y)) ≡ Sum
level-added v p b x (neg y) = refl
level-added v p b x y = refl

level-same : (v p b : ℕ) (names : List ℕ) (t : Placed) → level_of (written v p b (tree_in names t)) ≡ level_of t
level-same v p b names (number s) = refl
level-same v p b names (named s) = elim (is_variable names s.value) as (λ q. level_of (written v p b (cond q here param)) ≡ Atom) [ true ↦ refl | false ↦ refl ]
level-same v p b names (negated x) = refl
level-same v p b names (added x y) = level-added v p b (tree_in names x) (tree_in names y)
level-same v p b names (subtracted x y) = refl
level-same v p b names (multiplied x y) = refl
level-same v p b names (divided x s y) = refl
level-same v p b names (raised x e) = refl
level-same v p b names (sum_call c bound sign lower upper x) =
    let body : Tree = tree_in (inside bound.value names) x in
    level-sum v b (harmonic_order (signed sign.value lower.value) body) (signed sign.value lower.value) (written b p (next_bound b) body)
level-same v p b names (product_call c bound sign lower upper x) =
    let body : Tree = tree_in (inside bound.value names) x in
    level-product v b (signed sign.value lower.value) (written b p (next_bound b) body) (product_form (signed sign.value lower.value) body)
level-same v p b names (harmonic c u) = refl
level-same v p b names (harmonic_of_order c u r) =
    let body : Tree = div (numeral (pos 1)) (cond (r.value == 1) here (power here r.value)) in
    level-sum v b (harmonic_order (pos 1) body) (pos 1) (written b p (next_bound b) body)
level-same v p b names (factorial c u) = refl
level-same v p b names (binomial c s x u) =
    let body : Tree = div (add (add (tree_in names x) (numeral (pos 1))) (neg here)) here in
    level-product v b (pos 1) (written b p (next_bound b) body) (product_form (pos 1) body)
level-same v p b names (constant_power c x u) = level-product v b (pos 1) (written b p (next_bound b) (tree_in names x)) (product_form (pos 1) (tree_in names x))

-- what follows a left operand closes no more than the right one as a term
added-closed : (v p b : ℕ) (y : Tree) → closed_in (added_text v p b y) ≤ closed_in (text_at Term (written v p b y))
added-closed v p b (neg y) =
    let u : List ℕ = text_at Term (written v p b y) in
    let h = closed-append (45 ∷ u) (41 ∷ []) in omega arith
added-closed v p b y = omega arith

closed-order : (v p b r : ℕ) → IsOpen v → r < 10 ^ 64 → (t : Bool) → closed_in (plain (written v p b (div (numeral (pos 1)) (cond t here (power here r))))) ≡ 0
closed-order v p b r h small true =
    let k1 = closed-decimal 1 (omega arith) in let k2 = closed-append (decimal 1) (47 ∷ (v ∷ [])) in let k3 = closed-other v [] h in omega arith
closed-order v p b r h small false =
    let k1 = closed-decimal 1 (omega arith) in let k2 = closed-append (decimal 1) (47 ∷ (v ∷ (94 ∷ decimal r))) in
    let k3 = closed-other v (94 ∷ decimal r) h in let k4 = closed-decimal r small in omega arith

short-order : (r : ℕ) → IsShort (div (numeral (pos 1)) (cond (r == 1) here (power here r))) → r < 10 ^ 64
short-order r s =
    elim (r == 1) as (λ q. (r == 1) ≡ q → IsShort (div (numeral (pos 1)) (cond q here (power here r))) → r < 10 ^ 64)
    [ true ↦ λ e k. (let m : r ≡ 1 = grind (arith, nat_tests) in omega arith) | false ↦ λ e k. (k.1).1 ] refl s

named-closed : (v p b : ℕ) (t : Bool) → IsOpen v → IsOpen p → closed_in (plain (written v p b (cond t here param))) ≡ 0
named-closed v p b true h k = closed-other v [] h
named-closed v p b false h k = closed-other p [] k

fewer : (t : Placed) (names : List ℕ) (i : Bool) (v p b : ℕ) → faults unlimited i names t ≡ [] → IsOpen v → IsOpen p → IsBound b → IsShort (tree_in names t)
    → closed_in (plain (written v p b (tree_in names t))) ≤ parens t
fewer (number s) names i v p b h hv hp hb short = let k = closed-decimal s.value short in omega arith
fewer (named s) names i v p b h hv hp hb short = let k = named-closed v p b (is_variable names s.value) hv hp in omega arith
fewer (negated x) names i v p b h hv hp hb short =
    at-fewer (level_of (written v p b (tree_in names x))) (level_of x) Term (plain (written v p b (tree_in names x))) (parens x) (level-same v p b names x) (fewer x names i v p b h hv hp hb short)
fewer (added x y) names i v p b h hv hp hb short =
    let left : List ℕ = plain (written v p b (tree_in names x)) in
    let right : List ℕ = added_text v p b (tree_in names y) in
    let one = fewer x names i v p b (left_empty (faults unlimited i names x) (faults unlimited i names y) h) hv hp hb short.0 in
    let two = fewer y names i v p b (right_empty (faults unlimited i names x) (faults unlimited i names y) h) hv hp hb short.1 in
    let k1 = at-fewer (level_of (written v p b (tree_in names y))) (level_of y) Term (plain (written v p b (tree_in names y))) (parens y) (level-same v p b names y) two in
    let k2 = added-closed v p b (tree_in names y) in
    let k3 = closed-append left right in
    subst (λ q. closed_in q ≤ parens x + cost_at (level_of y) Term (parens y)) (sym (plain_added v p b (tree_in names x) (tree_in names y))) (omega arith)
fewer (subtracted x y) names i v p b h hv hp hb short =
    let left : List ℕ = plain (written v p b (tree_in names x)) in
    let right : List ℕ = text_at Term (written v p b (tree_in names y)) in
    let one = fewer x names i v p b (left_empty (faults unlimited i names x) (faults unlimited i names y) h) hv hp hb short.0 in
    let two = fewer y names i v p b (right_empty (faults unlimited i names x) (faults unlimited i names y) h) hv hp hb short.1 in
    let k1 = at-fewer (level_of (written v p b (tree_in names y))) (level_of y) Term (plain (written v p b (tree_in names y))) (parens y) (level-same v p b names y) two in
    let k3 = closed-append left (45 ∷ right) in
    omega arith
fewer (multiplied x y) names i v p b h hv hp hb short =
    let left : List ℕ = text_at Term (written v p b (tree_in names x)) in
    let right : List ℕ = text_at Factor (written v p b (tree_in names y)) in
    let one = fewer x names i v p b (left_empty (faults unlimited i names x) (faults unlimited i names y) h) hv hp hb short.0 in
    let two = fewer y names i v p b (right_empty (faults unlimited i names x) (faults unlimited i names y) h) hv hp hb short.1 in
    let k1 = at-fewer (level_of (written v p b (tree_in names x))) (level_of x) Term (plain (written v p b (tree_in names x))) (parens x) (level-same v p b names x) one in
    let k2 = at-fewer (level_of (written v p b (tree_in names y))) (level_of y) Factor (plain (written v p b (tree_in names y))) (parens y) (level-same v p b names y) two in
    let k3 = closed-append left (42 ∷ right) in
    omega arith
fewer (divided x s y) names i v p b h hv hp hb short =
    let test : List Fault = fault_unless (is_divisor names y) form s.place in
    let top : faults unlimited i names x ++ test ≡ [] = left_empty (faults unlimited i names x ++ test) (faults unlimited i names y) h in
    let left : List ℕ = text_at Term (written v p b (tree_in names x)) in
    let right : List ℕ = text_at Factor (written v p b (tree_in names y)) in
    let one = fewer x names i v p b (left_empty (faults unlimited i names x) test top) hv hp hb short.0 in
    let two = fewer y names i v p b (right_empty (faults unlimited i names x ++ test) (faults unlimited i names y) h) hv hp hb short.1 in
    let k1 = at-fewer (level_of (written v p b (tree_in names x))) (level_of x) Term (plain (written v p b (tree_in names x))) (parens x) (level-same v p b names x) one in
    let k2 = at-fewer (level_of (written v p b (tree_in names y))) (level_of y) Factor (plain (written v p b (tree_in names y))) (parens y) (level-same v p b names y) two in
    let k3 = closed-append left (47 ∷ right) in
    omega arith
fewer (raised x e) names i v p b h hv hp hb short =
    let left : List ℕ = text_at Atom (written v p b (tree_in names x)) in
    let one = fewer x names i v p b (left_empty (faults unlimited i names x) [] h) hv hp hb short.0 in
    let k1 = at-fewer (level_of (written v p b (tree_in names x))) (level_of x) Atom (plain (written v p b (tree_in names x))) (parens x) (level-same v p b names x) one in
    let k2 = closed-append left (94 ∷ decimal e.value) in
    let k3 = closed-decimal e.value short.1 in
    omega arith
fewer (sum_call c bound sign lower upper x) names i v p b h hv hp hb short =
    let body : Tree = tree_in (inside bound.value names) x in
    let z : ℤ = signed sign.value lower.value in
    let mine : bound_faults unlimited i names c bound sign lower upper ≡ [] = left_empty (bound_faults unlimited i names c bound sign lower upper) (faults unlimited i (inside bound.value names) x) h in
    let one = fewer x (inside bound.value names) i b p (next_bound b) (right_empty (bound_faults unlimited i names c bound sign lower upper) (faults unlimited i (inside bound.value names) x) h) (bound-open b hb) hp (bound-next b hb) short in
    let k = sum-closed v b (harmonic_order z body) z body (written b p (next_bound b) body) hv (bound-open b hb) (small_limit (unsigned_abs z) (bound_small i names c bound sign lower upper mine)) refl in
    omega arith
fewer (product_call c bound sign lower upper x) names i v p b h hv hp hb short =
    let body : Tree = tree_in (inside bound.value names) x in
    let z : ℤ = signed sign.value lower.value in
    let mine : bound_faults unlimited i names c bound sign lower upper ≡ [] = left_empty (bound_faults unlimited i names c bound sign lower upper) (faults unlimited true (inside bound.value names) x) h in
    let one = fewer x (inside bound.value names) true b p (next_bound b) (right_empty (bound_faults unlimited i names c bound sign lower upper) (faults unlimited true (inside bound.value names) x) h) (bound-open b hb) hp (bound-next b hb) short in
    let k = product-closed v (next_bound b) p b z body hv (bound-open b hb) (small_limit (unsigned_abs z) (bound_small i names c bound sign lower upper mine)) (product_form z body) refl in
    omega arith
fewer (harmonic c u) names i v p b h hv hp hb short = let k = closed-name v hv in omega arith
fewer (harmonic_of_order c u r) names i v p b h hv hp hb short =
    let body : Tree = div (numeral (pos 1)) (cond (r.value == 1) here (power here r.value)) in
    let one = closed-order b p (next_bound b) r.value (bound-open b hb) (short-order r.value short) (r.value == 1) in
    let k = sum-closed v b (harmonic_order (pos 1) body) (pos 1) body (written b p (next_bound b) body) hv (bound-open b hb) (omega arith) refl in
    omega arith
fewer (factorial c u) names i v p b h hv hp hb short = let k = closed-name v hv in omega arith
fewer (binomial c s x u) names i v p b h hv hp hb short =
    let test : List Fault = fault_unless (is_constant names x) form s.place in
    let top : call_faults i names c u ++ test ≡ [] = left_empty (call_faults i names c u ++ test) (faults unlimited i names x) h in
    let constant : is_constant_tree (tree_in names x) ≡ true = (holds_if (is_constant names x) form s.place (right_empty (call_faults i names c u) test top)) in
    let one = fewer x names i b p (next_bound b) (right_empty (call_faults i names c u ++ test) (faults unlimited i names x) h) (bound-open b hb) hp (bound-next b hb) short.0.0.0 in
    let y : Placed = written b p (next_bound b) (div (add (add (tree_in names x) (numeral (pos 1))) (neg here)) here) in
    let k = closed-argument (plain (written b p (next_bound b) (tree_in names x))) v hv in
    let whole : closed_in (plain (written_product v b (pos 1) Binomial y)) ≤ parens x + 1 = omega arith in
    subst (λ q. closed_in (plain (written_product v b (pos 1) (cond ((q && true) && true) Binomial Full) y)) ≤ parens x + 1) (sym constant) whole
fewer (constant_power c x u) names i v p b h hv hp hb short =
    let body : Tree = tree_in names x in
    let one = fewer x names i b p (next_bound b) (right_empty (call_faults i names c u) (faults unlimited i names x) h) (bound-open b hb) hp (bound-next b hb) short in
    let k = product-closed v (next_bound b) p b (pos 1) body hv (bound-open b hb) (omega arith) (product_form (pos 1) body) refl in
    omega arith

paid-closed : (w : List ℕ) → paid 1 w ≡ closed_in w
paid-closed [] = refl
paid-closed (b ∷ w) = ap (λ q. cond (b == 41) (q + 1) q) (paid-closed w)

letter-open : (c : ℕ) → IsLetter c → IsOpen c
letter-open c h = let k : 97 ≤ c = h.0 in λ q. absurd (omega arith)

open_names : (names : List ℕ) → IsFree names → IsOpen (get_or names 0 0) × IsOpen (get_or names 1 0)
open_names [] h = absurd h
open_names (v ∷ []) h = (letter-open v h, λ q. absurd (omega arith))
open_names (v ∷ (p ∷ [])) h = (letter-open v h.0, letter-open p h.1)
open_names (v ∷ (p ∷ (q ∷ more))) h = absurd h

pub printed-fewest : (names : List ℕ) (e : Tree) → IsFree names → IsShort e → HasFewest (printed names e) names e
printed-fewest names e h short u r =
    let (hv, hp) = open_names names h in
    let k = fewer r.placed names false (get_or names 0 0) (get_or names 1 0) 106 r.no_fault hv hp (inl refl) (subst IsShort (sym r.meaning) short) in
    let m : closed_in (printed names e) ≤ parens r.placed = subst (λ q. closed_in (printed names q) ≤ parens r.placed) r.meaning k in
    let paying = parens_paid u r.placed r.has_tree in
    let same = paid-closed u in
    omega arith

-- so no pair can be taken away: what is left reads as no text, or as another tree
pub none_to_spare : (w names : List ℕ) (e : Tree) → HasFewest w names e → (u v x : List ℕ) → w ≡ u ++ (40 ∷ (v ++ (41 ∷ x))) → Reads (u ++ (v ++ x)) names e → ⊥
none_to_spare w names e h u v x is r =
    let least = h (u ++ (v ++ x)) r in
    let with = ap closed_in is ∙ closed-append u (40 ∷ (v ++ (41 ∷ x))) in
    let inner = closed-append v (41 ∷ x) in
    let without = closed-append u (v ++ x) in
    let rest = closed-append v x in
    absurd (omega arith)
