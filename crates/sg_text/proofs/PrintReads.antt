-- The printed text of a tree in reader's form reads as the tree.
--   Letters            the letters of a scope: those of its variable and of the parameter, and names that are bound by none of them
--   Writes             a tree that is written in a scope reads as it at its level
--   writes             every tree in reader's form does
--   reads-printed      the text of a tree reads as it
use Rattle.std.specs.Prelude.{◌≡◌, ◌≢◌, ◌==◌, ℕ, zero, suc, ◌<◌, ◌^◌, nat_lt, ℤ, pos, negsuc, ◌≤ℤ◌, unsigned_abs, Bool, true, false, cond, ◌&&◌, ◌⊎◌, List, [], ◌∷◌, ◌++◌, get_or, codes}
use Rattle.std.proofs.Common.{refl, sym, subst, ap, ◌∙◌, arith, inl, inr}
use Rattle.std.proofs.lemmas.Bool.Decides.{nat_tests}
use Rattle.std.proofs.lemmas.Int.{ints}
use Rattle.sg_spec.specs.Tree.{Tree, numeral, here, param, add, neg, mul, div, power, sum_from, prod_from}
use Rattle.sg_spec.specs.Syntax.{Placed, number, negated, harmonic, harmonic_of_order}
use Rattle.sg_spec.specs.Reading.{is_parameter, is_small, harmonic_sum, binomial_product, unlimited, Reads}
use Rattle.sg_spec.specs.Printing.{SparesBound, has_parameter, InForm, IsShort}
use Rattle.sg_spec.specs.Shape.{is_constant_tree}
use Rattle.sg_text.specs.Reads.{IsLetter, IsFree}
use Rattle.sg_text.specs.declared.printing.ProductForm.{ProductForm}
use Rattle.sg_text.specs.declared.printing.ProductForm.TheVariants.{Full, Factorial, Binomial, Power}
use Rattle.sg_text.specs.declared.printing.Level.TheVariants.{Term, Factor, Atom}
use Rattle.sg_text.specs.PrintedText.{spot_of, next_bound, is_first, is_one, is_numeral, is_here, is_minus_here, power_order, body_order, harmonic_order, is_falling, is_quotient, body_form, product_form, written_sum, written_product, left_of, written, level_of, at_level, plain, printed}
use Rattle.sg_text.proofs.Printed.{at_spot, Means, sum-add, sum-sub, sum-neg, product-mul, product-div, atom-name, reads_text, Sum as SumText}
use Rattle.sg_text.proofs.PrintSteps.{written_left, left_true, right_true}
use Rattle.sg_text.proofs.PrintMeanings.{Fine, fine-number, fine-neg, fine-add, fine-sub, fine-mul, fine-div, fine-power, fine-parameter, fine-variable, fine-sum, fine-product, fine-harmonic, fine-harmonic_of_order, fine-factorial, fine-binomial, fine-constant_power}
use Rattle.sg_text.proofs.PrintCalls.{AtLevel, lift_sum, lift_term, lift_factor, lift_atom, atom-decimal, factor-decimal, atom-sum, atom-product, atom-harmonic, atom-harmonic_of_order, atom-factorial, atom-binomial, Quotient, Const, quotient-number, quotient-two, const-plain, const-minus, atom-constant_power}

abbrev pub IsBound : ℕ → Type 0
IsBound b = (b ≡ 106) ⊎ (b ≡ 105)

pub record Letters (v p : ℕ) (others : List ℕ) : Type 0 where
  pub variable : IsLetter v
  pub parameter : has_parameter (v ∷ others) ≡ true → (is_parameter (v ∷ others) p ≡ true) × IsLetter p × (v ≢ p)
  pub apart : (b : ℕ) → IsBound b → (is_parameter (v ∷ others) b ≡ false) × (b ≢ p)

differ : (v p : ℕ) → (v ≢ p) → (v == p) ≡ false
differ v p h = grind (arith, nat_tests)

pub letter-bound : (b : ℕ) → IsBound b → IsLetter b
letter-bound b (inl e) = (omega arith, omega arith)
letter-bound b (inr e) = (omega arith, omega arith)

pub bound-next : (b : ℕ) → IsBound b → IsBound (next_bound b)
bound-next b (inl e) = inr (ap next_bound e)
bound-next b (inr e) = inl (ap next_bound e)

apart_zero : (b : ℕ) → IsBound b → b ≢ 0
apart_zero b (inl e) = λ q. absurd (omega arith)
apart_zero b (inr e) = λ q. absurd (omega arith)

apart_from : (b p : ℕ) → IsBound b → (p ≢ 105) → (p ≢ 106) → ((p == b) ≡ false) × (b ≢ p)
apart_from b p (inl e) h k = (differ p b (λ q. k (q ∙ e)), λ q. k (sym q ∙ e))
apart_from b p (inr e) h k = (differ p b (λ q. h (q ∙ e)), λ q. h (sym q ∙ e))

letters-inside : (v p b : ℕ) (others : List ℕ) → Letters v p others → IsBound b → Letters b p others
letters-inside v p b [] l h = record { variable = letter-bound b h; parameter = λ q. cc; apart = λ c k. (refl, (l.apart c k).1) }
letters-inside v p b (q ∷ more) l h = record {
  variable = letter-bound b h;
  parameter = λ k. (let (known, letter, other) = l.parameter refl in (known, letter, (l.apart b h).1));
  apart = λ c k. ((l.apart c k).0, (l.apart c k).1);
}

same_parameter : (v b : ℕ) (others : List ℕ) → has_parameter (v ∷ others) ≡ has_parameter (b ∷ others)
same_parameter v b [] = refl
same_parameter v b (q ∷ more) = refl

pub small_limit : (n : ℕ) → is_small n ≡ true → n < 10 ^ 64
small_limit n h = let k : n < 1001 = grind (arith, nat_tests) in omega arith

pub same : (v : ℕ) → (v == v) ≡ true
same v = grind (arith, nat_tests)

is-first : (z : ℤ) → is_first z ≡ true → z ≡ pos 1
is-first (pos n) h = let e : n ≡ 1 = grind (arith, nat_tests) in ap pos e
is-first (negsuc n) h = cc

is-one : (x : Tree) → is_one x ≡ true → x ≡ numeral (pos 1)
is-one (numeral z) h = ap numeral (is-first z h)
is-one x h = cc

is-here : (x : Tree) → is_here x ≡ true → x ≡ here
is-here here h = refl
is-here x h = cc

is-minus_here : (x : Tree) → is_minus_here x ≡ true → x ≡ neg here
is-minus_here (neg x) h = ap neg (is-here x h)
is-minus_here x h = cc

-- a choice with an order that isn't 0
order_if : (t : Bool) (m r : ℕ) → cond t m 0 ≡ suc r → (t ≡ true) × (m ≡ suc r)
order_if true m r h = (refl, h)
order_if false m r h = absurd (omega arith)

-- the divisor of a harmonic sum
is-power : (y : Tree) (r : ℕ) → power_order y ≡ suc r → (suc r < 33) × (y ≡ cond (suc r == 1) here (power here (suc r)))
is-power here r h =
    let e : suc r ≡ 1 = sym h in
    (omega arith, ap (λ q. cond (q == 1) here (power here q)) (sym e))
is-power (power x n) r h =
    let (t, e) = order_if (is_here x && nat_lt 1 n && nat_lt n 33) n r h in
    let most : nat_lt n 33 ≡ true = right_true (is_here x && nat_lt 1 n) (nat_lt n 33) t in
    let both : (is_here x && nat_lt 1 n) ≡ true = left_true (is_here x && nat_lt 1 n) (nat_lt n 33) t in
    let least : nat_lt 1 n ≡ true = right_true (is_here x) (nat_lt 1 n) both in
    let low : 1 < n = grind (arith, nat_tests) in
    let high : n < 33 = grind (arith, nat_tests) in
    let other : (suc r == 1) ≡ false = grind (arith, nat_tests) in
    (omega arith, ap (λ q. power q n) (is-here x (left_true (is_here x) (nat_lt 1 n) both)) ∙ ap (power here) e ∙ ap (λ q. cond q here (power here (suc r))) (sym other))
is-power y r h = absurd (omega arith)

pub is-harmonic : (z : ℤ) (x : Tree) (r : ℕ) → harmonic_order z x ≡ suc r → (suc r < 33) × (sum_from z x ≡ harmonic_sum (suc r))
is-harmonic z (div x y) r h =
    let (t, k) = order_if (is_first z) (body_order (div x y)) r h in
    let (u, m) = order_if (is_one x) (power_order y) r k in
    let (small, e) = is-power y r m in
    (small, ap (λ q. sum_from q (div x y)) (is-first z t) ∙ ap (λ q. sum_from (pos 1) (div q y)) (is-one x u) ∙ ap (λ q. sum_from (pos 1) (div (numeral (pos 1)) q)) e)
is-harmonic z x r h =
    let (t, k) = order_if (is_first z) 0 r h in absurd (omega arith)

pub split_form : (t : Bool) (f g : ProductForm) → (Full ≡ g → ⊥) → cond t f Full ≡ g → (t ≡ true) × (f ≡ g)
split_form true f g d h = (refl, h)
split_form false f g d h = absurd (d h)

is-factorial_body : (x : Tree) → body_form x ≡ Factorial → x ≡ here
is-factorial_body here h = refl
is-factorial_body (neg x) h = elim (is_quotient x) as (λ t. cond t Power Full ≡ Factorial → neg x ≡ here) [ true ↦ λ q. cc | false ↦ λ q. cc ] h
is-factorial_body (div x y) h =
    elim (is_numeral x && is_numeral y) as (λ t. cond t Power (cond (is_falling x && is_here y) Binomial Full) ≡ Factorial → div x y ≡ here)
    [ true ↦ λ q. cc | false ↦ λ q. elim (is_falling x && is_here y) as (λ t. cond t Binomial Full ≡ Factorial → div x y ≡ here) [ true ↦ λ k. cc | false ↦ λ k. cc ] q ] h
is-factorial_body x h = cc

chosen_power : (t : Bool) → cond t Power Full ≡ Power → t ≡ true
chosen_power true h = refl
chosen_power false h = cc

chosen_quotient : (t s : Bool) → cond t Power (cond s Binomial Full) ≡ Power → t ≡ true
chosen_quotient true s h = refl
chosen_quotient false true h = cc
chosen_quotient false false h = cc

chosen_binomial : (t s : Bool) → cond t Power (cond s Binomial Full) ≡ Binomial → s ≡ true
chosen_binomial t true h = refl
chosen_binomial true false h = cc
chosen_binomial false false h = cc

abbrev pub falls : Tree → Bool
falls (div x y) = is_falling x
falls x = false

pub not_binomial : (x : Tree) → falls x ≡ false → body_form x ≡ Binomial → ⊥
not_binomial (neg x) e h = elim (is_quotient x) as (λ t. cond t Power Full ≡ Binomial → ⊥) [ true ↦ λ q. cc | false ↦ λ q. cc ] h
not_binomial (div x y) e h =
    let t : is_falling x ≡ true = left_true (is_falling x) (is_here y) (chosen_binomial (is_numeral x && is_numeral y) (is_falling x && is_here y) h) in cc
not_binomial x e h = cc

-- x, its tests, and the tree of a binomial coefficient
pub is-binomial : (x o m j : Tree) → body_form (div (add (add x o) m) j) ≡ Binomial → (is_constant_tree x ≡ true) × (div (add (add x o) m) j ≡ div (add (add x (numeral (pos 1))) (neg here)) here)
is-binomial x o m j h =
    let s = chosen_binomial false ((is_one o && is_constant_tree x && is_minus_here m) && is_here j) h in
    let top = left_true (is_one o && is_constant_tree x && is_minus_here m) (is_here j) s in
    let more = left_true (is_one o && is_constant_tree x) (is_minus_here m) top in (
      right_true (is_one o) (is_constant_tree x) more,
      ap (λ q. div (add (add x q) m) j) (is-one o (left_true (is_one o) (is_constant_tree x) more))
          ∙ ap (λ q. div (add (add x (numeral (pos 1))) q) j) (is-minus_here m (right_true (is_one o && is_constant_tree x) (is_minus_here m) top))
          ∙ ap (λ q. div (add (add x (numeral (pos 1))) (neg here)) q) (is-here j (right_true (is_one o && is_constant_tree x && is_minus_here m) (is_here j) s)),
    )

-- constants may stand in a product or not
pub constant-form : (known i j : Bool) (x : Tree) → is_constant_tree x ≡ true → InForm known i x → InForm known j x
constant-form known i j (numeral z) c h = h
constant-form known i j param c h = h
constant-form known i j (add x y) c h =
    (constant-form known i j x (left_true (is_constant_tree x) (is_constant_tree y) c) h.0, constant-form known i j y (right_true (is_constant_tree x) (is_constant_tree y) c) h.1)
constant-form known i j (neg x) c h = constant-form known i j x c h
constant-form known i j (mul x y) c h =
    (constant-form known i j x (left_true (is_constant_tree x) (is_constant_tree y) c) h.0, constant-form known i j y (right_true (is_constant_tree x) (is_constant_tree y) c) h.1)
constant-form known i j (power x e) c h = constant-form known i j x c h
constant-form known i j x c h = cc

module _ (G : Placed → Type 0) where
  abbrev pub Writes : List ℕ → Bool → Tree → Placed → Type 0
  Writes names in_product e t = AtLevel G (level_of t) (Fine names in_product e) (plain t)

  writes-harmonic : (v p r : ℕ) (others : List ℕ) → Letters v p others → suc r < 33 → (t : Bool) → (r == 0) ≡ t
      → Writes (v ∷ others) false (harmonic_sum (suc r)) (cond t (harmonic (spot_of 0) (spot_of v)) (harmonic_of_order (spot_of 0) (spot_of v) (spot_of (suc r))))
  writes-harmonic v p r others l small true h =
      let names : List ℕ = v ∷ others in
      let e : r ≡ 0 = grind (arith, nat_tests) in
      subst (λ q. AtLevel G Atom (Fine names false (harmonic_sum (suc q))) (codes "H(" ++ (v ∷ (41 ∷ [])))) (sym e)
      (atom-harmonic G (Fine names false (harmonic_sum 1)) v l.variable.0 l.variable.1 (fine-harmonic names v (same v)))
  writes-harmonic v p r others l small false h =
      let names : List ℕ = v ∷ others in
      let e : (suc r == 0) ≡ false = grind (arith, nat_tests) in
      atom-harmonic_of_order G (Fine names false (harmonic_sum (suc r))) v (suc r) l.variable.0 l.variable.1 (omega arith)
      (λ s t u. fine-harmonic_of_order names v (same v) (suc r) s t u e)

  writes-sum : (v p b : ℕ) (others : List ℕ) (z : ℤ) (x : Tree) (y : Placed) → Letters v p others → IsBound b → is_small (unsigned_abs z) ≡ true
      → Writes (b ∷ others) false x y → (r : ℕ) → harmonic_order z x ≡ r → Writes (v ∷ others) false (sum_from z x) (written_sum v b z r y)
  writes-sum v p b others z x y l bound small body zero h =
      let names : List ℕ = v ∷ others in
      let (blow, bhigh) = letter-bound b bound in
      atom-sum G (Fine (b ∷ others) false x) (Fine names false (sum_from z x)) z b v (plain y) blow bhigh l.variable.0 l.variable.1 (small_limit (unsigned_abs z) small)
      (lift_sum G (level_of y) (Fine (b ∷ others) false x) (plain y) body)
      (λ s1 s2 s3 s4 s5 t k. fine-sum names v (same v) z b x t s1 s2 s3 s4 s5 small (l.apart b bound).0 k.means)
  writes-sum v p b others z x y l bound small body (suc r) h =
      let names : List ℕ = v ∷ others in
      let (least, e) = is-harmonic z x r h in
      subst (λ q. Writes names false q (written_sum v b z (suc r) y)) (sym e) (writes-harmonic v p r others l least (r == 0) refl)

  writes-quotient : (names : List ℕ) (w p b : ℕ) (known in_product : Bool) (x : Tree) → is_quotient x ≡ true → InForm known in_product x → IsShort x
      → Quotient G (Fine names false x) (plain (written w p b x)) × (plain (negated (written w p b x)) ≡ 45 ∷ plain (written w p b x))
  writes-quotient names w p b known in_product (numeral (pos n)) q h s = (quotient-number G (Fine names false (numeral (pos n))) n s (fine-number names false n), refl)
  writes-quotient names w p b known in_product (numeral (negsuc n)) q h s = absurd (omega (arith, ints))
  writes-quotient names w p b known in_product (div (numeral (pos n)) (numeral (pos d))) q h s = (
    quotient-two G (Fine names false (div (numeral (pos n)) (numeral (pos d)))) n d s.0 s.1
        (λ i j k. fine-div names false (numeral (pos n)) (numeral (pos d)) (number (at_spot i n)) (number (at_spot j d)) (at_spot k 0) refl (fine-number names false n i) (fine-number names false d j)),
    refl,
  )
  writes-quotient names w p b known in_product (div (numeral (negsuc n)) y) q h s = let k : pos 0 ≤ℤ negsuc n = h.0 in absurd (omega (arith, ints))
  writes-quotient names w p b known in_product (div x (numeral (negsuc n))) q h s = let k : pos 0 ≤ℤ negsuc n = h.1 in absurd (omega (arith, ints))
  writes-quotient names w p b known in_product (div x y) q h s =
      let k : is_numeral x ≡ true = left_true (is_numeral x) (is_numeral y) q in
      let m : is_numeral y ≡ true = right_true (is_numeral x) (is_numeral y) q in cc
  writes-quotient names w p b known in_product x q h s = cc

  writes-power : (names : List ℕ) (w p b : ℕ) (known in_product : Bool) (x : Tree) → body_form x ≡ Power → InForm known in_product x → IsShort x
      → Const G (Fine names false x) (plain (written w p b x))
  writes-power names w p b known in_product (numeral z) q h s =
      const-plain G (Fine names false (numeral z)) (plain (written w p b (numeral z))) (writes-quotient names w p b known in_product (numeral z) refl h s).0
  writes-power names w p b known in_product (neg x) q h s =
      let (quotient, e) = writes-quotient names w p b known in_product x (chosen_power (is_quotient x) q) h s in
      subst (λ u. Const G (Fine names false (neg x)) u) (sym e)
      (const-minus G (Fine names false x) (Fine names false (neg x)) (plain (written w p b x)) (fine-neg names false x) quotient)
  writes-power names w p b known in_product (div x y) q h s =
      let k : is_quotient (div x y) ≡ true = chosen_quotient (is_numeral x && is_numeral y) (is_falling x && is_here y) q in
      const-plain G (Fine names false (div x y)) (plain (written w p b (div x y))) (writes-quotient names w p b known in_product (div x y) k h s).0
  writes-power names w p b known in_product x q h s = cc

  -- the first argument of a binomial coefficient, where the product is one
  abbrev Left : List ℕ → Tree → Placed → Type 0
  Left names x y = body_form x ≡ Binomial → (e : Tree) × (is_constant_tree e ≡ true) × (x ≡ div (add (add e (numeral (pos 1))) (neg here)) here) × SumText G (Fine names false e) (plain (left_of (left_of (left_of y))))

  writes-product : (v w p b : ℕ) (others : List ℕ) (z : ℤ) (x : Tree) → Letters v p others → IsBound b → is_small (unsigned_abs z) ≡ true
      → InForm (has_parameter (b ∷ others)) true x → IsShort x
      → Writes (b ∷ others) true x (written b p w x) → Left (v ∷ others) x (written b p w x)
      → (f : ProductForm) → product_form z x ≡ f → Writes (v ∷ others) false (prod_from z x) (written_product v b z f (written b p w x))
  writes-product v w p b others z x l bound small h s body left Full e =
      let names : List ℕ = v ∷ others in
      let (blow, bhigh) = letter-bound b bound in
      let y : Placed = written b p w x in
      atom-product G (Fine (b ∷ others) true x) (Fine names false (prod_from z x)) z b v (plain y) blow bhigh l.variable.0 l.variable.1 (small_limit (unsigned_abs z) small)
      (lift_sum G (level_of y) (Fine (b ∷ others) true x) (plain y) body)
      (λ s1 s2 s3 s4 s5 t k. fine-product names v (same v) z b x t s1 s2 s3 s4 s5 small (l.apart b bound).0 k.means)
  writes-product v w p b others z x l bound small h s body left Factorial e =
      let names : List ℕ = v ∷ others in
      let (t, k) = split_form (is_first z) (body_form x) Factorial (λ q. cc) e in
      subst (λ q. AtLevel G Atom (Fine names false q) (codes "fact(" ++ (v ∷ (41 ∷ [])))) (sym (ap (λ q. prod_from q x) (is-first z t) ∙ ap (prod_from (pos 1)) (is-factorial_body x k)))
      (atom-factorial G (Fine names false (prod_from (pos 1) here)) v l.variable.0 l.variable.1 (fine-factorial names v (same v)))
  writes-product v w p b others z x l bound small h s body left Binomial e =
      let names : List ℕ = v ∷ others in
      let (t, k) = split_form (is_first z) (body_form x) Binomial (λ q. cc) e in
      let (c, constant, is, text) = left k in
      let u : List ℕ = plain (left_of (left_of (left_of (written b p w x)))) in
      subst (λ q. AtLevel G Atom (Fine names false q) (codes "binom(" ++ (u ++ (44 ∷ (v ∷ (41 ∷ [])))))) (sym (ap (λ q. prod_from q x) (is-first z t) ∙ ap (prod_from (pos 1)) is))
      (atom-binomial G (Fine names false c) (Fine names false (binomial_product c)) u v l.variable.0 l.variable.1 text
      (λ i j k2 y m. fine-binomial names v (same v) c y i j k2 constant m))
  writes-product v w p b others z x l bound small h s body left Power e =
      let names : List ℕ = v ∷ others in
      let (t, k) = split_form (is_first z) (body_form x) Power (λ q. cc) e in
      let u : List ℕ = plain (written b p w x) in
      subst (λ q. AtLevel G Atom (Fine names false q) (codes "pow(" ++ (u ++ (44 ∷ (v ∷ (41 ∷ [])))))) (sym (ap (λ q. prod_from q x) (is-first z t)))
      (atom-constant_power G (Fine names false x) (Fine names false (prod_from (pos 1) x)) u v l.variable.0 l.variable.1
      (writes-power names b p w (has_parameter (b ∷ others)) true x k h s)
      (λ i j y m. fine-constant_power names v (same v) x y i j m))

  -- a tree is written with the letter of its scope, or holds none
  abbrev Fits : ℕ → ℕ → Tree → Type 0
  Fits w v e = (w ≡ v) ⊎ (is_constant_tree e ≡ true)

  fits-left : (w v : ℕ) (x y : Tree) → ((w ≡ v) ⊎ ((is_constant_tree x && is_constant_tree y) ≡ true)) → Fits w v x
  fits-left w v x y (inl e) = inl e
  fits-left w v x y (inr c) = inr (left_true (is_constant_tree x) (is_constant_tree y) c)

  fits-right : (w v : ℕ) (x y : Tree) → ((w ≡ v) ⊎ ((is_constant_tree x && is_constant_tree y) ≡ true)) → Fits w v y
  fits-right w v x y (inl e) = inl e
  fits-right w v x y (inr c) = inr (right_true (is_constant_tree x) (is_constant_tree y) c)

  -- where it isn't constant, the letters are the same
  fits-same : (w v : ℕ) → ((w ≡ v) ⊎ (false ≡ true)) → w ≡ v
  fits-same w v (inl e) = e
  fits-same w v (inr c) = cc

  pub writes : (e : Tree) (in_product : Bool) (v w p b : ℕ) (others : List ℕ) → Letters v p others → IsBound b → Fits w v e
      → InForm (has_parameter (v ∷ others)) in_product e → IsShort e → Writes (v ∷ others) in_product e (written w p b e)
  writes (numeral (pos n)) i v w p b others l bound f h s = atom-decimal G (Fine (v ∷ others) i (numeral (pos n))) n s (fine-number (v ∷ others) i n)
  writes (numeral (negsuc n)) i v w p b others l bound f h s = absurd (omega (arith, ints))
  writes here i v w p b others l bound f h s =
      subst (λ q. AtLevel G Atom (Fine (v ∷ others) i here) (q ∷ [])) (sym (fits-same w v f))
      (atom-name G v l.variable.0 l.variable.1 (fine-variable (v ∷ others) v (same v) i))
  writes param i v w p b others l bound f h s =
      let (known, letter, other) = l.parameter h in
      atom-name G p letter.0 letter.1 (λ q. fine-parameter (v ∷ others) i p q known (differ v p other))
  writes (add x (neg y)) i v w p b others l bound f h s =
      let names : List ℕ = v ∷ others in
      let t : Placed = written w p b x in
      let u : Placed = written w p b y in
      sum-sub G (plain t) (at_level (level_of u) Term (plain u)) (fine-sub names i x y)
      (lift_sum G (level_of t) (Fine names i x) (plain t) (writes x i v w p b others l bound (fits-left w v x y f) h.0 s.0))
      (lift_term G (level_of u) (Fine names i y) (plain u) (writes y i v w p b others l bound (fits-right w v x y f) h.1 s.1))
  writes (add x y) i v w p b others l bound f h s =
      let names : List ℕ = v ∷ others in
      let t : Placed = written w p b x in
      let u : Placed = written w p b y in
      sum-add G (plain t) (at_level (level_of u) Term (plain u)) (fine-add names i x y)
      (lift_sum G (level_of t) (Fine names i x) (plain t) (writes x i v w p b others l bound (fits-left w v x y f) h.0 s.0))
      (lift_term G (level_of u) (Fine names i y) (plain u) (writes y i v w p b others l bound (fits-right w v x y f) h.1 s.1))
  writes (neg x) i v w p b others l bound f h s =
      let names : List ℕ = v ∷ others in
      let t : Placed = written w p b x in
      sum-neg G (at_level (level_of t) Term (plain t)) (fine-neg names i x)
      (lift_term G (level_of t) (Fine names i x) (plain t) (writes x i v w p b others l bound f h s))
  writes (mul x y) i v w p b others l bound f h s =
      let names : List ℕ = v ∷ others in
      let t : Placed = written w p b x in
      let u : Placed = written w p b y in
      product-mul G (at_level (level_of t) Term (plain t)) (at_level (level_of u) Factor (plain u)) (fine-mul names i x y)
      (lift_term G (level_of t) (Fine names i x) (plain t) (writes x i v w p b others l bound (fits-left w v x y f) h.0 s.0))
      (lift_factor G (level_of u) (Fine names i y) (plain u) (writes y i v w p b others l bound (fits-right w v x y f) h.1 s.1))
  writes (div x y) i v w p b others l bound f h s =
      let names : List ℕ = v ∷ others in
      let t : Placed = written w p b x in
      let u : Placed = written w p b y in
      let e : w ≡ v = fits-same w v f in
      product-div G (at_level (level_of t) Term (plain t)) (at_level (level_of u) Factor (plain u)) (λ q r d. fine-div names i x y q r d h.2)
      (lift_term G (level_of t) (Fine names i x) (plain t) (writes x i v w p b others l bound (inl e) h.0 s.0))
      (lift_factor G (level_of u) (Fine names i y) (plain u) (writes y i v w p b others l bound (inl e) h.1 s.1))
  writes (power x e) i v w p b others l bound f h s =
      let names : List ℕ = v ∷ others in
      let t : Placed = written w p b x in
      factor-decimal G (Fine names i x) (Fine names i (power x e)) (at_level (level_of t) Atom (plain t)) e s.1 (λ q d k. fine-power names i x q e d k)
      (lift_atom G (level_of t) (Fine names i x) (plain t) (writes x i v w p b others l bound f h s.0))
  writes (sum_from z x) i v w p b others l bound f h s =
      let inner : InForm (has_parameter (b ∷ others)) false x = subst (λ q. InForm q false x) (same_parameter v b others) h.2 in
      let y : Placed = written b p (next_bound b) x in
      subst (λ q. Writes (v ∷ others) q (sum_from z x) (written w p b (sum_from z x))) (sym h.0)
      (subst (λ q. Writes (v ∷ others) false (sum_from z x) (written_sum q b z (harmonic_order z x) y)) (sym (fits-same w v f))
      (writes-sum v p b others z x y l bound h.1
      (writes x false b b p (next_bound b) others (letters-inside v p b others l bound) (bound-next b bound) (inl refl) inner s)
      (harmonic_order z x) refl))
  writes (prod_from z (div (add (add x o) m) j)) i v w p b others l bound f h s =
      let body : Tree = div (add (add x o) m) j in
      let inner : InForm (has_parameter (b ∷ others)) true body = subst (λ q. InForm q true body) (same_parameter v b others) h.2 in
      let y : Placed = written b p (next_bound b) body in
      let left : Left (v ∷ others) body y = λ k. (let (constant, is) = is-binomial x o m j k in (
        x,
        constant,
        is,
        subst (λ q. SumText G (Fine (v ∷ others) false x) (plain q)) (sym (written_left b p (next_bound b) x o m j))
            (lift_sum G (level_of (written b p (next_bound b) x)) (Fine (v ∷ others) false x) (plain (written b p (next_bound b) x))
            (writes x false v b p (next_bound b) others l (bound-next b bound) (inr constant)
            (constant-form (has_parameter (v ∷ others)) true false x constant (h.2).0.0.0) s.0.0.0)),
      )) in
      subst (λ q. Writes (v ∷ others) q (prod_from z body) (written w p b (prod_from z body))) (sym h.0)
      (subst (λ q. Writes (v ∷ others) false (prod_from z body) (written_product q b z (product_form z body) y)) (sym (fits-same w v f))
      (writes-product v (next_bound b) p b others z body l bound h.1 inner s
      (writes (div (add (add x o) m) j) true b b p (next_bound b) others (letters-inside v p b others l bound) (bound-next b bound) (inl refl) inner s)
      left (product_form z body) refl))
  writes (prod_from z x) i v w p b others l bound f h s =
      let inner : InForm (has_parameter (b ∷ others)) true x = subst (λ q. InForm q true x) (same_parameter v b others) h.2 in
      let y : Placed = written b p (next_bound b) x in
      subst (λ q. Writes (v ∷ others) q (prod_from z x) (written w p b (prod_from z x))) (sym h.0)
      (subst (λ q. Writes (v ∷ others) false (prod_from z x) (written_product q b z (product_form z x) y)) (sym (fits-same w v f))
      (writes-product v (next_bound b) p b others z x l bound h.1 inner s
      (writes x true b b p (next_bound b) others (letters-inside v p b others l bound) (bound-next b bound) (inl refl) inner s)
      (λ k. absurd (not_binomial x refl k)) (product_form z x) refl))

print_letters : (names : List ℕ) → IsFree names → SparesBound names → (v : ℕ) × (others : List ℕ) × (names ≡ v ∷ others) × (get_or names 0 0 ≡ v) × Letters v (get_or names 1 0) others
print_letters [] h k = absurd h
print_letters (v ∷ []) h k = (v, [], refl, refl, record { variable = h; parameter = λ q. cc; apart = λ b q. (refl, apart_zero b q) })
print_letters (v ∷ (p ∷ [])) h k = (
  v,
  p ∷ [],
  refl,
  refl,
  record {
    variable = h.0;
    parameter = λ q. (same p, h.1, h.2);
    apart = λ b q. (apart_from b p q k.0 k.1);
  },
)
print_letters (v ∷ (p ∷ (q ∷ more))) h k = absurd h

pub reads-printed : (names : List ℕ) (e : Tree) → IsFree names → SparesBound names → InForm (has_parameter names) false e → IsShort e → Reads (printed names e) names e
reads-printed names e h k f s =
    let (v, others, is, at, l) = print_letters names h k in
    let p : ℕ = get_or names 1 0 in
    let text : List ℕ = plain (written v p 106 e) in
    let fit : InForm (has_parameter (v ∷ others)) false e = subst (λ q. InForm (has_parameter q) false e) is f in
    let G : Placed → Type 0 = Means unlimited false (v ∷ others) e in
    let a : SumText G (Fine (v ∷ others) false e) text = lift_sum G (level_of (written v p 106 e)) (Fine (v ∷ others) false e) text (writes G e false v v p 106 others l (inl refl) (inl refl) fit s) in
    let r : Reads text (v ∷ others) e = reads_text text (v ∷ others) e (λ parts more place last marks numbers trees g. a parts more place last marks numbers trees (λ q i t m. g q i t m.means)) in
    subst (λ q. Reads (plain (written q p 106 e)) names e) (sym at) (subst (λ q. Reads text q e) (sym is) r)
