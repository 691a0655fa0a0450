-- Steps of writing a tree.
--   plain_added      the text of a sum is that of its left operand and what follows it
--   onto_added, onto_left     the same after what stands before
--   written_left     a sum is written with its left operand on the left
--   short_left       where a product is a binomial coefficient, x is the only part with further numbers
use Rattle.std.specs.Prelude.{◌≡◌, ℕ, ◌<◌, ◌^◌, ℤ, pos, negsuc, unsigned_abs, Bool, true, false, cond, ◌&&◌, List, ◌++◌}
use Rattle.std.proofs.Common.{refl, sym, ap, ◌∙◌, append_assoc, arith}
use Rattle.std.proofs.lemmas.Bool.Decides.{nat_tests}
use Rattle.sg_spec.specs.Tree.{Tree, numeral, here, add, neg, div}
use Rattle.sg_spec.specs.Printing.{IsShort}
use Rattle.sg_spec.specs.Shape.{is_constant_tree}
use Rattle.sg_text.specs.declared.printing.ProductForm.TheVariants.{Full, Binomial}
use Rattle.sg_text.specs.PrintedText.{is_first, is_one, is_here, is_minus_here, body_form, written, left_of, added_text, plain}

pub plain_added : (v p bound : ℕ) (x y : Tree) → plain (written v p bound (add x y)) ≡ plain (written v p bound x) ++ added_text v p bound y
plain_added v p bound x (neg y) = refl
plain_added v p bound x y = refl

pub written_left : (v p bound : ℕ) (x o m j : Tree) → left_of (left_of (left_of (written v p bound (div (add (add x o) m) j)))) ≡ written v p bound x
written_left v p bound x (neg o) (neg m) j = refl
written_left v p bound x (neg o) m j = refl
written_left v p bound x o (neg m) j = refl
written_left v p bound x o m j = refl

-- the same after what stands before
pub onto_added : (v p bound : ℕ) (x y e : Tree) (old mid new : List ℕ) → e ≡ add x y
    → mid ≡ old ++ plain (written v p bound x) → new ≡ mid ++ added_text v p bound y → new ≡ old ++ plain (written v p bound e)
onto_added v p bound x y e old mid new is h k =
    k ∙ ap (λ q. q ++ added_text v p bound y) h ∙ append_assoc old (plain (written v p bound x)) (added_text v p bound y)
    ∙ ap (λ q. old ++ q) (sym (plain_added v p bound x y)) ∙ ap (λ q. old ++ plain (written v p bound q)) (sym is)

pub onto_left : (v p bound : ℕ) (x o m j e : Tree) (old new : List ℕ) → e ≡ div (add (add x o) m) j
    → new ≡ old ++ plain (written v p bound x) → new ≡ old ++ plain (left_of (left_of (left_of (written v p bound e))))
onto_left v p bound x o m j e old new is h =
    h ∙ ap (λ q. old ++ plain q) (sym (written_left v p bound x o m j)) ∙ ap (λ q. old ++ plain (left_of (left_of (left_of (written v p bound q))))) (sym is)

-- both parts of a test that holds
pub left_true : (a b : Bool) → (a && b) ≡ true → a ≡ true
left_true true b h = refl
left_true false b h = h

pub right_true : (a b : Bool) → (a && b) ≡ true → b ≡ true
right_true true b h = h
right_true false b h = cc

chosen : (b : Bool) → cond b Binomial Full ≡ Binomial → b ≡ true
chosen true h = refl
chosen false h = cc

short-first : (z : ℤ) → is_first z ≡ true → unsigned_abs z < 10 ^ 64
short-first (pos n) h = let e : n ≡ 1 = grind (arith, nat_tests) in omega arith
short-first (negsuc n) h = cc

short-one : (x : Tree) → is_one x ≡ true → IsShort x
short-one (numeral z) h = short-first z h
short-one x h = cc

short-here : (x : Tree) → is_here x ≡ true → IsShort x
short-here here h = tt
short-here x h = cc

short-minus_here : (x : Tree) → is_minus_here x ≡ true → IsShort x
short-minus_here (neg x) h = short-here x h
short-minus_here x h = cc

pub short_left : (x o m j : Tree) → body_form (div (add (add x o) m) j) ≡ Binomial → IsShort x → IsShort (div (add (add x o) m) j)
short_left x o m j h s =
    let k = chosen ((is_one o && is_constant_tree x && is_minus_here m) && is_here j) h in
    let top = left_true (is_one o && is_constant_tree x && is_minus_here m) (is_here j) k in
    let more = left_true (is_one o && is_constant_tree x) (is_minus_here m) top in (
      ((s, short-one o (left_true (is_one o) (is_constant_tree x) more)), short-minus_here m (right_true (is_one o && is_constant_tree x) (is_minus_here m) top)),
      short-here j (right_true (is_one o && is_constant_tree x && is_minus_here m) (is_here j) k),
    )
