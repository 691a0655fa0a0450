-- Capped numbers change no fault, and nothing at all in a tree whose numbers fit.
--   cap_spot, cap_tree, cap_state    what stays of a spot, a tree, a state when numbers are capped
--   Builds-cap          what is built with capped numbers is what is built, capped
--   uncapped            the tree of a text behind its capped tree
--   faults-cap          the faults stay
--   FitsTree-uncapped   a tree whose capped numbers fit is as it was
use Rattle.std.specs.Prelude.{◌≡◌, ◌==◌, ℕ, ◌+◌, ◌-◌, ◌*◌, ◌^◌, ◌≤◌, ◌<◌, min, Bool, true, List, [], ◌∷◌, map}
use Rattle.std.proofs.Common.{refl, sym, ap, ◌∙◌, subst, arith}
use Rattle.std.proofs.lemmas.Bool.Decides.{nat_tests}
use Rattle.sg_spec.specs.Grammar.{Action, mark, letter, minus_sign, begin_number, digit, use_number, use_name, negate, add_up, subtract, multiply, divide, raise, make_sum, make_product, make_harmonic, make_harmonic_of_order, make_factorial, make_binomial, make_power, Symbol, Builds, none_left, eats, acts, opens_by}
use Rattle.sg_spec.specs.Syntax.{Spot, Placed, number, named, negated, added, subtracted, multiplied, divided, raised, sum_call, product_call, harmonic, harmonic_of_order, factorial, binomial, constant_power, State, at_start, after_byte, after_action, top_spot, top_tree, rest, with_digit}
use Rattle.sg_spec.specs.Reading.{numeral_fault, Limits, fault_unless, is_small, is_divisor, is_constant, inside, faults, HasTree}
use Rattle.sg_syntax.specs.Drafts.{capped, with_capped_digit, capped_action}
use Rattle.sg_syntax.specs.Machines.{HasCappedTree}
use Rattle.sg_syntax.proofs.Balance.{has_tree}
use Rattle.sg_text.specs.Tests.{polynomial_in, divisor_in, constant_in}
use Rattle.sg_text.proofs.Tested.{divisor_in-is, constant_in-is}
use Rattle.sg_text.specs.Fits.{FitsTree}
use Rattle.sg_syntax.proofs.Same.{spelled, some_state, made_is}

abbrev pub cap_spot : Spot → Spot
cap_spot s = record { place = s.place; value = capped s.value }

abbrev pub cap_tree : Placed → Placed
cap_tree (number s) = number (cap_spot s)
cap_tree (named s) = named s
cap_tree (negated x) = negated (cap_tree x)
cap_tree (added x y) = added (cap_tree x) (cap_tree y)
cap_tree (subtracted x y) = subtracted (cap_tree x) (cap_tree y)
cap_tree (multiplied x y) = multiplied (cap_tree x) (cap_tree y)
cap_tree (divided x s y) = divided (cap_tree x) s (cap_tree y)
cap_tree (raised x e) = raised (cap_tree x) (cap_spot e)
cap_tree (sum_call c bound sign lower upper body) = sum_call c bound sign (cap_spot lower) upper (cap_tree body)
cap_tree (product_call c bound sign lower upper body) = product_call c bound sign (cap_spot lower) upper (cap_tree body)
cap_tree (harmonic c v) = harmonic c v
cap_tree (harmonic_of_order c v r) = harmonic_of_order c v (cap_spot r)
cap_tree (factorial c v) = factorial c v
cap_tree (binomial c s x v) = binomial c s (cap_tree x) v
cap_tree (constant_power c x v) = constant_power c (cap_tree x) v

abbrev pub cap_state : State → State
cap_state s = record s { numbers = map cap_spot s.numbers; trees = map cap_tree s.trees }

top_spot-cap : (ss : List Spot) → top_spot (map cap_spot ss) ≡ cap_spot (top_spot ss)
top_spot-cap [] = refl
top_spot-cap (s ∷ ss) = refl

rest-cap_spot : (ss : List Spot) → rest (map cap_spot ss) ≡ map cap_spot (rest ss)
rest-cap_spot [] = refl
rest-cap_spot (s ∷ ss) = refl

top_tree-cap : (ts : List Placed) → top_tree (map cap_tree ts) ≡ cap_tree (top_tree ts)
top_tree-cap [] = refl
top_tree-cap (t ∷ ts) = refl

rest-cap_tree : (ts : List Placed) → rest (map cap_tree ts) ≡ map cap_tree (rest ts)
rest-cap_tree [] = refl
rest-cap_tree (t ∷ ts) = refl

capped_digit : (n d c : ℕ) → min (n * 10 + d) c ≡ min (min n c * 10 + d) c
capped_digit n d c = omega arith

digit-cap : (b : ℕ) (ns : List Spot) → map cap_spot (with_digit b ns) ≡ with_capped_digit b (map cap_spot ns)
digit-cap b [] = refl
digit-cap b (n ∷ ns) = ap (λ q. record { place = n.place; value = q } ∷ map cap_spot ns) (capped_digit n.value (b - 48) (2 ^ 128))

action-cap : (a : Action) (s : State) → cap_state (after_action a s) ≡ capped_action a (cap_state s)
action-cap digit s = ap (λ q. record (cap_state s) { numbers = q }) (digit-cap s.last s.numbers)
action-cap mark s = refl
action-cap letter s = refl
action-cap minus_sign s = refl
action-cap begin_number s = refl
action-cap use_number s = simp (top_spot-cap, rest-cap_spot)
action-cap use_name s = refl
action-cap negate s = simp (top_tree-cap, rest-cap_tree)
action-cap add_up s = simp (top_tree-cap, rest-cap_tree)
action-cap subtract s = simp (top_tree-cap, rest-cap_tree)
action-cap multiply s = simp (top_tree-cap, rest-cap_tree)
action-cap divide s = simp (top_tree-cap, rest-cap_tree)
action-cap raise s = simp (top_tree-cap, rest-cap_tree, top_spot-cap, rest-cap_spot)
action-cap make_sum s = simp (top_tree-cap, rest-cap_tree, top_spot-cap, rest-cap_spot)
action-cap make_product s = simp (top_tree-cap, rest-cap_tree, top_spot-cap, rest-cap_spot)
action-cap make_harmonic s = refl
action-cap make_harmonic_of_order s = simp (top_spot-cap, rest-cap_spot)
action-cap make_factorial s = refl
action-cap make_binomial s = simp (top_tree-cap, rest-cap_tree)
action-cap make_power s = simp (top_tree-cap, rest-cap_tree)

pub Builds-cap : {st : List Symbol} {w : List ℕ} {x y : State} → Builds after_byte after_action st w x y → Builds after_byte capped_action st w (cap_state x) (cap_state y)
Builds-cap none_left = none_left
Builds-cap (eats b l h s) = eats b l h (Builds-cap s)
Builds-cap {y = y} (acts {a = a} {parts = parts} {w = w} {x = x} s) = acts (subst (λ q. Builds after_byte capped_action parts w q (cap_state y)) (action-cap a x) (Builds-cap s))
Builds-cap (opens_by way p i s) = opens_by way p i (Builds-cap s)

pub uncapped : (w : List ℕ) (t : Placed) → HasCappedTree w t → (u : Placed) × HasTree w u × (t ≡ cap_tree u)
uncapped w t h =
    let (y, s) = some_state after_byte after_action (spelled h.built) at_start in
    let f = made_is after_byte capped_action w h.built in
    let g = made_is after_byte capped_action w (Builds-cap s) in
    (top_tree y.trees, has_tree w y s, sym h.on_top ∙ (ap (λ (z : State). top_tree z.trees) (sym f ∙ g) ∙ top_tree-cap y.trees))

-- tests of numbers that capping doesn't change
pub record IsSteady (limits : Limits) : Type 0 where
  pub numeral : (n : ℕ) → limits.numeral (capped n) ≡ limits.numeral n
  pub exponent : (n : ℕ) → limits.exponent (capped n) ≡ limits.exponent n

small-cap : (n : ℕ) → is_small (capped n) ≡ is_small n
small-cap n = grind (arith, nat_tests)

zero-cap : (n : ℕ) → (capped n == 0) ≡ (n == 0)
zero-cap n = grind (arith, nat_tests)

polynomial_in-cap : (names : List ℕ) (t : Placed) → polynomial_in names (cap_tree t) ≡ polynomial_in names t
polynomial_in-cap names (number s) = refl
polynomial_in-cap names (named s) = refl
polynomial_in-cap names (negated x) = polynomial_in-cap names x
polynomial_in-cap names (added x y) = cc (polynomial_in-cap names x, polynomial_in-cap names y)
polynomial_in-cap names (subtracted x y) = cc (polynomial_in-cap names x, polynomial_in-cap names y)
polynomial_in-cap names (multiplied x y) = cc (polynomial_in-cap names x, polynomial_in-cap names y)
polynomial_in-cap names (raised x e) = polynomial_in-cap names x
polynomial_in-cap names t = refl

divisor_in-cap : (names : List ℕ) (t : Placed) → divisor_in names (cap_tree t) ≡ divisor_in names t
divisor_in-cap names (number s) = refl
divisor_in-cap names (named s) = refl
divisor_in-cap names (negated x) = divisor_in-cap names x
divisor_in-cap names (added x y) = cc (polynomial_in-cap names x, polynomial_in-cap names y)
divisor_in-cap names (subtracted x y) = cc (polynomial_in-cap names x, polynomial_in-cap names y)
divisor_in-cap names (multiplied x y) = cc (divisor_in-cap names x, divisor_in-cap names y)
divisor_in-cap names (raised x e) = divisor_in-cap names x
divisor_in-cap names t = refl

constant_in-cap : (names : List ℕ) (t : Placed) → constant_in names (cap_tree t) ≡ constant_in names t
constant_in-cap names (number s) = refl
constant_in-cap names (named s) = refl
constant_in-cap names (negated x) = constant_in-cap names x
constant_in-cap names (added x y) = cc (constant_in-cap names x, constant_in-cap names y)
constant_in-cap names (subtracted x y) = cc (constant_in-cap names x, constant_in-cap names y)
constant_in-cap names (multiplied x y) = cc (constant_in-cap names x, constant_in-cap names y)
constant_in-cap names (raised x e) = constant_in-cap names x
constant_in-cap names t = refl

divisor-cap : (names : List ℕ) (t : Placed) → is_divisor names (cap_tree t) ≡ is_divisor names t
divisor-cap names t = sym (divisor_in-is names (cap_tree t)) ∙ (divisor_in-cap names t ∙ divisor_in-is names t)

constant-cap : (names : List ℕ) (t : Placed) → is_constant names (cap_tree t) ≡ is_constant names t
constant-cap names t = sym (constant_in-is names (cap_tree t)) ∙ (constant_in-cap names t ∙ constant_in-is names t)

pub faults-cap : (limits : Limits) → IsSteady limits → (in_product : Bool) (names : List ℕ) (t : Placed) → faults limits in_product names (cap_tree t) ≡ faults limits in_product names t
faults-cap limits h p names (number s) = ap (λ q. fault_unless q numeral_fault s.place) (h.numeral s.value)
faults-cap limits h p names (named s) = refl
faults-cap limits h p names (negated x) = faults-cap limits h p names x
faults-cap limits h p names (added x y) = cc (faults-cap limits h p names x, faults-cap limits h p names y)
faults-cap limits h p names (subtracted x y) = cc (faults-cap limits h p names x, faults-cap limits h p names y)
faults-cap limits h p names (multiplied x y) = cc (faults-cap limits h p names x, faults-cap limits h p names y)
faults-cap limits h p names (divided x s y) = cc (faults-cap limits h p names x, faults-cap limits h p names y, divisor-cap names y)
faults-cap limits h p names (raised x e) = cc (faults-cap limits h p names x, h.exponent e.value)
faults-cap limits h p names (sum_call c bound sign lower upper body) = cc (faults-cap limits h p (inside bound.value names) body, small-cap lower.value, h.numeral lower.value)
faults-cap limits h p names (product_call c bound sign lower upper body) = cc (faults-cap limits h true (inside bound.value names) body, small-cap lower.value, h.numeral lower.value)
faults-cap limits h p names (harmonic c v) = refl
faults-cap limits h p names (harmonic_of_order c v r) = cc (zero-cap r.value, h.exponent r.value)
faults-cap limits h p names (factorial c v) = refl
faults-cap limits h p names (binomial c s x v) = cc (faults-cap limits h p names x, constant-cap names x)
faults-cap limits h p names (constant_power c x v) = cc (faults-cap limits h p names x)

fits_spot : (s : Spot) (k : ℕ) → capped s.value < k → k ≤ 2 ^ 128 → cap_spot s ≡ s
fits_spot s k h m = let e : capped s.value ≡ s.value = omega arith in ap (λ q. record { place = s.place; value = q }) e

pub FitsTree-uncapped : (t : Placed) → FitsTree (cap_tree t) → cap_tree t ≡ t
FitsTree-uncapped (number s) h = ap number (fits_spot s (2 ^ 127) h (omega arith))
FitsTree-uncapped (named s) h = refl
FitsTree-uncapped (negated x) h = ap negated (FitsTree-uncapped x h)
FitsTree-uncapped (added x y) h = cc (FitsTree-uncapped x h.0, FitsTree-uncapped y h.1)
FitsTree-uncapped (subtracted x y) h = cc (FitsTree-uncapped x h.0, FitsTree-uncapped y h.1)
FitsTree-uncapped (multiplied x y) h = cc (FitsTree-uncapped x h.0, FitsTree-uncapped y h.1)
FitsTree-uncapped (divided x s y) h = cc (FitsTree-uncapped x h.0, FitsTree-uncapped y h.1)
FitsTree-uncapped (raised x e) h = cc (FitsTree-uncapped x h.0, fits_spot e (2 ^ 128) h.1 (omega arith))
FitsTree-uncapped (sum_call c bound sign lower upper body) h = cc (FitsTree-uncapped body h.1, fits_spot lower 1001 (omega (arith, h.0)) (omega arith))
FitsTree-uncapped (product_call c bound sign lower upper body) h = cc (FitsTree-uncapped body h.1, fits_spot lower 1001 (omega (arith, h.0)) (omega arith))
FitsTree-uncapped (harmonic c v) h = refl
FitsTree-uncapped (harmonic_of_order c v r) h = ap (harmonic_of_order c v) (fits_spot r (2 ^ 128) h (omega arith))
FitsTree-uncapped (factorial c v) h = refl
FitsTree-uncapped (binomial c s x v) h = cc (FitsTree-uncapped x h)
FitsTree-uncapped (constant_power c x v) h = cc (FitsTree-uncapped x h)
