-- From the start on no range of a sum or product runs down.
--   from_before, start-from      a start isn't before the number that it is found from
--   starts_later                 what starts by a number starts by a later one
--   sums_start, prods_start      the distinct sums and products of expressions start by their start
use Rattle.std.proofs.Common.{List, [], ◌∷◌, ◌++◌, ℤ, pos, ◌-ℤ◌, ◌≤ℤ◌, arith}
use Rattle.std.proofs.lemmas.Int.{ints, int_max_is}
use Rattle.std.specs.Int.{int_max}
use Rattle.sg_algebra.specs.Coefficients.{Each}
use Rattle.sg_algebra.proofs.Lists.{each_to}
use Rattle.sg_spec.specs.Tree.{Tree, numeral, here, param, add, neg, mul, div, power, sum_from, prod_from}
use Rattle.sg_spec.specs.Generators.{all_sums, all_prods, concatenated, sums, prods, start, start_of}
use Rattle.sg_worth_theory.proofs.Bodies.{StartsBy}
use Rattle.sg_limits.proofs.Elementary.{each_append}
use Rattle.sg_limits.proofs.Bodies.{each_with_new}

trans_le : (a b c : ℤ) → a ≤ℤ b → b ≤ℤ c → a ≤ℤ c
trans_le a b c h k = omega (arith, ints)

left_max : (a b c : ℤ) → a ≤ℤ b → a ≤ℤ int_max b c
left_max a b c h = omega (arith, ints, int_max_is b c)

right_max : (b c : ℤ) → c ≤ℤ int_max b c
right_max b c = omega (arith, ints, int_max_is b c)

pub from_before : (t : Tree) (a : ℤ) → a ≤ℤ start_of t a
from_before (numeral c) a = omega (arith, ints)
from_before here a = omega (arith, ints)
from_before param a = omega (arith, ints)
from_before (add x y) a = trans_le a (start_of x a) (start_of y (start_of x a)) (from_before x a) (from_before y (start_of x a))
from_before (neg x) a = from_before x a
from_before (mul x y) a = trans_le a (start_of x a) (start_of y (start_of x a)) (from_before x a) (from_before y (start_of x a))
from_before (div x y) a = trans_le a (start_of x a) (start_of y (start_of x a)) (from_before x a) (from_before y (start_of x a))
from_before (power x e) a = from_before x a
from_before (sum_from from body) a = left_max a (start_of body a) (from -ℤ pos 1) (from_before body a)
from_before (prod_from from body) a = left_max a (start_of body a) (from -ℤ pos 1) (from_before body a)

pub start-from : (es : List Tree) (a : ℤ) → a ≤ℤ start es a
start-from [] a = omega (arith, ints)
start-from (e ∷ es) a = trans_le a (start_of e a) (start es (start_of e a)) (from_before e a) (start-from es (start_of e a))

pub starts_later : (s r : ℤ) → s ≤ℤ r → (t : Tree) → StartsBy s t → StartsBy r t
starts_later s r h (numeral c) b = b
starts_later s r h here b = b
starts_later s r h param b = b
starts_later s r h (add x y) b = b
starts_later s r h (neg x) b = b
starts_later s r h (mul x y) b = b
starts_later s r h (div x y) b = b
starts_later s r h (power x e) b = b
starts_later s r h (sum_from from body) b = trans_le (from -ℤ pos 1) s r b h
starts_later s r h (prod_from from body) b = trans_le (from -ℤ pos 1) s r b h

each_later : (s r : ℤ) (ts : List Tree) → s ≤ℤ r → Each (StartsBy s) ts → Each (StartsBy r) ts
each_later s r ts h b = each_to (StartsBy s) (StartsBy r) ts (starts_later s r h) b

both : (x y : Tree) (f : Tree → List Tree) (a : ℤ) → Each (StartsBy (start_of x a)) (f x) → Each (StartsBy (start_of y (start_of x a))) (f y) → Each (StartsBy (start_of y (start_of x a))) (f x ++ f y)
both x y f a h k = each_append (StartsBy (start_of y (start_of x a))) (f x) (f y) (each_later (start_of x a) (start_of y (start_of x a)) (f x) (from_before y (start_of x a)) h) k

inner : (body : Tree) (ts : List Tree) (a b : ℤ) → Each (StartsBy (start_of body a)) ts → Each (StartsBy (int_max (start_of body a) b)) ts
inner body ts a b h = each_later (start_of body a) (int_max (start_of body a) b) ts (left_max (start_of body a) (start_of body a) b (omega (arith, ints))) h

tree_sums : (t : Tree) (a : ℤ) → Each (StartsBy (start_of t a)) (all_sums t)
tree_sums (numeral c) a = tt
tree_sums here a = tt
tree_sums param a = tt
tree_sums (add x y) a = both x y all_sums a (tree_sums x a) (tree_sums y (start_of x a))
tree_sums (neg x) a = tree_sums x a
tree_sums (mul x y) a = both x y all_sums a (tree_sums x a) (tree_sums y (start_of x a))
tree_sums (div x y) a = both x y all_sums a (tree_sums x a) (tree_sums y (start_of x a))
tree_sums (power x e) a = tree_sums x a
tree_sums (sum_from from body) a =
    each_append (StartsBy (start_of (sum_from from body) a)) (all_sums body) (sum_from from body ∷ []) (inner body (all_sums body) a (from -ℤ pos 1) (tree_sums body a)) (right_max (start_of body a) (from -ℤ pos 1), tt)
tree_sums (prod_from from body) a = inner body (all_sums body) a (from -ℤ pos 1) (tree_sums body a)

tree_prods : (t : Tree) (a : ℤ) → Each (StartsBy (start_of t a)) (all_prods t)
tree_prods (numeral c) a = tt
tree_prods here a = tt
tree_prods param a = tt
tree_prods (add x y) a = both x y all_prods a (tree_prods x a) (tree_prods y (start_of x a))
tree_prods (neg x) a = tree_prods x a
tree_prods (mul x y) a = both x y all_prods a (tree_prods x a) (tree_prods y (start_of x a))
tree_prods (div x y) a = both x y all_prods a (tree_prods x a) (tree_prods y (start_of x a))
tree_prods (power x e) a = tree_prods x a
tree_prods (sum_from from body) a = inner body (all_prods body) a (from -ℤ pos 1) (tree_prods body a)
tree_prods (prod_from from body) a =
    each_append (StartsBy (start_of (prod_from from body) a)) (all_prods body) (prod_from from body ∷ []) (inner body (all_prods body) a (from -ℤ pos 1) (tree_prods body a)) (right_max (start_of body a) (from -ℤ pos 1), tt)

all_start : (f : Tree → List Tree) → ((t : Tree) (a : ℤ) → Each (StartsBy (start_of t a)) (f t)) → (es : List Tree) (a : ℤ) → Each (StartsBy (start es a)) (concatenated f es)
all_start f h [] a = tt
all_start f h (e ∷ es) a =
    each_append (StartsBy (start es (start_of e a))) (f e) (concatenated f es) (each_later (start_of e a) (start es (start_of e a)) (f e) (start-from es (start_of e a)) (h e a)) (all_start f h es (start_of e a))

pub sums_start : (es : List Tree) (a : ℤ) → Each (StartsBy (start es a)) (sums es)
sums_start es a = each_with_new (StartsBy (start es a)) [] (concatenated all_sums es) tt (all_start all_sums tree_sums es a)

pub prods_start : (es : List Tree) (a : ℤ) → Each (StartsBy (start es a)) (prods es)
prods_start es a = each_with_new (StartsBy (start es a)) [] (concatenated all_prods es) tt (all_start all_prods tree_prods es a)
