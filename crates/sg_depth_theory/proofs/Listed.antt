-- The sums of expressions without products and parameter, as they are listed.
--   built_own        such an expression is built over its own sums
--   AreOver ps known ts     each of the sums ts is a sum over the known ones and those before it
--   over_earlier     each listed sum is one over those before it
--   once             none is listed twice
--   few_listed       where no count passes its limit, they are at most eight
--   start_high       the start is at most 1,000
use Rattle.std.proofs.Common.{◌≡◌, ℕ, ◌≤◌, ℤ, pos, negsuc, ◌-ℤ◌, ◌≤ℤ◌, Bool, true, false, cond, nat_lt, true≢false, refl, sym, ap, ◌∙◌, subst, List, [], ◌∷◌, ◌++◌, length, Option, None, Some, Contains, inl, inr, append_assoc, arith}
use Rattle.std.specs.Prelude.{unsigned_abs}
use Rattle.std.specs.Int.{int_max}
use Rattle.std.proofs.lemmas.Int.{ints, int_max_is}
use Rattle.std.proofs.lemmas.Bool.{leb-true, ltb-true}
use Rattle.std.proofs.lemmas.List.{length_push, append-nil}
use Rattle.std.proofs.lemmas.List.Elements.{Contains-append_left, Contains-append_right, Contains-push, Contains-push_cases}
use Rattle.sg_algebra.specs.Coefficients.{Each}
use Rattle.sg_spec.specs.Tree.{Tree, numeral, here, param, add, neg, mul, div, power, sum_from, prod_from}
use Rattle.sg_spec.specs.Printing.{InForm}
use Rattle.sg_spec.specs.Generators.{Allowed, same_tree, has_tree, with_new, distinct, concatenated, all_sums, all_prods, sums, prods, start, start_of}
use Rattle.sg_spec.specs.Generators.{BuiltOver as IsBuiltOf}
use Rattle.sg_spec.specs.Limits.{counted, first_not, keeps_nodes, keeps_degrees, keeps_sums, keeps_products, or_else, too_many_nodes, too_steep, too_many_sums, too_many_products}
use Rattle.sg_value_theory.proofs.Divisors.{listed_divisor}
use Rattle.sg_value_theory.proofs.OwnSums.{tree_same}
use Rattle.sg_value_theory.proofs.TowerOf.{BuiltOver, IsSumOver}

-- ---- No products

left_empty : (xs ys : List Tree) → xs ++ ys ≡ [] → xs ≡ []
left_empty [] ys e = refl
left_empty (x ∷ xs) ys e = cc

right_empty : (xs ys : List Tree) → xs ++ ys ≡ [] → ys ≡ []
right_empty [] ys e = e
right_empty (x ∷ xs) ys e = cc

no_push : (xs : List Tree) (y : Tree) → xs ++ y ∷ [] ≡ [] → ⊥
no_push [] y e = cc
no_push (x ∷ xs) y e = cc

longer : (known ts : List Tree) → length known ≤ length (with_new known ts)
longer known [] = omega arith
longer known (t ∷ ts) = go (has_tree t known) (longer known ts) (longer (known ++ (t ∷ [])) ts)
  where
    go : (b : Bool) → length known ≤ length (with_new known ts) → length (known ++ (t ∷ [])) ≤ length (with_new (known ++ (t ∷ [])) ts) → length known ≤ length (with_new (cond b known (known ++ (t ∷ []))) ts)
    go true h k = h
    go false h k = let e = length_push known t in omega (arith, k, e)

pub none_listed : (ts : List Tree) → distinct ts ≡ [] → ts ≡ []
none_listed [] e = refl
none_listed (t ∷ ts) e = let h = longer (t ∷ []) ts in let l : length (with_new (t ∷ []) ts) ≡ 0 = ap length e in absurd (omega (arith, h, l))

-- ---- Built over the own sums

abbrev Within : List Tree → List Tree → Type 0
Within xs ys = (u : Tree) → Contains xs u → Contains ys u

abbrev allowed : List Tree → List Tree → Allowed
allowed ps ss = record { parameter = false; products = ps; sums = ss }

listed_built : (ps ss : List Tree) (t : Tree) → InForm false false t → all_prods t ≡ [] → Within (all_sums t) ss → IsBuiltOf (allowed ps ss) t
listed_built ps ss (numeral c) f e w = tt
listed_built ps ss here f e w = tt
listed_built ps ss param f e w = absurd (true≢false (sym f))
listed_built ps ss (add x y) f e w = (
  listed_built ps ss x f.0 (left_empty (all_prods x) (all_prods y) e) (λ u c. w u (Contains-append_left (all_sums x) (all_sums y) u c)),
  listed_built ps ss y f.1 (right_empty (all_prods x) (all_prods y) e) (λ u c. w u (Contains-append_right (all_sums x) (all_sums y) u c)),
)
listed_built ps ss (neg x) f e w = listed_built ps ss x f e w
listed_built ps ss (mul x y) f e w = (
  listed_built ps ss x f.0 (left_empty (all_prods x) (all_prods y) e) (λ u c. w u (Contains-append_left (all_sums x) (all_sums y) u c)),
  listed_built ps ss y f.1 (right_empty (all_prods x) (all_prods y) e) (λ u c. w u (Contains-append_right (all_sums x) (all_sums y) u c)),
)
listed_built ps ss (div x y) f e w = (
  listed_built ps ss x f.0 (left_empty (all_prods x) (all_prods y) e) (λ u c. w u (Contains-append_left (all_sums x) (all_sums y) u c)),
  listed_built ps ss y f.1 (right_empty (all_prods x) (all_prods y) e) (λ u c. w u (Contains-append_right (all_sums x) (all_sums y) u c)),
  f.2,
)
listed_built ps ss (power x n) f e w = listed_built ps ss x f e w
listed_built ps ss (sum_from from body) f e w = w (sum_from from body) (Contains-push (all_sums body) (sum_from from body))
listed_built ps ss (prod_from from body) f e w = absurd (no_push (all_prods body) (prod_from from body) e)

by_divisors : (ps ss : List Tree) (t : Tree) → IsBuiltOf (allowed ps ss) t → BuiltOver ps ss t
by_divisors ps ss (numeral c) b = tt
by_divisors ps ss here b = tt
by_divisors ps ss param b = tt
by_divisors ps ss (add x y) b = (by_divisors ps ss x b.0, by_divisors ps ss y b.1)
by_divisors ps ss (neg x) b = by_divisors ps ss x b
by_divisors ps ss (mul x y) b = (by_divisors ps ss x b.0, by_divisors ps ss y b.1)
by_divisors ps ss (div x y) b = (by_divisors ps ss x b.0, by_divisors ps ss y b.1, listed_divisor ps ss y b.1 b.2)
by_divisors ps ss (power x n) b = by_divisors ps ss x b
by_divisors ps ss (sum_from from body) b = b
by_divisors ps ss (prod_from from body) b = b

pub built_own : (ps ss : List Tree) (t : Tree) → InForm false false t → all_prods t ≡ [] → Within (all_sums t) ss → BuiltOver ps ss t
built_own ps ss t f e w = by_divisors ps ss t (listed_built ps ss t f e w)

-- over more sums too
built_more : (ps xs ys : List Tree) (t : Tree) → Within xs ys → BuiltOver ps xs t → BuiltOver ps ys t
built_more ps xs ys (numeral c) w b = tt
built_more ps xs ys here w b = tt
built_more ps xs ys param w b = tt
built_more ps xs ys (add x y) w b = (built_more ps xs ys x w b.0, built_more ps xs ys y w b.1)
built_more ps xs ys (neg x) w b = built_more ps xs ys x w b
built_more ps xs ys (mul x y) w b = (built_more ps xs ys x w b.0, built_more ps xs ys y w b.1)
built_more ps xs ys (div x y) w b = (built_more ps xs ys x w b.0, built_more ps xs ys y w b.1, b.2)
built_more ps xs ys (power x n) w b = built_more ps xs ys x w b
built_more ps xs ys (sum_from from body) w b = w (sum_from from body) b
built_more ps xs ys (prod_from from body) w b = b

sum_more : (ps xs ys : List Tree) (t : Tree) → Within xs ys → IsSumOver ps xs t → IsSumOver ps ys t
sum_more ps xs ys (numeral c) w b = b
sum_more ps xs ys here w b = b
sum_more ps xs ys param w b = b
sum_more ps xs ys (add x y) w b = b
sum_more ps xs ys (neg x) w b = b
sum_more ps xs ys (mul x y) w b = b
sum_more ps xs ys (div x y) w b = b
sum_more ps xs ys (power x n) w b = b
sum_more ps xs ys (sum_from from body) w b = built_more ps xs ys body w b
sum_more ps xs ys (prod_from from body) w b = b

-- ---- Each over those before it

module _ (ps : List Tree) where
  abbrev AreOver : List Tree → List Tree → Type 0
  AreOver known [] = Unit {0}
  AreOver known (t ∷ ts) = IsSumOver ps known t × AreOver (known ++ t ∷ []) ts

  over_append : (known xs ys : List Tree) → AreOver known xs → AreOver (known ++ xs) ys → AreOver known (xs ++ ys)
  over_append known [] ys h k = subst (λ (us : List Tree). AreOver us ys) (append-nil known) k
  over_append known (x ∷ xs) ys h k = (h.0, over_append (known ++ x ∷ []) xs ys h.1 (subst (λ (us : List Tree). AreOver us ys) (sym (append_assoc known (x ∷ []) xs)) k))

  tree_over : (t : Tree) → InForm false false t → all_prods t ≡ [] → (known : List Tree) → AreOver known (all_sums t)
  tree_over (numeral c) f e known = tt
  tree_over here f e known = tt
  tree_over param f e known = tt
  tree_over (add x y) f e known = over_append known (all_sums x) (all_sums y) (tree_over x f.0 (left_empty (all_prods x) (all_prods y) e) known) (tree_over y f.1 (right_empty (all_prods x) (all_prods y) e) (known ++ all_sums x))
  tree_over (neg x) f e known = tree_over x f e known
  tree_over (mul x y) f e known = over_append known (all_sums x) (all_sums y) (tree_over x f.0 (left_empty (all_prods x) (all_prods y) e) known) (tree_over y f.1 (right_empty (all_prods x) (all_prods y) e) (known ++ all_sums x))
  tree_over (div x y) f e known = over_append known (all_sums x) (all_sums y) (tree_over x f.0 (left_empty (all_prods x) (all_prods y) e) known) (tree_over y f.1 (right_empty (all_prods x) (all_prods y) e) (known ++ all_sums x))
  tree_over (power x n) f e known = tree_over x f e known
  tree_over (sum_from from body) f e known =
      over_append known (all_sums body) (sum_from from body ∷ []) (tree_over body f.2 e known)
      (built_own ps (known ++ all_sums body) body f.2 e (λ u c. Contains-append_right known (all_sums body) u c), tt)
  tree_over (prod_from from body) f e known = absurd (no_push (all_prods body) (prod_from from body) e)

  all_over : (es : List Tree) → Each (InForm false false) es → concatenated all_prods es ≡ [] → (known : List Tree) → AreOver known (concatenated all_sums es)
  all_over [] f e known = tt
  all_over (t ∷ es) f e known =
      over_append known (all_sums t) (concatenated all_sums es) (tree_over t f.0 (left_empty (all_prods t) (concatenated all_prods es) e) known)
      (all_over es f.1 (right_empty (all_prods t) (concatenated all_prods es) e) (known ++ all_sums t))

  has_contains : (t : Tree) (us : List Tree) → has_tree t us ≡ true → Contains us t
  has_contains t [] e = absurd (true≢false (sym e))
  has_contains t (u ∷ us) e = go (same_tree t u) refl e (has_contains t us)
    where
      go : (b : Bool) → same_tree t u ≡ b → cond b true (has_tree t us) ≡ true → (has_tree t us ≡ true → Contains us t) → Contains (u ∷ us) t
      go true s e again = subst (λ (z : Tree). Contains (u ∷ us) z) (sym (tree_same t u s)) (Contains-append_left (u ∷ []) us u (Contains-push [] u))
      go false s e again = Contains-append_right (u ∷ []) us t (again e)

  with_known : (known seen : List Tree) (t : Tree) → Within seen known → Contains known t → Within (seen ++ t ∷ []) known
  with_known known seen t w k u c = elim (Contains-push_cases seen t u c) [ inl h ↦ w u h | inr e ↦ subst (λ (z : Tree). Contains known z) e k ]

  with_pushed : (known seen : List Tree) (t : Tree) → Within seen known → Within (seen ++ t ∷ []) (known ++ t ∷ [])
  with_pushed known seen t w u c = elim (Contains-push_cases seen t u c) [ inl h ↦ Contains-append_left known (t ∷ []) u (w u h) | inr e ↦ subst (λ (z : Tree). Contains (known ++ t ∷ []) z) e (Contains-push known t) ]

  joined_over : (known seen ts : List Tree) → AreOver [] known → Within seen known → AreOver seen ts → AreOver [] (with_new known ts)
  joined_over known seen [] h w k = h
  joined_over known seen (t ∷ ts) h w k = go (has_tree t known) refl (λ us v i. joined_over us (seen ++ t ∷ []) ts v i k.1)
    where
      go : (b : Bool) → has_tree t known ≡ b → ((us : List Tree) → AreOver [] us → Within (seen ++ t ∷ []) us → AreOver [] (with_new us ts)) → AreOver [] (with_new (cond b known (known ++ (t ∷ []))) ts)
      go true e again = again known h (with_known known seen t w (has_contains t known e))
      go false e again = again (known ++ t ∷ []) (over_append [] known (t ∷ []) h (sum_more ps seen known t w k.0, tt)) (with_pushed known seen t w)

  at_split : (known before after : List Tree) (g : Tree) → AreOver known (before ++ g ∷ after) → IsSumOver ps (known ++ before) g
  at_split known [] after g h = subst (λ (us : List Tree). IsSumOver ps us g) (sym (append-nil known)) h.0
  at_split known (b ∷ before) after g h = subst (λ (us : List Tree). IsSumOver ps us g) (append_assoc known (b ∷ []) before) (at_split (known ++ b ∷ []) before after g h.1)

pub over_earlier : (es : List Tree) → Each (InForm false false) es → prods es ≡ [] → (before after : List Tree) (g : Tree) → sums es ≡ before ++ g ∷ after → IsSumOver (prods es) before g
over_earlier es f e before after g is =
    at_split (prods es) [] before after g
    (subst (λ (ts : List Tree). AreOver (prods es) [] ts) is (joined_over (prods es) [] [] (concatenated all_sums es) tt (λ u c. c) (all_over (prods es) es f (none_listed (concatenated all_prods es) e) [])))

-- ---- None twice

abbrev AreNew : List Tree → List Tree → Type 0
AreNew known [] = Unit {0}
AreNew known (t ∷ ts) = (has_tree t known ≡ false) × AreNew (known ++ t ∷ []) ts

new_stays : (known ts : List Tree) → AreNew known ts → with_new known ts ≡ known ++ ts
new_stays known [] h = sym (append-nil known)
new_stays known (t ∷ ts) h = ap (λ b. with_new (cond b known (known ++ (t ∷ []))) ts) h.0 ∙ new_stays (known ++ t ∷ []) ts h.1 ∙ append_assoc known (t ∷ []) ts

new_push : (known xs : List Tree) (t : Tree) → AreNew known xs → has_tree t (known ++ xs) ≡ false → AreNew known (xs ++ t ∷ [])
new_push known [] t h e = (subst (λ (us : List Tree). has_tree t us ≡ false) (append-nil known) e, tt)
new_push known (x ∷ xs) t h e = (h.0, new_push (known ++ x ∷ []) xs t h.1 (subst (λ (us : List Tree). has_tree t us ≡ false) (sym (append_assoc known (x ∷ []) xs)) e))

joined_new : (known ts : List Tree) → AreNew [] known → AreNew [] (with_new known ts)
joined_new known [] h = h
joined_new known (t ∷ ts) h = go (has_tree t known) refl (λ us v. joined_new us ts v)
  where
    go : (b : Bool) → has_tree t known ≡ b → ((us : List Tree) → AreNew [] us → AreNew [] (with_new us ts)) → AreNew [] (with_new (cond b known (known ++ (t ∷ []))) ts)
    go true e again = again known h
    go false e again = again (known ++ t ∷ []) (new_push [] known t h e)

pub once : (es : List Tree) → distinct (sums es) ≡ sums es
once es = new_stays [] (sums es) (joined_new [] (concatenated all_sums es) tt)

-- ---- Few, and with a start that isn't high

kept : (b c : Bool) (n m : Option ℕ) → or_else too_many_nodes n (or_else too_steep m (cond b (cond c None (Some too_many_products)) (Some too_many_sums))) ≡ None → b ≡ true
kept true c n m e = refl
kept false c None None e = cc
kept false c None (Some i) e = cc
kept false c (Some i) m e = cc

pub few_listed : (es : List Tree) → counted es ≡ None → length (sums es) ≤ 8
few_listed es e = leb-true (length (sums es)) 8 (kept (keeps_sums es) (keeps_products es) (first_not keeps_nodes es) (first_not keeps_degrees es) e)

small : (z : ℤ) → nat_lt (unsigned_abs z) 1001 ≡ true → (z -ℤ pos 1) ≤ℤ pos 1000
small (pos n) h = let l = ltb-true n 1001 h in omega (arith, ints, l)
small (negsuc n) h = omega (arith, ints)

later : (a b : ℤ) → a ≤ℤ pos 1000 → b ≤ℤ pos 1000 → int_max a b ≤ℤ pos 1000
later a b h k = omega (arith, ints, int_max_is a b)

start_of_high : (known in_product : Bool) (t : Tree) (a : ℤ) → InForm known in_product t → a ≤ℤ pos 1000 → start_of t a ≤ℤ pos 1000
start_of_high known p (numeral c) a f h = h
start_of_high known p here a f h = h
start_of_high known p param a f h = h
start_of_high known p (add x y) a f h = start_of_high known p y (start_of x a) f.1 (start_of_high known p x a f.0 h)
start_of_high known p (neg x) a f h = start_of_high known p x a f h
start_of_high known p (mul x y) a f h = start_of_high known p y (start_of x a) f.1 (start_of_high known p x a f.0 h)
start_of_high known p (div x y) a f h = start_of_high known p y (start_of x a) f.1 (start_of_high known p x a f.0 h)
start_of_high known p (power x n) a f h = start_of_high known p x a f h
start_of_high known p (sum_from from body) a f h = later (start_of body a) (from -ℤ pos 1) (start_of_high known false body a f.2 h) (small from f.1)
start_of_high known p (prod_from from body) a f h = later (start_of body a) (from -ℤ pos 1) (start_of_high known true body a f.2 h) (small from f.1)

pub start_high : (known : Bool) (es : List Tree) (a : ℤ) → Each (InForm known false) es → a ≤ℤ pos 1000 → start es a ≤ℤ pos 1000
start_high known [] a f h = h
start_high known (e ∷ es) a f h = start_high known es (start_of e a) f.1 (start_of_high known false e a f.0 h)
