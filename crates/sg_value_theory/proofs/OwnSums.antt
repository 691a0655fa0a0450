-- A text without products and parameter is over its own sums.
--   tree_same        trees that the test takes for equal are
--   distinct_has     the list without repeats has each tree of the list
--   Outer            no product and no parameter at the outer scope
--   own_over         so the expression is over its own sums, and over those of a longer list of expressions
--   closed_some      so a closed form gives an expression over the sums that telescopes
use Rattle.std.proofs.Common.{◌≡◌, ℕ, refl, sym, ap, ap₂, subst, List, [], ◌∷◌, ◌++◌, ◌⊎◌, inl, inr, ℤ, pos, negsuc, ◌-ℤ◌, ◌≤ℤ◌, Bool, true, false, ◌&&◌, true≢false, cond, Contains, arith}
use Rattle.std.specs.Prelude.{◌==◌}
use Rattle.std.proofs.lemmas.Bool.{eqb-true}
use Rattle.std.proofs.lemmas.List.Elements.{Contains-append_left, Contains-append_right, Contains-append_cases, Contains-push, Contains-push_cases}
use Rattle.sg_spec.specs.Tree.{Tree, numeral, here, param, add, neg, mul, div, power, sum_from, prod_from}
use Rattle.sg_spec.specs.Value.{val, total, SameValue}
use Rattle.sg_spec.specs.Generators.{same_whole, same_tree, has_tree, with_new, distinct, concatenated, sums, all_sums, Over}
use Rattle.sg_spec.specs.Telescoping.{Tele}
use Rattle.sg_value_theory.proofs.Converse.{closed_tele}

both_true : (a b : Bool) → a && b ≡ true → (a ≡ true) × (b ≡ true)
both_true true true e = (refl, refl)
both_true true false e = absurd (true≢false (sym e))
both_true false b e = absurd (true≢false (sym e))

number_same : (m n : ℕ) → (m == n) ≡ true → m ≡ n
number_same m n e = eqb-true m n e

whole_same : (a b : ℤ) → same_whole a b ≡ true → a ≡ b
whole_same (pos m) (pos n) e = ap pos (number_same m n e)
whole_same (negsuc m) (negsuc n) e = ap negsuc (number_same m n e)
whole_same (pos m) (negsuc n) e = absurd (true≢false (sym e))
whole_same (negsuc m) (pos n) e = absurd (true≢false (sym e))

pub tree_same : (t u : Tree) → same_tree t u ≡ true → t ≡ u
tree_same (numeral c) (numeral c') e = ap numeral (whole_same c c' e)
tree_same (numeral c) here e = absurd (true≢false (sym e))
tree_same (numeral c) param e = absurd (true≢false (sym e))
tree_same (numeral c) (add x' y') e = absurd (true≢false (sym e))
tree_same (numeral c) (neg x') e = absurd (true≢false (sym e))
tree_same (numeral c) (mul x' y') e = absurd (true≢false (sym e))
tree_same (numeral c) (div x' y') e = absurd (true≢false (sym e))
tree_same (numeral c) (power x' n') e = absurd (true≢false (sym e))
tree_same (numeral c) (sum_from a' x') e = absurd (true≢false (sym e))
tree_same (numeral c) (prod_from a' x') e = absurd (true≢false (sym e))
tree_same here (numeral c') e = absurd (true≢false (sym e))
tree_same here here e = refl
tree_same here param e = absurd (true≢false (sym e))
tree_same here (add x' y') e = absurd (true≢false (sym e))
tree_same here (neg x') e = absurd (true≢false (sym e))
tree_same here (mul x' y') e = absurd (true≢false (sym e))
tree_same here (div x' y') e = absurd (true≢false (sym e))
tree_same here (power x' n') e = absurd (true≢false (sym e))
tree_same here (sum_from a' x') e = absurd (true≢false (sym e))
tree_same here (prod_from a' x') e = absurd (true≢false (sym e))
tree_same param (numeral c') e = absurd (true≢false (sym e))
tree_same param here e = absurd (true≢false (sym e))
tree_same param param e = refl
tree_same param (add x' y') e = absurd (true≢false (sym e))
tree_same param (neg x') e = absurd (true≢false (sym e))
tree_same param (mul x' y') e = absurd (true≢false (sym e))
tree_same param (div x' y') e = absurd (true≢false (sym e))
tree_same param (power x' n') e = absurd (true≢false (sym e))
tree_same param (sum_from a' x') e = absurd (true≢false (sym e))
tree_same param (prod_from a' x') e = absurd (true≢false (sym e))
tree_same (add x y) (numeral c') e = absurd (true≢false (sym e))
tree_same (add x y) here e = absurd (true≢false (sym e))
tree_same (add x y) param e = absurd (true≢false (sym e))
tree_same (add x y) (add x' y') e = let h = both_true (same_tree x x') (same_tree y y') e in ap₂ add (tree_same x x' h.0) (tree_same y y' h.1)
tree_same (add x y) (neg x') e = absurd (true≢false (sym e))
tree_same (add x y) (mul x' y') e = absurd (true≢false (sym e))
tree_same (add x y) (div x' y') e = absurd (true≢false (sym e))
tree_same (add x y) (power x' n') e = absurd (true≢false (sym e))
tree_same (add x y) (sum_from a' x') e = absurd (true≢false (sym e))
tree_same (add x y) (prod_from a' x') e = absurd (true≢false (sym e))
tree_same (neg x) (numeral c') e = absurd (true≢false (sym e))
tree_same (neg x) here e = absurd (true≢false (sym e))
tree_same (neg x) param e = absurd (true≢false (sym e))
tree_same (neg x) (add x' y') e = absurd (true≢false (sym e))
tree_same (neg x) (neg x') e = ap neg (tree_same x x' e)
tree_same (neg x) (mul x' y') e = absurd (true≢false (sym e))
tree_same (neg x) (div x' y') e = absurd (true≢false (sym e))
tree_same (neg x) (power x' n') e = absurd (true≢false (sym e))
tree_same (neg x) (sum_from a' x') e = absurd (true≢false (sym e))
tree_same (neg x) (prod_from a' x') e = absurd (true≢false (sym e))
tree_same (mul x y) (numeral c') e = absurd (true≢false (sym e))
tree_same (mul x y) here e = absurd (true≢false (sym e))
tree_same (mul x y) param e = absurd (true≢false (sym e))
tree_same (mul x y) (add x' y') e = absurd (true≢false (sym e))
tree_same (mul x y) (neg x') e = absurd (true≢false (sym e))
tree_same (mul x y) (mul x' y') e = let h = both_true (same_tree x x') (same_tree y y') e in ap₂ mul (tree_same x x' h.0) (tree_same y y' h.1)
tree_same (mul x y) (div x' y') e = absurd (true≢false (sym e))
tree_same (mul x y) (power x' n') e = absurd (true≢false (sym e))
tree_same (mul x y) (sum_from a' x') e = absurd (true≢false (sym e))
tree_same (mul x y) (prod_from a' x') e = absurd (true≢false (sym e))
tree_same (div x y) (numeral c') e = absurd (true≢false (sym e))
tree_same (div x y) here e = absurd (true≢false (sym e))
tree_same (div x y) param e = absurd (true≢false (sym e))
tree_same (div x y) (add x' y') e = absurd (true≢false (sym e))
tree_same (div x y) (neg x') e = absurd (true≢false (sym e))
tree_same (div x y) (mul x' y') e = absurd (true≢false (sym e))
tree_same (div x y) (div x' y') e = let h = both_true (same_tree x x') (same_tree y y') e in ap₂ div (tree_same x x' h.0) (tree_same y y' h.1)
tree_same (div x y) (power x' n') e = absurd (true≢false (sym e))
tree_same (div x y) (sum_from a' x') e = absurd (true≢false (sym e))
tree_same (div x y) (prod_from a' x') e = absurd (true≢false (sym e))
tree_same (power x n) (numeral c') e = absurd (true≢false (sym e))
tree_same (power x n) here e = absurd (true≢false (sym e))
tree_same (power x n) param e = absurd (true≢false (sym e))
tree_same (power x n) (add x' y') e = absurd (true≢false (sym e))
tree_same (power x n) (neg x') e = absurd (true≢false (sym e))
tree_same (power x n) (mul x' y') e = absurd (true≢false (sym e))
tree_same (power x n) (div x' y') e = absurd (true≢false (sym e))
tree_same (power x n) (power x' n') e = let h = both_true (same_tree x x') (n == n') e in ap₂ power (tree_same x x' h.0) (number_same n n' h.1)
tree_same (power x n) (sum_from a' x') e = absurd (true≢false (sym e))
tree_same (power x n) (prod_from a' x') e = absurd (true≢false (sym e))
tree_same (sum_from a x) (numeral c') e = absurd (true≢false (sym e))
tree_same (sum_from a x) here e = absurd (true≢false (sym e))
tree_same (sum_from a x) param e = absurd (true≢false (sym e))
tree_same (sum_from a x) (add x' y') e = absurd (true≢false (sym e))
tree_same (sum_from a x) (neg x') e = absurd (true≢false (sym e))
tree_same (sum_from a x) (mul x' y') e = absurd (true≢false (sym e))
tree_same (sum_from a x) (div x' y') e = absurd (true≢false (sym e))
tree_same (sum_from a x) (power x' n') e = absurd (true≢false (sym e))
tree_same (sum_from a x) (sum_from a' x') e = let h = both_true (same_whole a a') (same_tree x x') e in ap₂ sum_from (whole_same a a' h.0) (tree_same x x' h.1)
tree_same (sum_from a x) (prod_from a' x') e = absurd (true≢false (sym e))
tree_same (prod_from a x) (numeral c') e = absurd (true≢false (sym e))
tree_same (prod_from a x) here e = absurd (true≢false (sym e))
tree_same (prod_from a x) param e = absurd (true≢false (sym e))
tree_same (prod_from a x) (add x' y') e = absurd (true≢false (sym e))
tree_same (prod_from a x) (neg x') e = absurd (true≢false (sym e))
tree_same (prod_from a x) (mul x' y') e = absurd (true≢false (sym e))
tree_same (prod_from a x) (div x' y') e = absurd (true≢false (sym e))
tree_same (prod_from a x) (power x' n') e = absurd (true≢false (sym e))
tree_same (prod_from a x) (sum_from a' x') e = absurd (true≢false (sym e))
tree_same (prod_from a x) (prod_from a' x') e = let h = both_true (same_whole a a') (same_tree x x') e in ap₂ prod_from (whole_same a a' h.0) (tree_same x x' h.1)

-- ---- Lists without repeats

pub nothing : {t : Tree} → Contains [] t → ⊥
nothing c = grind arith

pub contains_cons : (u t : Tree) (ts : List Tree) → Contains (u ∷ ts) t → (u ≡ t) ⊎ Contains ts t
contains_cons u t ts c = elim (Contains-append_cases (u ∷ []) ts t c) [ inl h ↦ elim (Contains-push_cases [] u t h) [ inl n ↦ absurd (nothing n) | inr e ↦ inl e ] | inr h ↦ inr h ]

has_contains : (t : Tree) (us : List Tree) → has_tree t us ≡ true → Contains us t
has_contains t [] e = absurd (true≢false (sym e))
has_contains t (u ∷ us) e = go (same_tree t u) refl e (has_contains t us)
  where
    go : (b : Bool) → same_tree t u ≡ b → cond b true (has_tree t us) ≡ true → (has_tree t us ≡ true → Contains us t) → Contains (u ∷ us) t
    go true s e again = subst (λ (z : Tree). Contains (u ∷ us) z) (sym (tree_same t u s)) (Contains-append_left (u ∷ []) us u (Contains-push [] u))
    go false s e again = Contains-append_right (u ∷ []) us t (again e)

joined_known : (known ts : List Tree) (t : Tree) → Contains known t → Contains (with_new known ts) t
joined_known known [] t c = c
joined_known known (u ∷ ts) t c = go (has_tree u known) (λ k d. joined_known k ts t d)
  where
    go : (b : Bool) → ((k : List Tree) → Contains k t → Contains (with_new k ts) t) → Contains (with_new (cond b known (known ++ (u ∷ []))) ts) t
    go true again = again known c
    go false again = again (known ++ (u ∷ [])) (Contains-append_left known (u ∷ []) t c)

joined_has : (known ts : List Tree) (t : Tree) → Contains ts t → Contains (with_new known ts) t
joined_has known [] t c = absurd (nothing c)
joined_has known (u ∷ ts) t c = go (has_tree u known) refl (contains_cons u t ts c) (λ k d. joined_has k ts t d)
  where
    go : (b : Bool) → has_tree u known ≡ b → (u ≡ t) ⊎ Contains ts t → ((k : List Tree) → Contains ts t → Contains (with_new k ts) t) → Contains (with_new (cond b known (known ++ (u ∷ []))) ts) t
    go b e (inr h) again = again (cond b known (known ++ (u ∷ []))) h
    go true e (inl s) again = joined_known known ts t (subst (λ (z : Tree). Contains known z) s (has_contains u known e))
    go false e (inl s) again = joined_known (known ++ (u ∷ [])) ts t (subst (λ (z : Tree). Contains (known ++ (u ∷ [])) z) s (Contains-push known u))

pub distinct_has : (ts : List Tree) (t : Tree) → Contains ts t → Contains (distinct ts) t
distinct_has ts t c = joined_has [] ts t c

-- ---- Expressions over their own sums

abbrev pub Outer : Tree → Type 0
Outer (numeral c) = Unit {0}
Outer here = Unit {0}
Outer param = ⊥
Outer (add x y) = Outer x × Outer y
Outer (neg x) = Outer x
Outer (mul x y) = Outer x × Outer y
Outer (div x y) = Outer x × Outer y
Outer (power x e) = Outer x
Outer (sum_from from body) = Unit {0}
Outer (prod_from from body) = ⊥

pub over_all : (ss : List Tree) (f : Tree) → Outer f → ((t : Tree) → Contains (all_sums f) t → Contains ss t) → Over ss f
over_all ss (numeral c) o h = tt
over_all ss here o h = tt
over_all ss param o h = o
over_all ss (add x y) o h = (over_all ss x o.0 (λ t c. h t (Contains-append_left (all_sums x) (all_sums y) t c)), over_all ss y o.1 (λ t c. h t (Contains-append_right (all_sums x) (all_sums y) t c)))
over_all ss (neg x) o h = over_all ss x o h
over_all ss (mul x y) o h = (over_all ss x o.0 (λ t c. h t (Contains-append_left (all_sums x) (all_sums y) t c)), over_all ss y o.1 (λ t c. h t (Contains-append_right (all_sums x) (all_sums y) t c)))
over_all ss (div x y) o h = (over_all ss x o.0 (λ t c. h t (Contains-append_left (all_sums x) (all_sums y) t c)), over_all ss y o.1 (λ t c. h t (Contains-append_right (all_sums x) (all_sums y) t c)))
over_all ss (power x e) o h = over_all ss x o h
over_all ss (sum_from a b) o h = h (sum_from a b) (Contains-push (all_sums b) (sum_from a b))
over_all ss (prod_from a b) o h = o

pub own_over : (f : Tree) (others : List Tree) → Outer f → Over (sums (f ∷ others)) f
own_over f others o = over_all (sums (f ∷ others)) f o (λ t c. distinct_has (all_sums f ++ concatenated all_sums others) t (Contains-append_left (all_sums f) (concatenated all_sums others) t c))

-- where there is a closed form over the sums, some expression over them telescopes
pub closed_some : (f : Tree) (others : List Tree) (h : Tree) (a s : ℤ) → Outer f → Over (sums (f ∷ others)) h → (a -ℤ pos 1) ≤ℤ s → ((m : ℤ) → s ≤ℤ m → SameValue (val h (pos 0) m) (total f a m))
    → (e : Tree) × Over (sums (f ∷ others)) e × Tele e f
closed_some f others h a s o c starts same = (add h (neg f), (c, own_over f others o), closed_tele f h a s starts same)
