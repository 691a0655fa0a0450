-- The products and sums of expressions without the parameter, as they are listed.
--   built-own        such an expression is built over its own products and sums
--   over-earlier     each listed sum is one over the listed products and the sums before it
--   products-are     each listed product is one over a rational function
--   few-products     where no count passes its limit, there are at most twenty
use Rattle.std.proofs.Common.{◌≡◌, ℕ, ◌≤◌, Bool, true, false, cond, true≢false, refl, sym, ap, ◌∙◌, subst, List, [], ◌∷◌, ◌++◌, length, Option, None, Some, Contains, inl, inr, append_assoc, ◌&&◌}
use Rattle.std.proofs.lemmas.Bool.{leb-true}
use Rattle.std.proofs.lemmas.List.{append-nil}
use Rattle.std.proofs.lemmas.List.Elements.{Contains-append_left, Contains-append_right, Contains-push, Contains-push_cases}
use Rattle.sg_algebra.specs.Coefficients.{Each}
use Rattle.sg_spec.specs.Tree.{Tree, numeral, here, param, add, neg, mul, div, power, sum_from, prod_from}
use Rattle.sg_spec.specs.Printing.{InForm}
use Rattle.sg_spec.specs.Generators.{Allowed, same_tree, has_tree, with_new, concatenated, all_sums, all_prods, sums, prods}
use Rattle.sg_spec.specs.Limits.{counted, first_not, keeps_nodes, keeps_degrees, keeps_sums, keeps_products, or_else, too_many_nodes, too_steep, too_many_sums, too_many_products}
use Rattle.sg_value_theory.proofs.OwnSums.{tree_same, distinct_has}
use Rattle.sg_value_theory.proofs.TowerOf.{BuiltOver, IsSumOver}
use Rattle.sg_answers_theory.proofs.ElementsOver.{built_over}
use Rattle.sg_answers_theory.proofs.Texts.{outer_of_form, built_all}
use Rattle.sg_product_theory.proofs.Sound.{IsProduct}

abbrev Within : List Tree → List Tree → Type 0
Within xs ys = (u : Tree) → Contains xs u → Contains ys u

abbrev allowed : List Tree → List Tree → Allowed
allowed ps ss = record { parameter = false; products = ps; sums = ss }

left : (xs ys zs : List Tree) → Within (xs ++ ys) zs → Within xs zs
left xs ys zs w u c = w u (Contains-append_left xs ys u c)

right : (xs ys zs : List Tree) → Within (xs ++ ys) zs → Within ys zs
right xs ys zs w u c = w u (Contains-append_right xs ys u c)

pub built-own : (ps ss : List Tree) (p : Bool) (t : Tree) → InForm false p t → Within (all_prods t) ps → Within (all_sums t) ss → BuiltOver ps ss t
built-own ps ss p t f v w = built_over (allowed ps ss) t (built_all (allowed ps ss) t (outer_of_form false p t f) v w)

-- over more sums too
built_more : (ps xs ys : List Tree) (t : Tree) → Within xs ys → BuiltOver ps xs t → BuiltOver ps ys t
built_more ps xs ys (numeral c) w b = tt
built_more ps xs ys here w b = tt
built_more ps xs ys param w b = tt
built_more ps xs ys (add x y) w b = (built_more ps xs ys x w b.0, built_more ps xs ys y w b.1)
built_more ps xs ys (neg x) w b = built_more ps xs ys x w b
built_more ps xs ys (mul x y) w b = (built_more ps xs ys x w b.0, built_more ps xs ys y w b.1)
built_more ps xs ys (div x y) w b = (built_more ps xs ys x w b.0, built_more ps xs ys y w b.1, b.2)
built_more ps xs ys (power x n) w b = built_more ps xs ys x w b
built_more ps xs ys (sum_from from body) w b = w (sum_from from body) b
built_more ps xs ys (prod_from from body) w b = b

sum_more : (ps xs ys : List Tree) (t : Tree) → Within xs ys → IsSumOver ps xs t → IsSumOver ps ys t
sum_more ps xs ys (numeral c) w b = b
sum_more ps xs ys here w b = b
sum_more ps xs ys param w b = b
sum_more ps xs ys (add x y) w b = b
sum_more ps xs ys (neg x) w b = b
sum_more ps xs ys (mul x y) w b = b
sum_more ps xs ys (div x y) w b = b
sum_more ps xs ys (power x n) w b = b
sum_more ps xs ys (sum_from from body) w b = built_more ps xs ys body w b
sum_more ps xs ys (prod_from from body) w b = b

-- ---- Products

-- what stands in a product holds no sum and no product
no_sums : (t : Tree) → InForm false true t → all_sums t ≡ []
no_sums (numeral c) f = refl
no_sums here f = refl
no_sums param f = refl
no_sums (add x y) f = ap (λ (a : List Tree). a ++ all_sums y) (no_sums x f.0) ∙ no_sums y f.1
no_sums (neg x) f = no_sums x f
no_sums (mul x y) f = ap (λ (a : List Tree). a ++ all_sums y) (no_sums x f.0) ∙ no_sums y f.1
no_sums (div x y) f = ap (λ (a : List Tree). a ++ all_sums y) (no_sums x f.0) ∙ no_sums y f.1
no_sums (power x n) f = no_sums x f
no_sums (sum_from from body) f = absurd (true≢false f.0)
no_sums (prod_from from body) f = absurd (true≢false f.0)

no_prods : (t : Tree) → InForm false true t → all_prods t ≡ []
no_prods (numeral c) f = refl
no_prods here f = refl
no_prods param f = refl
no_prods (add x y) f = ap (λ (a : List Tree). a ++ all_prods y) (no_prods x f.0) ∙ no_prods y f.1
no_prods (neg x) f = no_prods x f
no_prods (mul x y) f = ap (λ (a : List Tree). a ++ all_prods y) (no_prods x f.0) ∙ no_prods y f.1
no_prods (div x y) f = ap (λ (a : List Tree). a ++ all_prods y) (no_prods x f.0) ∙ no_prods y f.1
no_prods (power x n) f = no_prods x f
no_prods (sum_from from body) f = absurd (true≢false f.0)
no_prods (prod_from from body) f = absurd (true≢false f.0)

plain_body : (t : Tree) → InForm false true t → BuiltOver [] [] t
plain_body t f = built-own [] [] true t f (λ u c. subst (λ (l : List Tree). Contains l u) (no_prods t f) c) (λ u c. subst (λ (l : List Tree). Contains l u) (no_sums t f) c)

each_both : (P : Tree → Type 0) (xs ys : List Tree) → Each P xs → Each P ys → Each P (xs ++ ys)
each_both P [] ys h k = k
each_both P (x ∷ xs) ys h k = (h.0, each_both P xs ys h.1 k)

each_new : (P : Tree → Type 0) (known ts : List Tree) → Each P known → Each P ts → Each P (with_new known ts)
each_new P known [] h k = h
each_new P known (t ∷ ts) h k = go (has_tree t known) (λ us v. each_new P us ts v k.1)
  where
    go : (b : Bool) → ((us : List Tree) → Each P us → Each P (with_new us ts)) → Each P (with_new (cond b known (known ++ (t ∷ []))) ts)
    go true again = again known h
    go false again = again (known ++ t ∷ []) (each_both P known (t ∷ []) h (k.0, tt))

prods_are : (p : Bool) (t : Tree) → InForm false p t → Each IsProduct (all_prods t)
prods_are p (numeral c) f = tt
prods_are p here f = tt
prods_are p param f = tt
prods_are p (add x y) f = each_both IsProduct (all_prods x) (all_prods y) (prods_are p x f.0) (prods_are p y f.1)
prods_are p (neg x) f = prods_are p x f
prods_are p (mul x y) f = each_both IsProduct (all_prods x) (all_prods y) (prods_are p x f.0) (prods_are p y f.1)
prods_are p (div x y) f = each_both IsProduct (all_prods x) (all_prods y) (prods_are p x f.0) (prods_are p y f.1)
prods_are p (power x n) f = prods_are p x f
prods_are p (sum_from from body) f = prods_are false body f.2
prods_are p (prod_from from body) f = each_both IsProduct (all_prods body) (prod_from from body ∷ []) (prods_are true body f.2) (plain_body body f.2, tt)

all_are : (es : List Tree) → Each (InForm false false) es → Each IsProduct (concatenated all_prods es)
all_are [] f = tt
all_are (t ∷ es) f = each_both IsProduct (all_prods t) (concatenated all_prods es) (prods_are false t f.0) (all_are es f.1)

pub products-are : (es : List Tree) → Each (InForm false false) es → Each IsProduct (prods es)
products-are es f = each_new IsProduct [] (concatenated all_prods es) tt (all_are es f)

-- ---- Each over those before it

module _ (ps : List Tree) where
  abbrev AreOver : List Tree → List Tree → Type 0
  AreOver known [] = Unit {0}
  AreOver known (t ∷ ts) = IsSumOver ps known t × AreOver (known ++ t ∷ []) ts

  over_append : (known xs ys : List Tree) → AreOver known xs → AreOver (known ++ xs) ys → AreOver known (xs ++ ys)
  over_append known [] ys h k = subst (λ (us : List Tree). AreOver us ys) (append-nil known) k
  over_append known (x ∷ xs) ys h k = (h.0, over_append (known ++ x ∷ []) xs ys h.1 (subst (λ (us : List Tree). AreOver us ys) (sym (append_assoc known (x ∷ []) xs)) k))

  tree_over : (p : Bool) (t : Tree) → InForm false p t → Within (all_prods t) ps → (known : List Tree) → AreOver known (all_sums t)
  tree_over p (numeral c) f e known = tt
  tree_over p here f e known = tt
  tree_over p param f e known = tt
  tree_over p (add x y) f e known = over_append known (all_sums x) (all_sums y) (tree_over p x f.0 (left (all_prods x) (all_prods y) ps e) known) (tree_over p y f.1 (right (all_prods x) (all_prods y) ps e) (known ++ all_sums x))
  tree_over p (neg x) f e known = tree_over p x f e known
  tree_over p (mul x y) f e known = over_append known (all_sums x) (all_sums y) (tree_over p x f.0 (left (all_prods x) (all_prods y) ps e) known) (tree_over p y f.1 (right (all_prods x) (all_prods y) ps e) (known ++ all_sums x))
  tree_over p (div x y) f e known = over_append known (all_sums x) (all_sums y) (tree_over p x f.0 (left (all_prods x) (all_prods y) ps e) known) (tree_over p y f.1 (right (all_prods x) (all_prods y) ps e) (known ++ all_sums x))
  tree_over p (power x n) f e known = tree_over p x f e known
  tree_over p (sum_from from body) f e known =
      over_append known (all_sums body) (sum_from from body ∷ []) (tree_over false body f.2 e known)
      (built-own ps (known ++ all_sums body) false body f.2 e (λ u c. Contains-append_right known (all_sums body) u c), tt)
  tree_over p (prod_from from body) f e known = subst (λ (l : List Tree). AreOver known l) (sym (no_sums body f.2)) tt

  all_over : (es : List Tree) → Each (InForm false false) es → Within (concatenated all_prods es) ps → (known : List Tree)
      → AreOver known (concatenated all_sums es)
  all_over [] f e known = tt
  all_over (t ∷ es) f e known =
      over_append known (all_sums t) (concatenated all_sums es) (tree_over false t f.0 (left (all_prods t) (concatenated all_prods es) ps e) known)
      (all_over es f.1 (right (all_prods t) (concatenated all_prods es) ps e) (known ++ all_sums t))

  has_contains : (t : Tree) (us : List Tree) → has_tree t us ≡ true → Contains us t
  has_contains t [] e = absurd (true≢false (sym e))
  has_contains t (u ∷ us) e = go (same_tree t u) refl e (has_contains t us)
    where
      go : (b : Bool) → same_tree t u ≡ b → cond b true (has_tree t us) ≡ true → (has_tree t us ≡ true → Contains us t) → Contains (u ∷ us) t
      go true s e again = subst (λ (z : Tree). Contains (u ∷ us) z) (sym (tree_same t u s)) (Contains-append_left (u ∷ []) us u (Contains-push [] u))
      go false s e again = Contains-append_right (u ∷ []) us t (again e)

  with_known : (known seen : List Tree) (t : Tree) → Within seen known → Contains known t → Within (seen ++ t ∷ []) known
  with_known known seen t w k u c = elim (Contains-push_cases seen t u c) [ inl h ↦ w u h | inr e ↦ subst (λ (z : Tree). Contains known z) e k ]

  with_pushed : (known seen : List Tree) (t : Tree) → Within seen known → Within (seen ++ t ∷ []) (known ++ t ∷ [])
  with_pushed known seen t w u c = elim (Contains-push_cases seen t u c) [ inl h ↦ Contains-append_left known (t ∷ []) u (w u h) | inr e ↦ subst (λ (z : Tree). Contains (known ++ t ∷ []) z) e (Contains-push known t) ]

  joined_over : (known seen ts : List Tree) → AreOver [] known → Within seen known → AreOver seen ts → AreOver [] (with_new known ts)
  joined_over known seen [] h w k = h
  joined_over known seen (t ∷ ts) h w k = go (has_tree t known) refl (λ us v i. joined_over us (seen ++ t ∷ []) ts v i k.1)
    where
      go : (b : Bool) → has_tree t known ≡ b → ((us : List Tree) → AreOver [] us → Within (seen ++ t ∷ []) us → AreOver [] (with_new us ts))
          → AreOver [] (with_new (cond b known (known ++ (t ∷ []))) ts)
      go true e again = again known h (with_known known seen t w (has_contains t known e))
      go false e again = again (known ++ t ∷ []) (over_append [] known (t ∷ []) h (sum_more ps seen known t w k.0, tt)) (with_pushed known seen t w)

  at_split : (known before after : List Tree) (g : Tree) → AreOver known (before ++ g ∷ after) → IsSumOver ps (known ++ before) g
  at_split known [] after g h = subst (λ (us : List Tree). IsSumOver ps us g) (sym (append-nil known)) h.0
  at_split known (b ∷ before) after g h = subst (λ (us : List Tree). IsSumOver ps us g) (append_assoc known (b ∷ []) before) (at_split (known ++ b ∷ []) before after g h.1)

pub over-earlier : (es : List Tree) → Each (InForm false false) es → (before after : List Tree) (g : Tree) → sums es ≡ before ++ g ∷ after
    → IsSumOver (prods es) before g
over-earlier es f before after g is =
    at_split (prods es) [] before after g
    (subst (λ (ts : List Tree). AreOver (prods es) [] ts) is
    (joined_over (prods es) [] [] (concatenated all_sums es) tt (λ u c. c) (all_over (prods es) es f (λ u c. distinct_has (concatenated all_prods es) u c) [])))

-- ---- Few

keeps_both : (b c : Bool) (n m : Option ℕ)
    → or_else too_many_nodes n (or_else too_steep m (cond b (cond c None (Some too_many_products)) (Some too_many_sums))) ≡ None → c ≡ true
keeps_both true true n m e = refl
keeps_both true false None None e = cc
keeps_both true false None (Some i) e = cc
keeps_both true false (Some i) m e = cc
keeps_both false c None None e = cc
keeps_both false c None (Some i) e = cc
keeps_both false c (Some i) m e = cc

and_right : (a b : Bool) → (a && b) ≡ true → b ≡ true
and_right true b e = e
and_right false b e = absurd (true≢false (sym e))

pub few-products : (es : List Tree) → counted es ≡ None → length (prods es) ≤ 20
few-products es e = leb-true (length (prods es)) 20 (and_right _ _ (keeps_both (keeps_sums es) (keeps_products es) (first_not keeps_nodes es) (first_not keeps_degrees es) e))
