-- The products of expressions: which stand below, and that they are in form.
--   below-found        each product below stands among all
--   prods-form         all are in form
--   distinct-found     the list without repeats has each tree of the list
use Rattle.std.proofs.Common.{◌≡◌, zero, suc, Bool, true, false, cond, refl, sym, subst, List, [], ◌∷◌, ◌++◌}
use Rattle.sg_algebra.specs.Coefficients.{Each}
use Rattle.sg_algebra.proofs.Lists.{each_to}
use Rattle.sg_spec.specs.Printing.{InForm}
use Rattle.sg_spec.specs.Tree.{Tree, numeral, here, param, add, neg, mul, div, power, sum_from, prod_from}
use Rattle.sg_spec.specs.Parts.{Role, anywhere, divides, is_body}
use Rattle.sg_spec.specs.Generators.{same_tree, has_tree, all_prods, with_new, concatenated, prods}
use Rattle.sg_value_theory.proofs.OwnSums.{tree_same}
use Rattle.sg_recurrence_theory.specs.Below.{if_divides, products_below}
use Rattle.sg_limits.proofs.Elementary.{each_append, not_true}
use Rattle.sg_recurrence_theory.proofs.Membership.{found-first, found-left, found-right}

abbrev pub IsIn : List Tree → Tree → Type 0
IsIn ts p = has_tree p ts ≡ true

pub to-left : (ps ts us : List Tree) → Each (IsIn ts) ps → Each (IsIn (ts ++ us)) ps
to-left ps ts us h = each_to (IsIn ts) (IsIn (ts ++ us)) ps (λ p i. found-left p ts us i) h

pub to-right : (ps ts us : List Tree) → Each (IsIn us) ps → Each (IsIn (ts ++ us)) ps
to-right ps ts us h = each_to (IsIn us) (IsIn (ts ++ us)) ps (λ p i. found-right p ts us i) h

two : (xs ys ts us : List Tree) → Each (IsIn ts) xs → Each (IsIn us) ys → Each (IsIn (ts ++ us)) (xs ++ ys)
two xs ys ts us h k = each_append (IsIn (ts ++ us)) xs ys (to-left xs ts us h) (to-right ys ts us k)

own-found : (r : Role) (p : Tree) (ts : List Tree) → Each (IsIn (ts ++ (p ∷ []))) (if_divides r p)
own-found anywhere p ts = tt
own-found divides p ts = (found-right p ts (p ∷ []) (found-first p []), tt)
own-found is_body p ts = tt

pub below-found : (r : Role) (t : Tree) → Each (IsIn (all_prods t)) (products_below r t)
below-found r (numeral c) = tt
below-found r here = tt
below-found r param = tt
below-found r (add x y) = two (products_below anywhere x) (products_below anywhere y) (all_prods x) (all_prods y) (below-found anywhere x) (below-found anywhere y)
below-found r (neg x) = below-found r x
below-found r (mul x y) = two (products_below r x) (products_below r y) (all_prods x) (all_prods y) (below-found r x) (below-found r y)
below-found r (div x y) = two (products_below r x) (products_below divides y) (all_prods x) (all_prods y) (below-found r x) (below-found divides y)
below-found r (power x zero) = below-found anywhere x
below-found r (power x (suc e)) = below-found r x
below-found r (sum_from from body) = below-found anywhere body
below-found r (prod_from from body) =
    each_append (IsIn (all_prods body ++ (prod_from from body ∷ []))) (if_divides r (prod_from from body)) (products_below anywhere body) (own-found r (prod_from from body) (all_prods body))
    (to-left (products_below anywhere body) (all_prods body) (prod_from from body ∷ []) (below-found anywhere body))

-- ---- The list without repeats

pub new-found : (p : Tree) (known ts : List Tree) → IsIn known p → IsIn (with_new known ts) p
new-found p known [] h = h
new-found p known (t ∷ ts) h = new-found p (cond (has_tree t known) known (known ++ (t ∷ []))) ts (kept (has_tree t known))
  where
    kept : (b : Bool) → IsIn (cond b known (known ++ (t ∷ []))) p
    kept true = h
    kept false = found-left p known (t ∷ []) h

pub distinct-found : (p : Tree) (known ts : List Tree) → IsIn ts p → IsIn (with_new known ts) p
distinct-found p known [] h = absurd (not_true h)
distinct-found p known (t ∷ ts) h = go (λ i. distinct-found p (cond (has_tree t known) known (known ++ (t ∷ []))) ts i) (same_tree p t) refl h
  where
    there : (b : Bool) → has_tree t known ≡ b → same_tree p t ≡ true → IsIn (cond b known (known ++ (t ∷ []))) p
    there true q e = subst (IsIn known) (sym (tree_same p t e)) q
    there false q e = found-right p known (t ∷ []) (subst (IsIn (t ∷ [])) (sym (tree_same p t e)) (found-first t []))

    go : (IsIn ts p → IsIn (with_new (cond (has_tree t known) known (known ++ (t ∷ []))) ts) p) → (b : Bool) → same_tree p t ≡ b
        → cond b true (has_tree p ts) ≡ true → IsIn (with_new (cond (has_tree t known) known (known ++ (t ∷ []))) ts) p
    go again true q i = new-found p (cond (has_tree t known) known (known ++ (t ∷ []))) ts (there (has_tree t known) refl q)
    go again false q i = again i

pub prods-found : (es ps : List Tree) → Each (IsIn (concatenated all_prods es)) ps → Each (IsIn (prods es)) ps
prods-found es ps h = each_to (IsIn (concatenated all_prods es)) (IsIn (prods es)) ps (λ p i. distinct-found p [] (concatenated all_prods es) i) h

-- ---- Forms

module _ (known : Bool) where
  never : true ≡ false → ⊥
  never e = cc

  inside-form : (t : Tree) → InForm known true t → Each (InForm known false) (all_prods t)
  inside-form (numeral c) f = tt
  inside-form here f = tt
  inside-form param f = tt
  inside-form (add x y) f = each_append (InForm known false) (all_prods x) (all_prods y) (inside-form x f.0) (inside-form y f.1)
  inside-form (neg x) f = inside-form x f
  inside-form (mul x y) f = each_append (InForm known false) (all_prods x) (all_prods y) (inside-form x f.0) (inside-form y f.1)
  inside-form (div x y) f = each_append (InForm known false) (all_prods x) (all_prods y) (inside-form x f.0) (inside-form y f.1)
  inside-form (power x e) f = inside-form x f
  inside-form (sum_from from body) f = absurd (never f.0)
  inside-form (prod_from from body) f = absurd (never f.0)

  pub prods-form : (t : Tree) → InForm known false t → Each (InForm known false) (all_prods t)
  prods-form (numeral c) f = tt
  prods-form here f = tt
  prods-form param f = tt
  prods-form (add x y) f = each_append (InForm known false) (all_prods x) (all_prods y) (prods-form x f.0) (prods-form y f.1)
  prods-form (neg x) f = prods-form x f
  prods-form (mul x y) f = each_append (InForm known false) (all_prods x) (all_prods y) (prods-form x f.0) (prods-form y f.1)
  prods-form (div x y) f = each_append (InForm known false) (all_prods x) (all_prods y) (prods-form x f.0) (prods-form y f.1)
  prods-form (power x e) f = prods-form x f
  prods-form (sum_from from body) f = prods-form body f.2
  prods-form (prod_from from body) f = each_append (InForm known false) (all_prods body) (prod_from from body ∷ []) (inside-form body f.2) (f, tt)

  each_cond : (b : Bool) (ts : List Tree) (t : Tree) → Each (InForm known false) ts → InForm known false t
      → Each (InForm known false) (cond b ts (ts ++ (t ∷ [])))
  each_cond true ts t h k = h
  each_cond false ts t h k = each_append (InForm known false) ts (t ∷ []) h (k, tt)

  each_with_new : (us ts : List Tree) → Each (InForm known false) us → Each (InForm known false) ts → Each (InForm known false) (with_new us ts)
  each_with_new us [] h k = h
  each_with_new us (t ∷ ts) h k = each_with_new (cond (has_tree t us) us (us ++ (t ∷ []))) ts (each_cond (has_tree t us) us t h k.0) k.1

  all-form : (es : List Tree) → Each (InForm known false) es → Each (InForm known false) (concatenated all_prods es)
  all-form [] h = tt
  all-form (e ∷ es) h = each_append (InForm known false) (all_prods e) (concatenated all_prods es) (prods-form e h.0) (all-form es h.1)

  pub listed-form : (es : List Tree) → Each (InForm known false) es → Each (InForm known false) (prods es)
  listed-form es h = each_with_new [] (concatenated all_prods es) tt (all-form es h)

-- ---- Products

abbrev pub IsProduct : Tree → Type 0
IsProduct (numeral c) = ⊥
IsProduct here = ⊥
IsProduct param = ⊥
IsProduct (add x y) = ⊥
IsProduct (neg x) = ⊥
IsProduct (mul x y) = ⊥
IsProduct (div x y) = ⊥
IsProduct (power x e) = ⊥
IsProduct (sum_from from body) = ⊥
IsProduct (prod_from from body) = Unit {0}

pub all-products : (t : Tree) → Each IsProduct (all_prods t)
all-products (numeral c) = tt
all-products here = tt
all-products param = tt
all-products (add x y) = each_append IsProduct (all_prods x) (all_prods y) (all-products x) (all-products y)
all-products (neg x) = all-products x
all-products (mul x y) = each_append IsProduct (all_prods x) (all_prods y) (all-products x) (all-products y)
all-products (div x y) = each_append IsProduct (all_prods x) (all_prods y) (all-products x) (all-products y)
all-products (power x e) = all-products x
all-products (sum_from from body) = all-products body
all-products (prod_from from body) = each_append IsProduct (all_prods body) (prod_from from body ∷ []) (all-products body) (tt, tt)

product_cond : (b : Bool) (ts : List Tree) (t : Tree) → Each IsProduct ts → IsProduct t → Each IsProduct (cond b ts (ts ++ (t ∷ [])))
product_cond true ts t h k = h
product_cond false ts t h k = each_append IsProduct ts (t ∷ []) h (k, tt)

product_with_new : (us ts : List Tree) → Each IsProduct us → Each IsProduct ts → Each IsProduct (with_new us ts)
product_with_new us [] h k = h
product_with_new us (t ∷ ts) h k = product_with_new (cond (has_tree t us) us (us ++ (t ∷ []))) ts (product_cond (has_tree t us) us t h k.0) k.1

every-product : (es : List Tree) → Each IsProduct (concatenated all_prods es)
every-product [] = tt
every-product (e ∷ es) = each_append IsProduct (all_prods e) (concatenated all_prods es) (all-products e) (every-product es)

pub listed-products : (es : List Tree) → Each IsProduct (prods es)
listed-products es = product_with_new [] (concatenated all_prods es) tt (every-product es)
