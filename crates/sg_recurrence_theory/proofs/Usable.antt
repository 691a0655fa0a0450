-- The sums and products inside of expressions whose divisors are good.
--   IsUsable g            g is in form, its divisor parts are good, and so are the zero parts of the products below
--   all_usable            so is each sum and product of a tree that is
--   usable-value          it has a value up to the last place
--   usable-nonzero        a product whose body isn't 0 has one other than 0
use Rattle.std.proofs.Common.{◌≡◌, ℕ, zero, suc, refl, Bool, true, false, cond, List, [], ◌∷◌, ◌++◌, ℤ, ◌≤ℤ◌, arith}
use Rattle.std.proofs.lemmas.Int.{ints}
use Rattle.sg_algebra.specs.Coefficients.{Each}
use Rattle.sg_algebra.proofs.Value.{Value}
use Rattle.sg_spec.specs.Printing.{InForm}
use Rattle.sg_spec.specs.Tree.{Tree, numeral, here, param, add, neg, mul, div, power, sum_from, prod_from}
use Rattle.sg_spec.specs.Parts.{Part, Role, anywhere, divides, is_body, parts}
use Rattle.sg_spec.specs.Generators.{all_sums, all_prods, with_new, concatenated, has_tree, sums, prods}
use Rattle.sg_recurrence_theory.specs.Below.{if_divides, products_below}
use Rattle.sg_limits.proofs.Elementary.{each_append, each_left, each_right}
use Rattle.sg_recurrence_theory.proofs.Existing.{AreGood, IsGoodAs, IsApart, AreApart, inner, any-depth, good_value, good_divisor}
use Rattle.sg_recurrence_theory.proofs.TermsExist.{Valued, Nonzero}

module _ {d : ℕ} (letter : Value d) (M : ℤ) (known : Bool) where
  abbrev Good : List Part → Type 0
  Good ps = AreGood letter M divides ps

  abbrev Apart : List Tree → Type 0
  Apart ps = AreApart letter M ps

  pub record IsUsable (g : Tree) : Type 0 where
    pub form : InForm known false g
    pub good : (l : ℤ) → Good (parts anywhere l 0 g)
    pub apart : Apart (products_below anywhere g)

  pub usable-value : (g : Tree) → IsUsable g → (k : ℤ) → k ≤ℤ M → Valued letter k g
  usable-value g u k le = good_value letter M known false anywhere g k 0 u.form (u.good k) u.apart k (omega (arith, ints)) le

  pub usable-nonzero : (from : ℤ) (body : Tree) → IsUsable (prod_from from body) → IsApart letter M (prod_from from body) → (k : ℤ) → k ≤ℤ M
      → Nonzero letter k (prod_from from body)
  usable-nonzero from body u a k le = good_divisor letter M known false (prod_from from body) k 0 u.form refl (u.good k) (a, u.apart) k (omega (arith, ints)) le

  left : (r s : Role) (l : ℤ) (depth : ℕ) (x y : Tree) → Good (parts r l depth x ++ parts s l depth y) → Good (parts r l depth x)
  left r s l depth x y h = each_left (IsGoodAs letter M divides) (parts r l depth x) (parts s l depth y) h

  right : (r s : Role) (l : ℤ) (depth : ℕ) (x y : Tree) → Good (parts r l depth x ++ parts s l depth y) → Good (parts s l depth y)
  right r s l depth x y h = each_right (IsGoodAs letter M divides) (parts r l depth x) (parts s l depth y) h

  below_left : (r s : Role) (x y : Tree) → Apart (products_below r x ++ products_below s y) → Apart (products_below r x)
  below_left r s x y h = each_left (IsApart letter M) (products_below r x) (products_below s y) h

  below_right : (r s : Role) (x y : Tree) → Apart (products_below r x ++ products_below s y) → Apart (products_below s y)
  below_right r s x y h = each_right (IsApart letter M) (products_below r x) (products_below s y) h

  abbrev Both : Tree → Type 0
  Both t = Each IsUsable (all_sums t) × Each IsUsable (all_prods t)

  both : (x y : Tree) → Both x → Both y → Each IsUsable (all_sums x ++ all_sums y) × Each IsUsable (all_prods x ++ all_prods y)
  both x y h k = (each_append IsUsable (all_sums x) (all_sums y) h.0 k.0, each_append IsUsable (all_prods x) (all_prods y) h.1 k.1)

  -- a tree without sums and products inside of the body of a product
  none_inside : (t : Tree) → InForm known true t → Both t
  none_inside (numeral c) f = (tt, tt)
  none_inside here f = (tt, tt)
  none_inside param f = (tt, tt)
  none_inside (add x y) f = both x y (none_inside x f.0) (none_inside y f.1)
  none_inside (neg x) f = none_inside x f
  none_inside (mul x y) f = both x y (none_inside x f.0) (none_inside y f.1)
  none_inside (div x y) f = both x y (none_inside x f.0) (none_inside y f.1)
  none_inside (power x e) f = none_inside x f
  none_inside (sum_from from body) f = absurd (never f.0)
    where
      never : true ≡ false → ⊥
      never e = cc
  none_inside (prod_from from body) f = absurd (never f.0)
    where
      never : true ≡ false → ⊥
      never e = cc

  pub all_usable : (r : Role) (t : Tree) (l : ℤ) (depth : ℕ) → InForm known false t → Good (parts r l depth t) → Apart (products_below r t) → Both t
  all_usable r (numeral c) l depth f g b = (tt, tt)
  all_usable r here l depth f g b = (tt, tt)
  all_usable r param l depth f g b = (tt, tt)
  all_usable r (add x y) l depth f g b =
      let i = inner letter M r divides l depth (add x y) (parts anywhere l depth x ++ parts anywhere l depth y) g in
      both x y (all_usable anywhere x l depth f.0 (left anywhere anywhere l depth x y i) (below_left anywhere anywhere x y b)) (all_usable anywhere y l depth f.1 (right anywhere anywhere l depth x y i) (below_right anywhere anywhere x y b))
  all_usable r (neg x) l depth f g b = all_usable r x l depth f g b
  all_usable r (mul x y) l depth f g b = both x y (all_usable r x l depth f.0 (left r r l depth x y g) (below_left r r x y b)) (all_usable r y l depth f.1 (right r r l depth x y g) (below_right r r x y b))
  all_usable r (div x y) l depth f g b = both x y (all_usable r x l depth f.0 (left r divides l depth x y g) (below_left r divides x y b)) (all_usable divides y l depth f.1 (right r divides l depth x y g) (below_right r divides x y b))
  all_usable r (power x zero) l depth f g b = all_usable anywhere x l depth f g b
  all_usable r (power x (suc e)) l depth f g b = all_usable r x l depth f g b
  all_usable r (sum_from from body) l depth f g b =
      let below = all_usable anywhere body from (suc depth) f.2 g b in
      (each_append IsUsable (all_sums body) (sum_from from body ∷ []) below.0 (record { form = f; good = λ m. any-depth letter M divides anywhere body from (suc depth) 1 g; apart = b }, tt), below.1)
  all_usable r (prod_from from body) l depth f g b =
      let none = none_inside body f.2 in
      let apart = each_right (IsApart letter M) (if_divides r (prod_from from body)) (products_below anywhere body) b in
      (none.0, each_append IsUsable (all_prods body) (prod_from from body ∷ []) none.1 (record { form = f; good = λ m. any-depth letter M divides is_body body from (suc depth) 1 g; apart = apart }, tt))

  -- ---- The distinct ones of all expressions

  each_cond : (b : Bool) (ts : List Tree) (t : Tree) → Each IsUsable ts → IsUsable t → Each IsUsable (cond b ts (ts ++ (t ∷ [])))
  each_cond true ts t h k = h
  each_cond false ts t h k = each_append IsUsable ts (t ∷ []) h (k, tt)

  each_with_new : (us ts : List Tree) → Each IsUsable us → Each IsUsable ts → Each IsUsable (with_new us ts)
  each_with_new us [] h k = h
  each_with_new us (t ∷ ts) h k = each_with_new (cond (has_tree t us) us (us ++ (t ∷ []))) ts (each_cond (has_tree t us) us t h k.0) k.1

  each_all : (f : Tree → List Tree) (es : List Tree) → Each (λ e. Each IsUsable (f e)) es → Each IsUsable (concatenated f es)
  each_all f [] h = tt
  each_all f (e ∷ es) h = each_append IsUsable (f e) (concatenated f es) h.0 (each_all f es h.1)

  pub usable-sums : (es : List Tree) → Each (λ e. Each IsUsable (all_sums e)) es → Each IsUsable (sums es)
  usable-sums es h = each_with_new [] (concatenated all_sums es) tt (each_all all_sums es h)

  pub usable-prods : (es : List Tree) → Each (λ e. Each IsUsable (all_prods e)) es → Each IsUsable (prods es)
  usable-prods es h = each_with_new [] (concatenated all_prods es) tt (each_all all_prods es h)
