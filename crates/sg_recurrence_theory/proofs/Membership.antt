-- Trees in lists, by the test.
--   tree_itself        a tree is the same as itself
--   pick               what holds of each tree of a list holds of one that the test finds in it
--   among-pick         of those of a list that stand in another, too
--   found-left, found-right, found-first, found-later      where the test finds a tree
use Rattle.std.proofs.Common.{◌≡◌, ℕ, inl, inr, Bool, true, false, ◌&&◌, cond, refl, sym, ap₂, ◌∙◌, subst, List, [], ◌∷◌, ◌++◌, ℤ, pos, negsuc}
use Rattle.std.specs.Prelude.{◌==◌}
use Rattle.std.proofs.lemmas.Bool.Decides.{eqb_tells}
use Rattle.sg_algebra.specs.Coefficients.{Each}
use Rattle.sg_spec.specs.Tree.{Tree, numeral, here, param, add, neg, mul, div, power, sum_from, prod_from}
use Rattle.sg_spec.specs.Generators.{same_whole, same_tree, has_tree}
use Rattle.sg_value_theory.proofs.OwnSums.{tree_same}
use Rattle.sg_recurrence_theory.specs.Listing.{among}
use Rattle.sg_limits.proofs.Elementary.{not_true}

eqb_refl : (n : ℕ) → (n == n) ≡ true
eqb_refl n = elim (eqb_tells n n) [ inl h ↦ h.0 | inr h ↦ absurd (h.1 refl) ]

number_itself : (c : ℤ) → same_whole c c ≡ true
number_itself (pos n) = eqb_refl n
number_itself (negsuc n) = eqb_refl n

pub tree_itself : (t : Tree) → same_tree t t ≡ true
tree_itself (numeral c) = number_itself c
tree_itself here = refl
tree_itself param = refl
tree_itself (add x y) = ap₂ ◌&&◌ (tree_itself x) (tree_itself y)
tree_itself (neg x) = tree_itself x
tree_itself (mul x y) = ap₂ ◌&&◌ (tree_itself x) (tree_itself y)
tree_itself (div x y) = ap₂ ◌&&◌ (tree_itself x) (tree_itself y)
tree_itself (power x e) = ap₂ ◌&&◌ (tree_itself x) (eqb_refl e)
tree_itself (sum_from a x) = ap₂ ◌&&◌ (number_itself a) (tree_itself x)
tree_itself (prod_from a x) = ap₂ ◌&&◌ (number_itself a) (tree_itself x)

pub pick : (P : Tree → Type 0) (p : Tree) (ts : List Tree) → Each P ts → has_tree p ts ≡ true → P p
pick P p [] h e = absurd (not_true e)
pick P p (t ∷ ts) h e = go (λ i. pick P p ts h.1 i) (same_tree p t) refl e
  where
    go : (has_tree p ts ≡ true → P p) → (b : Bool) → same_tree p t ≡ b → cond b true (has_tree p ts) ≡ true → P p
    go again true q i = subst P (sym (tree_same p t q)) h.0
    go again false q i = again i

pub among-pick : (P : Tree → Type 0) (kept : List Tree) (p : Tree) (ts : List Tree) → Each P (among kept ts) → has_tree p ts ≡ true → has_tree p kept ≡ true
    → P p
among-pick P kept p [] h e k = absurd (not_true e)
among-pick P kept p (t ∷ ts) h e k = go (λ i j. among-pick P kept p ts i j k) (has_tree t kept) refl h
  where
    go : (Each P (among kept ts) → has_tree p ts ≡ true → P p) → (b : Bool) → has_tree t kept ≡ b → Each P (cond b (t ∷ among kept ts) (among kept ts)) → P p
    go again true q i = same (same_tree p t) refl e
      where
        same : (c : Bool) → same_tree p t ≡ c → cond c true (has_tree p ts) ≡ true → P p
        same true r j = subst P (sym (tree_same p t r)) i.0
        same false r j = again i.1 j
    go again false q i = same (same_tree p t) refl e
      where
        same : (c : Bool) → same_tree p t ≡ c → cond c true (has_tree p ts) ≡ true → P p
        same true r j = absurd (not_true (sym q ∙ subst (λ (u : Tree). has_tree u kept ≡ true) (tree_same p t r) k))
        same false r j = again i j

pub found-first : (p : Tree) (ts : List Tree) → has_tree p (p ∷ ts) ≡ true
found-first p ts = subst (λ (b : Bool). cond b true (has_tree p ts) ≡ true) (sym (tree_itself p)) refl

pub found-later : (p t : Tree) (ts : List Tree) → has_tree p ts ≡ true → has_tree p (t ∷ ts) ≡ true
found-later p t ts h = go (same_tree p t)
  where
    go : (b : Bool) → cond b true (has_tree p ts) ≡ true
    go true = refl
    go false = h

pub found-right : (p : Tree) (ts us : List Tree) → has_tree p us ≡ true → has_tree p (ts ++ us) ≡ true
found-right p [] us h = h
found-right p (t ∷ ts) us h = found-later p t (ts ++ us) (found-right p ts us h)

pub found-left : (p : Tree) (ts us : List Tree) → has_tree p ts ≡ true → has_tree p (ts ++ us) ≡ true
found-left p [] us h = absurd (not_true h)
found-left p (t ∷ ts) us h = go (λ i. found-left p ts us i) (same_tree p t) h
  where
    go : (has_tree p ts ≡ true → has_tree p (ts ++ us) ≡ true) → (b : Bool) → cond b true (has_tree p ts) ≡ true → cond b true (has_tree p (ts ++ us)) ≡ true
    go again true i = refl
    go again false i = again i
