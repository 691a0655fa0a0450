-- Which parts must not be 0 so that an expression has a value up to a place: the divisors, and the bodies of the products that are divided
-- by.
--   IsGood p                 the numerator of the part has no value 0 from the part's limit to the last place
--   AreGood r ps             so for each part of this role
--   good_value               the value of a tree whose divisor parts are good, and whose products below have good zero parts
--   good_divisor, good_body  a divisor, and the body of a product below, have one other than 0
use Rattle.std.proofs.Common.{◌≡◌, ℕ, zero, suc, refl, sym, ap, ◌∙◌, Bool, true, false, List, [], ◌∷◌, ◌++◌, ℤ, pos, negsuc, ◌+ℤ◌, ◌-ℤ◌, ◌≤ℤ◌, arith}
use Rattle.std.proofs.lemmas.Int.{ints}
use Rattle.sg_algebra.specs.Coefficients.{Each}
use Rattle.sg_algebra.proofs.Ring.{pow}
use Rattle.sg_algebra.proofs.Value.{Value, ◌+ᵛ◌, ◌*ᵛ◌, ◌/ᵛ◌, neg_value, zero_value, one_value}
use Rattle.sg_algebra.proofs.ValueField.{ValueR, zero_mul_value, value_product, value_one_ne}
use Rattle.sg_algebra.proofs.Rational.{whole_value}
use Rattle.sg_spec.specs.Printing.{InForm}
use Rattle.sg_spec.specs.Shape.{is_divisor_tree}
use Rattle.sg_spec.specs.Tree.{Tree, numeral, here, param, add, neg, mul, div, power, sum_from, prod_from}
use Rattle.sg_spec.specs.Value.{how_many, steps_to}
use Rattle.sg_spec.specs.Parts.{Part, Role, anywhere, divides, is_body, parts, own_part, numer}
use Rattle.sg_spec.specs.Worth.{IsFolded, HasWorth}
use Rattle.sg_recurrence_theory.specs.Below.{if_divides, products_below}
use Rattle.sg_limits.proofs.Elementary.{each_left, each_right, not_true, not_so, both_true}
use Rattle.sg_limits.proofs.SoundWorth.{Plainly, body_plainly, polynomial_plainly, is_ratio, mul_ne}
use Rattle.sg_answers_theory.proofs.InverseValues.{neg_ne, pow_ne}

-- the terms of a sum or product up to a place
count_in : (from k : ℤ) (m : ℕ) (z : ℤ) → z ≡ k -ℤ from → suc m ≡ steps_to z → (from +ℤ pos m) ≤ℤ k
count_in from k m (pos n) e h = omega (arith, ints, e, h)
count_in from k m (negsuc n) e h = absurd (omega (arith, h))

module _ {d : ℕ} (letter : Value d) (M : ℤ) where
  abbrev pub IsGood : Part → Type 0
  IsGood p = (k : ℤ) → p.limit ≤ℤ k → k ≤ℤ M → (v : Value d) → HasWorth letter (numer p.tree) k v → ¬ (v ≡ zero_value)

  abbrev pub IsGoodAs : Role → Part → Type 0
  IsGoodAs r p = p.role ≡ r → IsGood p

  abbrev pub AreGood : Role → List Part → Type 0
  AreGood r ps = Each (IsGoodAs r) ps

  -- a product whose body isn't 0 up to the last place
  abbrev pub IsApart : Tree → Type 0
  IsApart p = AreGood is_body (parts anywhere (pos 0) 0 p)

  abbrev pub AreApart : List Tree → Type 0
  AreApart ps = Each IsApart ps

  abbrev Some' : Tree → ℤ → Type 0
  Some' t k = (v : Value d) × HasWorth letter t k v

  abbrev Apart : Tree → ℤ → Type 0
  Apart t k = (v : Value d) × HasWorth letter t k v × ¬ (v ≡ zero_value)

  own_apart : (t : Tree) (l k : ℤ) (r : Role) (depth : ℕ) → Plainly t → l ≤ℤ k → k ≤ℤ M → IsGood (record { role = r; tree = t; limit = l; depth = depth })
      → Some' t k → Apart t k
  own_apart t l k r depth h le up good (v, hv) =
      let (p, q, hp, hq, nq, e) = is_ratio letter t k v h hv in
      (v, hv, λ z. good k le up p hp (sym e ∙ ap (λ v. v *ᵛ q) z ∙ zero_mul_value q))

  folded_some : (op : Value d → Value d → Value d) (start : Value d) (term : ℤ → Value d → Type 0) (from k : ℤ)
      → ((j : ℤ) → from ≤ℤ j → j ≤ℤ k → (v : Value d) × term j v)
      → (n : ℕ) → ((m : ℕ) → suc m ≡ n → (from +ℤ pos m) ≤ℤ k) → (v : Value d) × IsFolded op start term from n v
  folded_some op start term from k h zero up = (start, refl)
  folded_some op start term from k h (suc n) up =
      let last = up n refl in
      let (u, hu) = folded_some op start term from k h n (λ m e. omega (arith, ints, last, e)) in
      let (w, hw) = h (from +ℤ pos n) (omega (arith, ints)) last in
      (op u w, (u, w, hu, hw, refl))

  folded_apart : (term : ℤ → Value d → Type 0) (from k : ℤ) → ((j : ℤ) → from ≤ℤ j → j ≤ℤ k → (v : Value d) × term j v × ¬ (v ≡ zero_value))
      → (n : ℕ) → ((m : ℕ) → suc m ≡ n → (from +ℤ pos m) ≤ℤ k) → (v : Value d) × IsFolded ◌*ᵛ◌ one_value term from n v × ¬ (v ≡ zero_value)
  folded_apart term from k h zero up = (one_value, refl, value_one_ne d)
  folded_apart term from k h (suc n) up =
      let last = up n refl in
      let (u, hu, nu) = folded_apart term from k h n (λ m e. omega (arith, ints, last, e)) in
      let (w, hw, nw) = h (from +ℤ pos n) (omega (arith, ints)) last in
      (u *ᵛ w, (u, w, hu, hw, refl), mul_ne letter u w nu nw)

  in_range : (from k : ℤ) (m : ℕ) → suc m ≡ how_many from k → (from +ℤ pos m) ≤ℤ k
  in_range from k m e = count_in from k m (k -ℤ from) refl e

  -- ---- Parts of parts

  pub inner : (r s : Role) (l : ℤ) (depth : ℕ) (t : Tree) (rest : List Part) → AreGood s (own_part r l depth t rest) → AreGood s rest
  inner anywhere s l depth t rest h = h
  inner divides s l depth t rest h = h.1
  inner is_body s l depth t rest h = h.1

  own-depth : (s r : Role) (l : ℤ) (depth depth' : ℕ) (t : Tree) (rest rest' : List Part) → (AreGood s rest → AreGood s rest')
      → AreGood s (own_part r l depth t rest) → AreGood s (own_part r l depth' t rest')
  own-depth s anywhere l depth depth' t rest rest' go h = go h
  own-depth s divides l depth depth' t rest rest' go h = (h.0, go h.1)
  own-depth s is_body l depth depth' t rest rest' go h = (h.0, go h.1)

  both-depth : (s : Role) (ps ps' qs qs' : List Part) → (AreGood s ps → AreGood s ps') → (AreGood s qs → AreGood s qs') → AreGood s (ps ++ qs)
      → AreGood s (ps' ++ qs')
  both-depth s ps ps' qs qs' f g h = glue ps' qs' (f (each_left (IsGoodAs s) ps qs h)) (g (each_right (IsGoodAs s) ps qs h))
    where
      glue : (xs ys : List Part) → AreGood s xs → AreGood s ys → AreGood s (xs ++ ys)
      glue [] ys i k = k
      glue (x ∷ xs) ys i k = (i.0, glue xs ys i.1 k)

  -- how deep it stands makes no difference
  pub any-depth : (s r : Role) (t : Tree) (l : ℤ) (depth depth' : ℕ) → AreGood s (parts r l depth t) → AreGood s (parts r l depth' t)
  any-depth s r (numeral c) l depth depth' h = own-depth s r l depth depth' (numeral c) [] [] (λ i. i) h
  any-depth s r here l depth depth' h = own-depth s r l depth depth' here [] [] (λ i. i) h
  any-depth s r param l depth depth' h = own-depth s r l depth depth' param [] [] (λ i. i) h
  any-depth s r (add x y) l depth depth' h = own-depth s r l depth depth' (add x y) (parts anywhere l depth x ++ parts anywhere l depth y) (parts anywhere l depth' x ++ parts anywhere l depth' y)
      (both-depth s (parts anywhere l depth x) (parts anywhere l depth' x) (parts anywhere l depth y) (parts anywhere l depth' y) (any-depth s anywhere x l depth depth') (any-depth s anywhere y l depth depth')) h
  any-depth s r (neg x) l depth depth' h = any-depth s r x l depth depth' h
  any-depth s r (mul x y) l depth depth' h = both-depth s (parts r l depth x) (parts r l depth' x) (parts r l depth y) (parts r l depth' y) (any-depth s r x l depth depth') (any-depth s r y l depth depth') h
  any-depth s r (div x y) l depth depth' h = both-depth s (parts r l depth x) (parts r l depth' x) (parts divides l depth y) (parts divides l depth' y) (any-depth s r x l depth depth') (any-depth s divides y l depth depth') h
  any-depth s r (power x zero) l depth depth' h = any-depth s anywhere x l depth depth' h
  any-depth s r (power x (suc e)) l depth depth' h = any-depth s r x l depth depth' h
  any-depth s r (sum_from from body) l depth depth' h = any-depth s anywhere body from (suc depth) (suc depth') h
  any-depth s r (prod_from from body) l depth depth' h = any-depth s is_body body from (suc depth) (suc depth') h

  added : (x y : Tree) (k : ℤ) → Some' x k → Some' y k → Some' (add x y) k
  added x y k (u, hu) (w, hw) = (u +ᵛ w, (u, w, hu, hw, refl))

  forget : (t : Tree) (k : ℤ) → Apart t k → Some' t k
  forget t k (v, h, n) = (v, h)

  again : (xs ys : List Tree) → AreApart xs → AreApart ys → AreApart (xs ++ ys)
  again [] ys i k = k
  again (x ∷ xs) ys i k = (i.0, again xs ys i.1 k)

  -- no product stands in the body of a product
  pub bodiless : (known : Bool) (body : Tree) → InForm known true body → AreApart (products_below anywhere body) → AreApart (products_below is_body body)
  bodiless known (numeral c) f b = b
  bodiless known here f b = b
  bodiless known param f b = b
  bodiless known (add x y) f b = b
  bodiless known (neg x) f b = bodiless known x f b
  bodiless known (mul x y) f b = again (products_below is_body x) (products_below is_body y) (bodiless known x f.0 (each_left IsApart (products_below anywhere x) (products_below anywhere y) b)) (bodiless known y f.1 (each_right IsApart (products_below anywhere x) (products_below anywhere y) b))
  bodiless known (div x y) f b = again (products_below is_body x) (products_below divides y) (bodiless known x f.0 (each_left IsApart (products_below anywhere x) (products_below divides y) b)) (each_right IsApart (products_below anywhere x) (products_below divides y) b)
  bodiless known (power x zero) f b = b
  bodiless known (power x (suc e)) f b = bodiless known x f b
  bodiless known (sum_from from body) f b = absurd (not_so f.0)
  bodiless known (prod_from from body) f b = absurd (not_so f.0)

  mutual
    -- r is the role in which the parts of the tree were listed; the value hangs on the divisors alone
    pub good_value : (known inside : Bool) (r : Role) (t : Tree) (l : ℤ) (depth : ℕ) → InForm known inside t → AreGood divides (parts r l depth t)
        → AreApart (products_below r t) → (k : ℤ) → l ≤ℤ k → k ≤ℤ M → Some' t k
    good_value known inside r (numeral c) l depth f s b k le up = (whole_value d c, refl)
    good_value known inside r here l depth f s b k le up = (whole_value d k, refl)
    good_value known inside r param l depth f s b k le up = (letter, refl)
    good_value known inside r (add x y) l depth f s b k le up =
        let i = inner r divides l depth (add x y) (parts anywhere l depth x ++ parts anywhere l depth y) s in
        added x y k
        (good_value known inside anywhere x l depth f.0 (each_left (IsGoodAs divides) (parts anywhere l depth x) (parts anywhere l depth y) i) (each_left IsApart (products_below anywhere x) (products_below anywhere y) b) k le up)
        (good_value known inside anywhere y l depth f.1 (each_right (IsGoodAs divides) (parts anywhere l depth x) (parts anywhere l depth y) i) (each_right IsApart (products_below anywhere x) (products_below anywhere y) b) k le up)
    good_value known inside r (neg x) l depth f s b k le up = let (u, hu) = good_value known inside r x l depth f s b k le up in (neg_value u, (u, hu, refl))
    good_value known inside r (mul x y) l depth f s b k le up =
        let (u, hu) = good_value known inside r x l depth f.0 (each_left (IsGoodAs divides) (parts r l depth x) (parts r l depth y) s) (each_left IsApart (products_below r x) (products_below r y) b) k le up in
        let (w, hw) = good_value known inside r y l depth f.1 (each_right (IsGoodAs divides) (parts r l depth x) (parts r l depth y) s) (each_right IsApart (products_below r x) (products_below r y) b) k le up in
        (u *ᵛ w, (u, w, hu, hw, refl))
    good_value known inside r (div x y) l depth f s b k le up =
        let (u, hu) = good_value known inside r x l depth f.0 (each_left (IsGoodAs divides) (parts r l depth x) (parts divides l depth y) s) (each_left IsApart (products_below r x) (products_below divides y) b) k le up in
        let (w, hw, nw) = good_divisor known inside y l depth f.1 f.2 (each_right (IsGoodAs divides) (parts r l depth x) (parts divides l depth y) s) (each_right IsApart (products_below r x) (products_below divides y) b) k le up in
        (u /ᵛ w, (u, w, hu, hw, nw, refl))
    good_value known inside r (power x zero) l depth f s b k le up = let (u, hu) = good_value known inside anywhere x l depth f s b k le up in (pow (ValueR d) u zero, (u, hu, refl))
    good_value known inside r (power x (suc e)) l depth f s b k le up = let (u, hu) = good_value known inside r x l depth f s b k le up in (pow (ValueR d) u (suc e), (u, hu, refl))
    good_value known inside r (sum_from from body) l depth f s b k le up =
        folded_some ◌+ᵛ◌ zero_value (HasWorth letter body) from k (λ j lo hi. good_value known false anywhere body from (suc depth) f.2 s b j lo (omega (arith, ints, hi, up))) (how_many from k) (in_range from k)
    good_value known inside r (prod_from from body) l depth f s b k le up =
        folded_some ◌*ᵛ◌ one_value (HasWorth letter body) from k
        (λ j lo hi. good_value known true is_body body from (suc depth) f.2 s (bodiless known body f.2 (each_right IsApart (if_divides r (prod_from from body)) (products_below anywhere body) b)) j lo (omega (arith, ints, hi, up)))
        (how_many from k) (in_range from k)

    pub good_divisor : (known inside : Bool) (t : Tree) (l : ℤ) (depth : ℕ) → InForm known inside t → is_divisor_tree t ≡ true
        → AreGood divides (parts divides l depth t) → AreApart (products_below divides t) → (k : ℤ) → l ≤ℤ k → k ≤ℤ M → Apart t k
    good_divisor known inside (numeral c) l depth f g s b k le up = own_apart (numeral c) l k divides depth tt le up (s.0 refl) (whole_value d c, refl)
    good_divisor known inside here l depth f g s b k le up = own_apart here l k divides depth tt le up (s.0 refl) (whole_value d k, refl)
    good_divisor known inside param l depth f g s b k le up = own_apart param l k divides depth tt le up (s.0 refl) (letter, refl)
    good_divisor known inside (add x y) l depth f g s b k le up =
        own_apart (add x y) l k divides depth (polynomial_plainly (add x y) g) le up (s.0 refl) (added x y k
        (good_value known inside anywhere x l depth f.0 (each_left (IsGoodAs divides) (parts anywhere l depth x) (parts anywhere l depth y) s.1) (each_left IsApart (products_below anywhere x) (products_below anywhere y) b) k le up)
        (good_value known inside anywhere y l depth f.1 (each_right (IsGoodAs divides) (parts anywhere l depth x) (parts anywhere l depth y) s.1) (each_right IsApart (products_below anywhere x) (products_below anywhere y) b) k le up))
    good_divisor known inside (neg x) l depth f g s b k le up = let (u, hu, nu) = good_divisor known inside x l depth f g s b k le up in (neg_value u, (u, hu, refl), neg_ne u nu)
    good_divisor known inside (mul x y) l depth f g s b k le up =
        let (gx, gy) = both_true (is_divisor_tree x) (is_divisor_tree y) g in
        let (u, hu, nu) = good_divisor known inside x l depth f.0 gx (each_left (IsGoodAs divides) (parts divides l depth x) (parts divides l depth y) s) (each_left IsApart (products_below divides x) (products_below divides y) b) k le up in
        let (w, hw, nw) = good_divisor known inside y l depth f.1 gy (each_right (IsGoodAs divides) (parts divides l depth x) (parts divides l depth y) s) (each_right IsApart (products_below divides x) (products_below divides y) b) k le up in
        (u *ᵛ w, (u, w, hu, hw, refl), mul_ne letter u w nu nw)
    good_divisor known inside (div x y) l depth f g s b k le up = absurd (not_true g)
    good_divisor known inside (power x zero) l depth f g s b k le up =
        let (u, hu) = good_value known inside anywhere x l depth f s b k le up in (one_value, (u, hu, refl), value_one_ne d)
    good_divisor known inside (power x (suc e)) l depth f g s b k le up =
        let (u, hu, nu) = good_divisor known inside x l depth f g s b k le up in (pow (ValueR d) u (suc e), (u, hu, refl), pow_ne u (suc e) nu)
    good_divisor known inside (sum_from from body) l depth f g s b k le up = absurd (not_true g)
    good_divisor known inside (prod_from from body) l depth f g s b k le up =
        let bodies = any-depth is_body is_body body from 1 (suc depth) b.0 in
        folded_apart (HasWorth letter body) from k (λ j lo hi. good_body known body from (suc depth) f.2 s bodies (bodiless known body f.2 b.1) j lo (omega (arith, ints, hi, up))) (how_many from k) (in_range from k)

    pub good_body : (known : Bool) (t : Tree) (l : ℤ) (depth : ℕ) → InForm known true t → AreGood divides (parts is_body l depth t)
        → AreGood is_body (parts is_body l depth t) → AreApart (products_below is_body t) → (k : ℤ) → l ≤ℤ k → k ≤ℤ M → Apart t k
    good_body known (numeral c) l depth f s z b k le up = own_apart (numeral c) l k is_body depth tt le up (z.0 refl) (whole_value d c, refl)
    good_body known here l depth f s z b k le up = own_apart here l k is_body depth tt le up (z.0 refl) (whole_value d k, refl)
    good_body known param l depth f s z b k le up = own_apart param l k is_body depth tt le up (z.0 refl) (letter, refl)
    good_body known (add x y) l depth f s z b k le up =
        own_apart (add x y) l k is_body depth (body_plainly known (add x y) f) le up (z.0 refl) (added x y k
        (good_value known true anywhere x l depth f.0 (each_left (IsGoodAs divides) (parts anywhere l depth x) (parts anywhere l depth y) s.1) (each_left IsApart (products_below anywhere x) (products_below anywhere y) b) k le up)
        (good_value known true anywhere y l depth f.1 (each_right (IsGoodAs divides) (parts anywhere l depth x) (parts anywhere l depth y) s.1) (each_right IsApart (products_below anywhere x) (products_below anywhere y) b) k le up))
    good_body known (neg x) l depth f s z b k le up = let (u, hu, nu) = good_body known x l depth f s z b k le up in (neg_value u, (u, hu, refl), neg_ne u nu)
    good_body known (mul x y) l depth f s z b k le up =
        let (u, hu, nu) = good_body known x l depth f.0 (each_left (IsGoodAs divides) (parts is_body l depth x) (parts is_body l depth y) s) (each_left (IsGoodAs is_body) (parts is_body l depth x) (parts is_body l depth y) z) (each_left IsApart (products_below is_body x) (products_below is_body y) b) k le up in
        let (w, hw, nw) = good_body known y l depth f.1 (each_right (IsGoodAs divides) (parts is_body l depth x) (parts is_body l depth y) s) (each_right (IsGoodAs is_body) (parts is_body l depth x) (parts is_body l depth y) z) (each_right IsApart (products_below is_body x) (products_below is_body y) b) k le up in
        (u *ᵛ w, (u, w, hu, hw, refl), mul_ne letter u w nu nw)
    good_body known (div x y) l depth f s z b k le up =
        let (u, hu, nu) = good_body known x l depth f.0 (each_left (IsGoodAs divides) (parts is_body l depth x) (parts divides l depth y) s) (each_left (IsGoodAs is_body) (parts is_body l depth x) (parts divides l depth y) z) (each_left IsApart (products_below is_body x) (products_below divides y) b) k le up in
        let (w, hw, nw) = good_divisor known true y l depth f.1 f.2 (each_right (IsGoodAs divides) (parts is_body l depth x) (parts divides l depth y) s) (each_right IsApart (products_below is_body x) (products_below divides y) b) k le up in
        (u /ᵛ w, (u, w, hu, hw, nw, refl), λ e. nu (sym (value_product u w nw) ∙ ap (λ v. v *ᵛ w) e ∙ zero_mul_value w))
    good_body known (power x zero) l depth f s z b k le up =
        let (u, hu) = good_value known true anywhere x l depth f s b k le up in (one_value, (u, hu, refl), value_one_ne d)
    good_body known (power x (suc e)) l depth f s z b k le up = let (u, hu, nu) = good_body known x l depth f s z b k le up in (pow (ValueR d) u (suc e), (u, hu, refl), pow_ne u (suc e) nu)
    good_body known (sum_from from body) l depth f s z b k le up = absurd (not_so f.0)
    good_body known (prod_from from body) l depth f s z b k le up = absurd (not_so f.0)
