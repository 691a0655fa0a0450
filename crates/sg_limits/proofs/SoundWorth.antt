-- From no pole and no zero factor to values at every depth.
--   Plainly             a tree without sums and products
--   IsRatio             numerator and denominator have values, the denominator's isn't 0, and the value is their quotient
--   IsSpared            the numerator of the part has no value 0 from the part's limit on
--   spared_value        a tree in form whose parts are spared has a value from the limit on
--   spared_divisor, spared_body      a divisor, and the body of a product, have one other than 0
--   sum_has_body, prod_has_body      so the bodies of sums and products are as the solvers ask
use Rattle.std.proofs.Common.{◌≡◌, ℕ, zero, suc, refl, sym, ap, ap₂, subst, ◌∙◌, Bool, true, false, [], ◌∷◌, ℤ, pos, ◌+ℤ◌, ◌≤ℤ◌, arith}
use Rattle.std.proofs.lemmas.Int.{ints}
use Rattle.sg_algebra.specs.Coefficients.{Each}
use Rattle.sg_algebra.proofs.Ring.{pow}
use Rattle.sg_algebra.proofs.Solver.{ring, by, reads}
use Rattle.sg_algebra.proofs.Value.{Value, ◌+ᵛ◌, ◌*ᵛ◌, ◌/ᵛ◌, neg_value, zero_value, one_value}
use Rattle.sg_algebra.proofs.ValueField.{ValueR, ValueD, mul_zero_value, zero_mul_value, zero_add_value, value_product, value_mul-one, value_one_ne}
use Rattle.sg_algebra.proofs.Rational.{whole_value}
use Rattle.sg_spec.specs.Printing.{InForm}
use Rattle.sg_spec.specs.Shape.{is_divisor_tree, is_polynomial_tree}
use Rattle.sg_spec.specs.Tree.{Tree, numeral, here, param, add, neg, mul, div, power, sum_from, prod_from}
use Rattle.sg_spec.specs.Value.{how_many}
use Rattle.sg_spec.specs.Parts.{Part, Role, anywhere, divides, is_body, parts, numer, ratio_of}
use Rattle.sg_spec.specs.Worth.{IsFolded, HasWorth}
use Rattle.sg_limits.proofs.Elementary.{each_left, each_right, not_true, not_so, both_true}

abbrev pub Plainly : Tree → Type 0
Plainly (numeral c) = Unit {0}
Plainly here = Unit {0}
Plainly param = Unit {0}
Plainly (add x y) = Plainly x × Plainly y
Plainly (neg x) = Plainly x
Plainly (mul x y) = Plainly x × Plainly y
Plainly (div x y) = Plainly x × Plainly y
Plainly (power x e) = Plainly x
Plainly (sum_from from body) = ⊥
Plainly (prod_from from body) = ⊥

pub body_plainly : (known : Bool) (t : Tree) → InForm known true t → Plainly t
body_plainly known (numeral c) h = tt
body_plainly known here h = tt
body_plainly known param h = tt
body_plainly known (add x y) h = (body_plainly known x h.0, body_plainly known y h.1)
body_plainly known (neg x) h = body_plainly known x h
body_plainly known (mul x y) h = (body_plainly known x h.0, body_plainly known y h.1)
body_plainly known (div x y) h = (body_plainly known x h.0, body_plainly known y h.1)
body_plainly known (power x e) h = body_plainly known x h
body_plainly known (sum_from from body) h = absurd (not_so h.0)
body_plainly known (prod_from from body) h = absurd (not_so h.0)

pub polynomial_plainly : (t : Tree) → is_polynomial_tree t ≡ true → Plainly t
polynomial_plainly (numeral c) h = tt
polynomial_plainly here h = tt
polynomial_plainly param h = tt
polynomial_plainly (add x y) h = let (l, r) = both_true (is_polynomial_tree x) (is_polynomial_tree y) h in (polynomial_plainly x l, polynomial_plainly y r)
polynomial_plainly (neg x) h = polynomial_plainly x h
polynomial_plainly (mul x y) h = let (l, r) = both_true (is_polynomial_tree x) (is_polynomial_tree y) h in (polynomial_plainly x l, polynomial_plainly y r)
polynomial_plainly (div x y) h = absurd (not_true h)
polynomial_plainly (power x e) h = polynomial_plainly x h
polynomial_plainly (sum_from from body) h = absurd (not_true h)
polynomial_plainly (prod_from from body) h = absurd (not_true h)

module _ {d : ℕ} (letter : Value d) where
  abbrev Z : Value d
  Z = zero_value

  one_ne : ¬ (whole_value d (pos 1) ≡ zero_value)
  one_ne e = value_one_ne d (sym (zero_add_value one_value) ∙ e)

  pub mul_ne : (x y : Value d) → ¬ (x ≡ zero_value) → ¬ (y ≡ zero_value) → ¬ (x *ᵛ y ≡ zero_value)
  mul_ne x y h k e = k ((ValueD d).cancel_mul {c = x} {x = y} {y = zero_value} h (e ∙ sym (mul_zero_value x)))

  pow_ne : (x : Value d) (e : ℕ) → ¬ (x ≡ zero_value) → ¬ (pow (ValueR d) x e ≡ zero_value)
  pow_ne x zero h z = value_one_ne d z
  pow_ne x (suc e) h z = mul_ne (pow (ValueR d) x e) x (pow_ne x e h) h z

  neg_ne : (x : Value d) → ¬ (x ≡ zero_value) → ¬ (neg_value x ≡ zero_value)
  neg_ne x h e = h (by (ValueR d) (x ∷ []) ((ValueR d).neg_cong e) (search reads depth 20) refl)

  abbrev pub IsRatio : Tree → Tree → ℤ → Value d → Type 0
  IsRatio over under k v = (p : Value d) × (q : Value d) × HasWorth letter over k p × HasWorth letter under k q × ¬ (q ≡ zero_value) × (v *ᵛ q ≡ p)

  by_one : (v : Value d) → v *ᵛ whole_value d (pos 1) ≡ v
  by_one v = ap (λ w. v *ᵛ w) (zero_add_value one_value) ∙ value_mul-one d v

  ratio_sum : (u w p q r s : Value d) → u *ᵛ q ≡ p → w *ᵛ s ≡ r → (u +ᵛ w) *ᵛ (q *ᵛ s) ≡ p *ᵛ s +ᵛ r *ᵛ q
  ratio_sum u w p q r s e f = by (ValueR d) (u ∷ w ∷ p ∷ q ∷ r ∷ s ∷ []) ((ValueR d).add_cong ((ValueR d).mul_cong e ((ValueR d).rfl {x = s})) ((ValueR d).mul_cong f ((ValueR d).rfl {x = q}))) (search reads depth 24) refl

  ratio_product : (u w p q r s : Value d) → u *ᵛ q ≡ p → w *ᵛ s ≡ r → (u *ᵛ w) *ᵛ (q *ᵛ s) ≡ p *ᵛ r
  ratio_product u w p q r s e f = by (ValueR d) (u ∷ w ∷ p ∷ q ∷ r ∷ s ∷ []) ((ValueR d).mul_cong e f) (search reads depth 24) refl

  ratio_neg : (u p q : Value d) → u *ᵛ q ≡ p → neg_value u *ᵛ q ≡ neg_value p
  ratio_neg u p q e = by (ValueR d) (u ∷ p ∷ q ∷ []) ((ValueR d).neg_cong e) (search reads depth 24) refl

  -- (u / w) (q r) is p s, where u q is p, w s is r
  ratio_quotient : (u w p q r s : Value d) → ¬ (w ≡ zero_value) → u *ᵛ q ≡ p → w *ᵛ s ≡ r → (u /ᵛ w) *ᵛ (q *ᵛ r) ≡ p *ᵛ s
  ratio_quotient u w p q r s ne e f = crossed (u /ᵛ w) (value_product u w ne)
    where
      crossed : (x : Value d) → x *ᵛ w ≡ u → x *ᵛ (q *ᵛ r) ≡ p *ᵛ s
      crossed x g = ap (λ r. x *ᵛ (q *ᵛ r)) (sym f) ∙ moved x ∙ ap (λ y. (y *ᵛ q) *ᵛ s) g ∙ ap (λ y. y *ᵛ s) e
        where
          moved : (x : Value d) → x *ᵛ (q *ᵛ (w *ᵛ s)) ≡ ((x *ᵛ w) *ᵛ q) *ᵛ s
          moved x = ring (ValueR d) (x ∷ w ∷ q ∷ s ∷ []) (search reads depth 20) refl

  ratio_power : (u p q : Value d) (e : ℕ) → u *ᵛ q ≡ p → pow (ValueR d) u e *ᵛ pow (ValueR d) q e ≡ pow (ValueR d) p e
  ratio_power u p q zero h = value_mul-one d one_value
  ratio_power u p q (suc e) h = across (pow (ValueR d) u e) (pow (ValueR d) q e) ∙ ap₂ ◌*ᵛ◌ (ratio_power u p q e h) h
    where
      across : (x y : Value d) → (x *ᵛ u) *ᵛ (y *ᵛ q) ≡ (x *ᵛ y) *ᵛ (u *ᵛ q)
      across x y = ring (ValueR d) (x ∷ y ∷ u ∷ q ∷ []) (search reads depth 20) refl

  pub is_ratio : (t : Tree) (k : ℤ) (v : Value d) → Plainly t → HasWorth letter t k v → IsRatio (ratio_of t).over (ratio_of t).under k v
  is_ratio (numeral c) k v h e = (v, whole_value d (pos 1), e, refl, one_ne, by_one v)
  is_ratio here k v h e = (v, whole_value d (pos 1), e, refl, one_ne, by_one v)
  is_ratio param k v h e = (v, whole_value d (pos 1), e, refl, one_ne, by_one v)
  is_ratio (add x y) k v h (u, w, hu, hw, e) =
      let (p, q, hp, hq, nq, eq) = is_ratio x k u h.0 hu in
      let (r, s, hr, hs, ns, es) = is_ratio y k w h.1 hw in
      (p *ᵛ s +ᵛ r *ᵛ q, q *ᵛ s, (p *ᵛ s, r *ᵛ q, (p, s, hp, hs, refl), (r, q, hr, hq, refl), refl), (q, s, hq, hs, refl), mul_ne q s nq ns, ap (λ v. v *ᵛ (q *ᵛ s)) e ∙ ratio_sum u w p q r s eq es)
  is_ratio (neg x) k v h (u, hu, e) =
      let (p, q, hp, hq, nq, eq) = is_ratio x k u h hu in
      (neg_value p, q, (p, hp, refl), hq, nq, ap (λ v. v *ᵛ q) e ∙ ratio_neg u p q eq)
  is_ratio (mul x y) k v h (u, w, hu, hw, e) =
      let (p, q, hp, hq, nq, eq) = is_ratio x k u h.0 hu in
      let (r, s, hr, hs, ns, es) = is_ratio y k w h.1 hw in
      (p *ᵛ r, q *ᵛ s, (p, r, hp, hr, refl), (q, s, hq, hs, refl), mul_ne q s nq ns, ap (λ v. v *ᵛ (q *ᵛ s)) e ∙ ratio_product u w p q r s eq es)
  is_ratio (div x y) k v h (u, w, hu, hw, nw, e) =
      let (p, q, hp, hq, nq, eq) = is_ratio x k u h.0 hu in
      let (r, s, hr, hs, ns, es) = is_ratio y k w h.1 hw in
      (p *ᵛ s, q *ᵛ r, (p, s, hp, hs, refl), (q, r, hq, hr, refl), mul_ne q r nq (subst (λ r. ¬ (r ≡ zero_value)) es (mul_ne w s nw ns)), ap (λ v. v *ᵛ (q *ᵛ r)) e ∙ ratio_quotient u w p q r s nw eq es)
  is_ratio (power x e) k v h (u, hu, f) =
      let (p, q, hp, hq, nq, eq) = is_ratio x k u h hu in
      (pow (ValueR d) p e, pow (ValueR d) q e, (p, hp, refl), (q, hq, refl), pow_ne q e nq, ap (λ v. v *ᵛ pow (ValueR d) q e) f ∙ ratio_power u p q e eq)
  is_ratio (sum_from from body) k v h e = absurd h
  is_ratio (prod_from from body) k v h e = absurd h

  -- ---- Spared parts

  abbrev pub IsSpared : Part → Type 0
  IsSpared p = (k : ℤ) → p.limit ≤ℤ k → (v : Value d) → HasWorth letter (numer p.tree) k v → ¬ (v ≡ zero_value)

  abbrev pub Some' : Tree → ℤ → Type 0
  Some' t k = (v : Value d) × HasWorth letter t k v

  abbrev pub Apart : Tree → ℤ → Type 0
  Apart t k = (v : Value d) × HasWorth letter t k v × ¬ (v ≡ zero_value)

  forget : (t : Tree) (k : ℤ) → Apart t k → Some' t k
  forget t k (v, h, n) = (v, h)

  -- a plain tree with a value whose own part is spared
  own_apart : (t : Tree) (l k : ℤ) (r : Role) (depth : ℕ) → Plainly t → l ≤ℤ k → IsSpared (record { role = r; tree = t; limit = l; depth = depth }) → Some' t k → Apart t k
  own_apart t l k r depth h le spared (v, hv) =
      let (p, q, hp, hq, nq, e) = is_ratio t k v h hv in
      (v, hv, λ z. spared k le p hp (sym e ∙ ap (λ v. v *ᵛ q) z ∙ zero_mul_value q))

  folded_some : (op : Value d → Value d → Value d) (start : Value d) (term : ℤ → Value d → Type 0) (from : ℤ) → ((j : ℤ) → from ≤ℤ j → (v : Value d) × term j v) → (n : ℕ) → (v : Value d) × IsFolded op start term from n v
  folded_some op start term from h zero = (start, refl)
  folded_some op start term from h (suc n) =
      let (u, hu) = folded_some op start term from h n in
      let (w, hw) = h (from +ℤ pos n) (omega (arith, ints)) in
      (op u w, (u, w, hu, hw, refl))

  folded_apart : (term : ℤ → Value d → Type 0) (from : ℤ) → ((j : ℤ) → from ≤ℤ j → (v : Value d) × term j v × ¬ (v ≡ zero_value)) → (n : ℕ) → (v : Value d) × IsFolded ◌*ᵛ◌ one_value term from n v × ¬ (v ≡ zero_value)
  folded_apart term from h zero = (one_value, refl, value_one_ne d)
  folded_apart term from h (suc n) =
      let (u, hu, nu) = folded_apart term from h n in
      let (w, hw, nw) = h (from +ℤ pos n) (omega (arith, ints)) in
      (u *ᵛ w, (u, w, hu, hw, refl), mul_ne u w nu nw)

  added : (x y : Tree) (k : ℤ) → Some' x k → Some' y k → Some' (add x y) k
  added x y k (u, hu) (w, hw) = (u +ᵛ w, (u, w, hu, hw, refl))

  mutual
    pub spared_value : (known inside : Bool) (t : Tree) (l : ℤ) (depth : ℕ) → InForm known inside t → Each IsSpared (parts anywhere l depth t) → (k : ℤ) → l ≤ℤ k → Some' t k
    spared_value known inside (numeral c) l depth f s k le = (whole_value d c, refl)
    spared_value known inside here l depth f s k le = (whole_value d k, refl)
    spared_value known inside param l depth f s k le = (letter, refl)
    spared_value known inside (add x y) l depth f s k le =
        let (u, hu) = spared_value known inside x l depth f.0 (each_left IsSpared (parts anywhere l depth x) (parts anywhere l depth y) s) k le in
        let (w, hw) = spared_value known inside y l depth f.1 (each_right IsSpared (parts anywhere l depth x) (parts anywhere l depth y) s) k le in
        (u +ᵛ w, (u, w, hu, hw, refl))
    spared_value known inside (neg x) l depth f s k le = let (u, hu) = spared_value known inside x l depth f s k le in (neg_value u, (u, hu, refl))
    spared_value known inside (mul x y) l depth f s k le =
        let (u, hu) = spared_value known inside x l depth f.0 (each_left IsSpared (parts anywhere l depth x) (parts anywhere l depth y) s) k le in
        let (w, hw) = spared_value known inside y l depth f.1 (each_right IsSpared (parts anywhere l depth x) (parts anywhere l depth y) s) k le in
        (u *ᵛ w, (u, w, hu, hw, refl))
    spared_value known inside (div x y) l depth f s k le =
        let (u, hu) = spared_value known inside x l depth f.0 (each_left IsSpared (parts anywhere l depth x) (parts divides l depth y) s) k le in
        let (w, hw, nw) = spared_divisor known inside y l depth f.1 f.2 (each_right IsSpared (parts anywhere l depth x) (parts divides l depth y) s) k le in
        (u /ᵛ w, (u, w, hu, hw, nw, refl))
    spared_value known inside (power x zero) l depth f s k le = let (u, hu) = spared_value known inside x l depth f s k le in (pow (ValueR d) u zero, (u, hu, refl))
    spared_value known inside (power x (suc e)) l depth f s k le = let (u, hu) = spared_value known inside x l depth f s k le in (pow (ValueR d) u (suc e), (u, hu, refl))
    spared_value known inside (sum_from from body) l depth f s k le =
        folded_some ◌+ᵛ◌ zero_value (HasWorth letter body) from (spared_value known false body from (suc depth) f.2 s) (how_many from k)
    spared_value known inside (prod_from from body) l depth f s k le =
        folded_some ◌*ᵛ◌ one_value (HasWorth letter body) from (λ j h. forget body j (spared_body known body from (suc depth) f.2 s j h)) (how_many from k)

    pub spared_divisor : (known inside : Bool) (t : Tree) (l : ℤ) (depth : ℕ) → InForm known inside t → is_divisor_tree t ≡ true → Each IsSpared (parts divides l depth t) → (k : ℤ) → l ≤ℤ k → Apart t k
    spared_divisor known inside (numeral c) l depth f g s k le = own_apart (numeral c) l k divides depth tt le s.0 (whole_value d c, refl)
    spared_divisor known inside here l depth f g s k le = own_apart here l k divides depth tt le s.0 (whole_value d k, refl)
    spared_divisor known inside param l depth f g s k le = own_apart param l k divides depth tt le s.0 (letter, refl)
    spared_divisor known inside (add x y) l depth f g s k le =
        own_apart (add x y) l k divides depth (polynomial_plainly (add x y) g) le s.0 (added x y k (spared_value known inside x l depth f.0 (each_left IsSpared (parts anywhere l depth x) (parts anywhere l depth y) s.1) k le) (spared_value known inside y l depth f.1 (each_right IsSpared (parts anywhere l depth x) (parts anywhere l depth y) s.1) k le))
    spared_divisor known inside (neg x) l depth f g s k le =
        let (u, hu, nu) = spared_divisor known inside x l depth f g s k le in (neg_value u, (u, hu, refl), neg_ne u nu)
    spared_divisor known inside (mul x y) l depth f g s k le =
        let (gx, gy) = both_true (is_divisor_tree x) (is_divisor_tree y) g in
        let (u, hu, nu) = spared_divisor known inside x l depth f.0 gx (each_left IsSpared (parts divides l depth x) (parts divides l depth y) s) k le in
        let (w, hw, nw) = spared_divisor known inside y l depth f.1 gy (each_right IsSpared (parts divides l depth x) (parts divides l depth y) s) k le in
        (u *ᵛ w, (u, w, hu, hw, refl), mul_ne u w nu nw)
    spared_divisor known inside (div x y) l depth f g s k le = absurd (not_true g)
    spared_divisor known inside (power x zero) l depth f g s k le =
        let (u, hu) = spared_value known inside x l depth f s k le in (one_value, (u, hu, refl), value_one_ne d)
    spared_divisor known inside (power x (suc e)) l depth f g s k le =
        let (u, hu, nu) = spared_divisor known inside x l depth f g s k le in (pow (ValueR d) u (suc e), (u, hu, refl), pow_ne u (suc e) nu)
    spared_divisor known inside (sum_from from body) l depth f g s k le = absurd (not_true g)
    spared_divisor known inside (prod_from from body) l depth f g s k le =
        folded_apart (HasWorth letter body) from (spared_body known body from (suc depth) f.2 s) (how_many from k)

    pub spared_body : (known : Bool) (t : Tree) (l : ℤ) (depth : ℕ) → InForm known true t → Each IsSpared (parts is_body l depth t) → (k : ℤ) → l ≤ℤ k → Apart t k
    spared_body known (numeral c) l depth f s k le = own_apart (numeral c) l k is_body depth tt le s.0 (whole_value d c, refl)
    spared_body known here l depth f s k le = own_apart here l k is_body depth tt le s.0 (whole_value d k, refl)
    spared_body known param l depth f s k le = own_apart param l k is_body depth tt le s.0 (letter, refl)
    spared_body known (add x y) l depth f s k le =
        own_apart (add x y) l k is_body depth (body_plainly known (add x y) f) le s.0 (added x y k (spared_value known true x l depth f.0 (each_left IsSpared (parts anywhere l depth x) (parts anywhere l depth y) s.1) k le) (spared_value known true y l depth f.1 (each_right IsSpared (parts anywhere l depth x) (parts anywhere l depth y) s.1) k le))
    spared_body known (neg x) l depth f s k le = let (u, hu, nu) = spared_body known x l depth f s k le in (neg_value u, (u, hu, refl), neg_ne u nu)
    spared_body known (mul x y) l depth f s k le =
        let (u, hu, nu) = spared_body known x l depth f.0 (each_left IsSpared (parts is_body l depth x) (parts is_body l depth y) s) k le in
        let (w, hw, nw) = spared_body known y l depth f.1 (each_right IsSpared (parts is_body l depth x) (parts is_body l depth y) s) k le in
        (u *ᵛ w, (u, w, hu, hw, refl), mul_ne u w nu nw)
    spared_body known (div x y) l depth f s k le =
        let (u, hu, nu) = spared_body known x l depth f.0 (each_left IsSpared (parts is_body l depth x) (parts divides l depth y) s) k le in
        let (w, hw, nw) = spared_divisor known true y l depth f.1 f.2 (each_right IsSpared (parts is_body l depth x) (parts divides l depth y) s) k le in
        (u /ᵛ w, (u, w, hu, hw, nw, refl), λ z. nu (sym (value_product u w nw) ∙ ap (λ v. v *ᵛ w) z ∙ zero_mul_value w))
    spared_body known (power x zero) l depth f s k le =
        let (u, hu) = spared_value known true x l depth f s k le in (one_value, (u, hu, refl), value_one_ne d)
    spared_body known (power x (suc e)) l depth f s k le = let (u, hu, nu) = spared_body known x l depth f s k le in (pow (ValueR d) u (suc e), (u, hu, refl), pow_ne u (suc e) nu)
    spared_body known (sum_from from body) l depth f s k le = absurd (not_so f.0)
    spared_body known (prod_from from body) l depth f s k le = absurd (not_so f.0)
