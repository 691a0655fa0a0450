-- The values of the trees of terms, at one place.
--   IsProduct us v, IsInverse ls v     v is the product of the values of the factors us; of the inverses of those of ls, none of which is 0
--   HasSigned s v, HasAll ss v         a signed term has the value v; the terms have together
--   times_all-worth, over_all-worth, above-worth, written-worth, total-worth     the trees have these values
--   signed-turned, all-turned          the opposite
--   raised-has                         times a power of a sum
use Rattle.std.proofs.Common.{◌≡◌, ℕ, zero, suc, ℤ, pos, negsuc, Bool, true, false, not, cond, refl, sym, ap, ◌∙◌, subst, List, [], ◌∷◌, ◌++◌, map}
use Rattle.std.proofs.lemmas.Bool.{eqb-true, false≢true}
use Rattle.sg_algebra.proofs.Ring.{pow}
use Rattle.sg_algebra.proofs.Solver.{ring, by, scale, reads}
use Rattle.sg_algebra.proofs.Value.{Value, ◌+ᵛ◌, ◌*ᵛ◌, neg_value, inv_value, zero_value, one_value}
use Rattle.sg_algebra.proofs.ValueField.{ValueR}
use Rattle.sg_spec.specs.Tree.{Tree, numeral, here, param, add, neg, mul, div, power, sum_from, prod_from}
use Rattle.sg_spec.specs.Generators.{same_tree}
use Rattle.sg_spec.specs.Worth.{HasWorth}
use Rattle.sg_spec.specs.Canonical.{Signed, times_all, over_all, above, unsigned_tree, with_sign, signed_tree, added, total_tree, turned, raised_factor, with_upper, grouped, raised}

pub tree_one : (n : Tree) → same_tree n (numeral (pos 1)) ≡ true → n ≡ numeral (pos 1)
tree_one (numeral (pos c)) e = ap (λ (m : ℕ). numeral (pos m)) (eqb-true c 1 e)
tree_one (numeral (negsuc c)) e = absurd (false≢true e)
tree_one here e = absurd (false≢true e)
tree_one param e = absurd (false≢true e)
tree_one (add x y) e = absurd (false≢true e)
tree_one (neg x) e = absurd (false≢true e)
tree_one (mul x y) e = absurd (false≢true e)
tree_one (div x y) e = absurd (false≢true e)
tree_one (power x n) e = absurd (false≢true e)
tree_one (sum_from a x) e = absurd (false≢true e)
tree_one (prod_from a x) e = absurd (false≢true e)

module _ {d : ℕ} (letter : Value d) (k : ℤ) where
  abbrev W : Tree → Value d → Type 0
  W t v = HasWorth letter t k v

  worth_is : (t : Tree) (v w : Value d) → v ≡ w → W t w → W t v
  worth_is t v w e h = subst (W t) (sym e) h

  abbrev pub IsProduct : List Tree → Value d → Type 0
  IsProduct [] v = v ≡ one_value
  IsProduct (t ∷ ts) v = (u : Value d) × (w : Value d) × W t u × IsProduct ts w × (v ≡ u *ᵛ w)

  abbrev pub IsInverse : List Tree → Value d → Type 0
  IsInverse [] v = v ≡ one_value
  IsInverse (t ∷ ts) v = (u : Value d) × (w : Value d) × W t u × ¬ (u ≡ zero_value) × IsInverse ts w × (v ≡ inv_value u *ᵛ w)

  one-right : (u v w : Value d) → w ≡ one_value → v ≡ u *ᵛ w → v ≡ u
  one-right u v w h e = by (ValueR d) (u ∷ v ∷ w ∷ []) ((ValueR d).add_cong e (scale (ValueR d) u h)) (search reads depth 16) refl

  regroup : (u v w t p : Value d) → p ≡ v *ᵛ w → t ≡ (u *ᵛ v) *ᵛ w → u *ᵛ p ≡ t
  regroup u v w t p h e = by (ValueR d) (u ∷ v ∷ w ∷ t ∷ p ∷ []) ((ValueR d).add_cong (scale (ValueR d) u h) (scale (ValueR d) (neg_value one_value) e)) (search reads depth 16) refl

  pub times_all-worth : (t : Tree) (ts : List Tree) (u w : Value d) → W t u → IsProduct ts w → W (times_all t ts) (u *ᵛ w)
  times_all-worth t [] u w h p = worth_is t (u *ᵛ w) u (one-right u (u *ᵛ w) w p refl) h
  times_all-worth t (s ∷ ts) u w h p =
      worth_is (times_all (mul t s) ts) (u *ᵛ w) ((u *ᵛ p.0) *ᵛ p.1) (regroup u p.0 p.1 ((u *ᵛ p.0) *ᵛ p.1) w p.4 refl)
      (times_all-worth (mul t s) ts (u *ᵛ p.0) p.1 (u, p.0, h, p.2, refl) p.3)

  pub over_all-worth : (t : Tree) (ts : List Tree) (u w : Value d) → W t u → IsInverse ts w → W (over_all t ts) (u *ᵛ w)
  over_all-worth t [] u w h p = worth_is t (u *ᵛ w) u (one-right u (u *ᵛ w) w p refl) h
  over_all-worth t (s ∷ ts) u w h p =
      worth_is (over_all (div t s) ts) (u *ᵛ w) ((u *ᵛ inv_value p.0) *ᵛ p.1) (regroup u (inv_value p.0) p.1 ((u *ᵛ inv_value p.0) *ᵛ p.1) w p.5 refl)
      (over_all-worth (div t s) ts (u *ᵛ inv_value p.0) p.1 (u, p.0, h, p.2, p.3, refl) p.4)

  one-left : (a b u w : Value d) → a ≡ one_value → b ≡ u *ᵛ w → a *ᵛ b ≡ u *ᵛ w
  one-left a b u w h e = by (ValueR d) (a ∷ b ∷ u ∷ w ∷ []) ((ValueR d).add_cong (scale (ValueR d) b h) e) (search reads depth 16) refl

  one_is : (a : Value d) → W (numeral (pos 1)) a → a ≡ one_value
  one_is a h = h ∙ ring (ValueR d) [] (search reads depth 16) refl

  pub above-worth : (n : Tree) (us : List Tree) (a b : Value d) → W n a → IsProduct us b → W (above n us) (a *ᵛ b)
  above-worth n [] a b h p = worth_is n (a *ᵛ b) a (one-right a (a *ᵛ b) b p refl) h
  above-worth n (u ∷ us) a b h p = cases (same_tree n (numeral (pos 1))) refl
    where
      cases : (c : Bool) → same_tree n (numeral (pos 1)) ≡ c → W (cond c (times_all u us) (times_all n (u ∷ us))) (a *ᵛ b)
      cases true e =
          worth_is (times_all u us) (a *ᵛ b) (p.0 *ᵛ p.1) (one-left a b p.0 p.1 (one_is a (subst (λ (t : Tree). W t a) (tree_one n e) h)) p.4)
          (times_all-worth u us p.0 p.1 p.2 p.3)
      cases false e = times_all-worth n (u ∷ us) a b h p

  pub record HasSigned (s : Signed) (v : Value d) : Type 0 where
    pub top : Value d
    pub up : Value d
    pub down : Value d
    pub numerator : W s.numerator top
    pub uppers : IsProduct s.uppers up
    pub lowers : IsInverse s.lowers down
    pub value : v ≡ cond s.minus (neg_value ((top *ᵛ up) *ᵛ down)) ((top *ᵛ up) *ᵛ down)

  pub written-worth : (s : Signed) (v : Value d) → HasSigned s v → W (signed_tree s) v
  written-worth s v h = cases s.minus h.value
    where
      plain : W (unsigned_tree s) ((h.top *ᵛ h.up) *ᵛ h.down)
      plain = over_all-worth (above s.numerator s.uppers) s.lowers (h.top *ᵛ h.up) h.down (above-worth s.numerator s.uppers h.top h.up h.numerator h.uppers) h.lowers

      cases : (m : Bool) → v ≡ cond m (neg_value ((h.top *ᵛ h.up) *ᵛ h.down)) ((h.top *ᵛ h.up) *ᵛ h.down) → W (with_sign m (unsigned_tree s)) v
      cases true e = ((h.top *ᵛ h.up) *ᵛ h.down, plain, e)
      cases false e = worth_is (unsigned_tree s) v ((h.top *ᵛ h.up) *ᵛ h.down) e plain

  abbrev pub HasAll : List Signed → Value d → Type 0
  HasAll [] v = v ≡ zero_value
  HasAll (s ∷ ss) v = (u : Value d) × (w : Value d) × HasSigned s u × HasAll ss w × (v ≡ u +ᵛ w)

  added-worth : (t : Tree) (ss : List Signed) (u w : Value d) → W t u → HasAll ss w → W (added t ss) (u +ᵛ w)
  added-worth t [] u w h p = worth_is t (u +ᵛ w) u (by (ValueR d) (u ∷ w ∷ []) p (search reads depth 16) refl) h
  added-worth t (s ∷ ss) u w h p =
      worth_is (added (add t (signed_tree s)) ss) (u +ᵛ w) ((u +ᵛ p.0) +ᵛ p.1) (by (ValueR d) (u ∷ w ∷ p.0 ∷ p.1 ∷ []) p.4 (search reads depth 16) refl)
      (added-worth (add t (signed_tree s)) ss (u +ᵛ p.0) p.1 (u, p.0, h, written-worth s p.0 p.2, refl) p.3)

  pub total-worth : (ss : List Signed) (v : Value d) → HasAll ss v → W (total_tree ss) v
  total-worth [] v h = h ∙ ring (ValueR d) [] (search reads depth 16) refl
  total-worth (s ∷ ss) v h = worth_is (added (signed_tree s) ss) v (h.0 +ᵛ h.1) h.4 (added-worth (signed_tree s) ss h.0 h.1 (written-worth s h.0 h.2) h.3)

  -- ---- Opposites

  pub signed-turned : (s : Signed) (v : Value d) → HasSigned s v → HasSigned (turned s) (neg_value v)
  signed-turned s v h = record { top = h.top; up = h.up; down = h.down; numerator = h.numerator; uppers = h.uppers; lowers = h.lowers; value = cases s.minus h.value }
    where
      cases : (m : Bool) → v ≡ cond m (neg_value ((h.top *ᵛ h.up) *ᵛ h.down)) ((h.top *ᵛ h.up) *ᵛ h.down) → neg_value v ≡ cond (not m) (neg_value ((h.top *ᵛ h.up) *ᵛ h.down)) ((h.top *ᵛ h.up) *ᵛ h.down)
      cases true e = by (ValueR d) (v ∷ h.top ∷ h.up ∷ h.down ∷ []) (scale (ValueR d) (neg_value one_value) e) (search reads depth 16) refl
      cases false e = ap neg_value e

  pub all-turned : (ss : List Signed) (v : Value d) → HasAll ss v → HasAll (map turned ss) (neg_value v)
  all-turned [] v h = by (ValueR d) (v ∷ []) (scale (ValueR d) (neg_value one_value) h) (search reads depth 16) refl
  all-turned (s ∷ ss) v h =
      (neg_value h.0, neg_value h.1, signed-turned s h.0 h.2, all-turned ss h.1 h.3, by (ValueR d) (v ∷ h.0 ∷ h.1 ∷ []) (scale (ValueR d) (neg_value one_value) h.4) (search reads depth 16) refl)

  pub all-append : (ss rs : List Signed) (v w : Value d) → HasAll ss v → HasAll rs w → HasAll (ss ++ rs) (v +ᵛ w)
  all-append [] rs v w h i = subst (HasAll rs) (by (ValueR d) (v ∷ w ∷ []) (scale (ValueR d) (neg_value one_value) h) (search reads depth 16) refl) i
  all-append (s ∷ ss) rs v w h i = (h.0, h.1 +ᵛ w, h.2, all-append ss rs h.1 w h.3 i, by (ValueR d) (v ∷ w ∷ h.0 ∷ h.1 ∷ []) h.4 (search reads depth 16) refl)

  pub product-append : (us ts : List Tree) (v w : Value d) → IsProduct us v → IsProduct ts w → IsProduct (us ++ ts) (v *ᵛ w)
  product-append [] ts v w h i = subst (IsProduct ts) (by (ValueR d) (v ∷ w ∷ []) (scale (ValueR d) (neg_value w) h) (search reads depth 16) refl) i
  product-append (u ∷ us) ts v w h i = (h.0, h.1 *ᵛ w, h.2, product-append us ts h.1 w h.3 i, by (ValueR d) (v ∷ w ∷ h.0 ∷ h.1 ∷ []) (scale (ValueR d) w h.4) (search reads depth 16) refl)

  -- ---- Powers of sums

  pub factor-product : (t : Tree) (e : ℕ) (u : Value d) → W t u → IsProduct (raised_factor t e) (pow (ValueR d) u e)
  factor-product t zero u h = refl
  factor-product t (suc zero) u h = (u, one_value, h, refl, ring (ValueR d) (u ∷ []) (search reads depth 16) refl)
  factor-product t (suc (suc e)) u h = (pow (ValueR d) u (suc (suc e)), one_value, (u, h, refl), refl, ring (ValueR d) (pow (ValueR d) u (suc (suc e)) ∷ []) (search reads depth 16) refl)

  times-value : (m : Bool) (v a b c p : Value d) → v ≡ cond m (neg_value ((a *ᵛ b) *ᵛ c)) ((a *ᵛ b) *ᵛ c) → v *ᵛ p ≡ cond m (neg_value ((a *ᵛ (b *ᵛ p)) *ᵛ c)) ((a *ᵛ (b *ᵛ p)) *ᵛ c)
  times-value true v a b c p e = by (ValueR d) (v ∷ a ∷ b ∷ c ∷ p ∷ []) (scale (ValueR d) p e) (search reads depth 16) refl
  times-value false v a b c p e = by (ValueR d) (v ∷ a ∷ b ∷ c ∷ p ∷ []) (scale (ValueR d) p e) (search reads depth 16) refl

  with_upper-has : (s : Signed) (us : List Tree) (v p : Value d) → HasSigned s v → IsProduct us p → HasSigned (with_upper s us) (v *ᵛ p)
  with_upper-has s us v p h i = record {
    top = h.top;
    up = h.up *ᵛ p;
    down = h.down;
    numerator = h.numerator;
    uppers = product-append s.uppers us h.up p h.uppers i;
    lowers = h.lowers;
    value = times-value s.minus v h.top h.up h.down p h.value;
  }

  grouped-has : (m : Bool) (ss : List Signed) (us : List Tree) (v p : Value d) → HasAll ss v → IsProduct us p → HasSigned (grouped m ss us) (v *ᵛ p)
  grouped-has true ss us v p h i = record {
    top = one_value;
    up = neg_value v *ᵛ p;
    down = one_value;
    numerator = ring (ValueR d) [] (search reads depth 16) refl;
    uppers = (neg_value v, p, total-worth (map turned ss) (neg_value v) (all-turned ss v h), i, refl);
    lowers = refl;
    value = ring (ValueR d) (v ∷ p ∷ []) (search reads depth 16) refl;
  }
  grouped-has false ss us v p h i = record {
    top = one_value;
    up = v *ᵛ p;
    down = one_value;
    numerator = ring (ValueR d) [] (search reads depth 16) refl;
    uppers = (v, p, total-worth ss v h, i, refl);
    lowers = refl;
    value = ring (ValueR d) (v ∷ p ∷ []) (search reads depth 16) refl;
  }

  alone : (s : Signed) (v : Value d) → HasSigned s v → HasAll (s ∷ []) v
  alone s v h = (v, zero_value, h, refl, ring (ValueR d) (v ∷ []) (search reads depth 16) refl)

  pub raised-has : (t : Tree) (e : ℕ) (ss : List Signed) (u v : Value d) → W t u → HasAll ss v → HasAll (raised t e ss) (v *ᵛ pow (ValueR d) u e)
  raised-has t zero ss u v h i = subst (HasAll ss) (ring (ValueR d) (v ∷ []) (search reads depth 16) refl) i
  raised-has t (suc e) [] u v h i = by (ValueR d) (v ∷ pow (ValueR d) u (suc e) ∷ []) (scale (ValueR d) (pow (ValueR d) u (suc e)) i) (search reads depth 16) refl
  raised-has t (suc e) (s ∷ []) u v h i =
      let one : v ≡ i.0 = by (ValueR d) (v ∷ i.0 ∷ i.1 ∷ []) ((ValueR d).add_cong i.4 i.3) (search reads depth 16) refl in
      alone (with_upper s (raised_factor t (suc e))) (v *ᵛ pow (ValueR d) u (suc e))
      (with_upper-has s (raised_factor t (suc e)) v (pow (ValueR d) u (suc e)) (subst (HasSigned s) (sym one) i.2) (factor-product t (suc e) u h))
  raised-has t (suc e) (s ∷ (r ∷ ss)) u v h i =
      alone (grouped s.minus (s ∷ (r ∷ ss)) (raised_factor t (suc e))) (v *ᵛ pow (ValueR d) u (suc e))
      (grouped-has s.minus (s ∷ (r ∷ ss)) (raised_factor t (suc e)) v (pow (ValueR d) u (suc e)) i (factor-product t (suc e) u h))
