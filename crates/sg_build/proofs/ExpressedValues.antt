-- The value of a canonical expression is that of the element.
--   powers-split          the powers of a term at a point: those of the sums, the last first, and those of the products
--   products-have         the factors above and below have these values of the products
--   expression-value      the tree has at each point of the products and sums the value of the element
use Rattle.std.proofs.Common.{◌≡◌, ℕ, zero, suc, ◌+◌, ℤ, pos, negsuc, unsigned_abs, refl, sym, ap, ap₂, ◌∙◌, subst, List, [], ◌∷◌, ◌++◌, length, map, reverse, take, drop, arith}
use Rattle.std.proofs.lemmas.List.{length-reverse, length-take, length-drop, reverse-append, reverse-reverse, take-append-drop, map-append}
use Rattle.sg_algebra.specs.Coefficients.{Each}
use Rattle.sg_algebra.proofs.Ring.{pow}
use Rattle.sg_algebra.proofs.Solver.{ring, by, scale, reads}
use Rattle.sg_algebra.proofs.Place.{Pairwise}
use Rattle.sg_algebra.proofs.Value.{Value, ◌+ᵛ◌, ◌*ᵛ◌, inv_value, zero_value, one_value}
use Rattle.sg_algebra.proofs.ValueField.{ValueR, ValueF, value_mul-inv}
use Rattle.sg_spec.specs.Tree.{Tree}
use Rattle.sg_spec.specs.Worth.{HasWorth}
use Rattle.sg_spec.specs.Canonical.{Plane, Written, raised_factor, upper_factor, lower_factor, factors}
use Rattle.sg_worth_theory.proofs.WrittenTerms.{IsProduct, IsInverse, product-append, factor-product}
use Rattle.sg_worth_theory.proofs.WrittenElements.{plane_value, powers_value, HasTerms, HasCoefficient, element-worth}
use Rattle.sg_tower_theory.proofs.Formal.{Formal, Element}
use Rattle.sg_tower_theory.proofs.Flat.{Term}
use Rattle.sg_value_theory.proofs.Elements.{Point, IsQuotientAt}
use Rattle.sg_value_theory.proofs.TreePoints.{AreValues, IsPointOf, Expresses}
use Rattle.sg_value_theory.proofs.LaurentValues.{unit_pow}
use Rattle.sg_value_theory.proofs.Inverses.{inverse-is}
use Rattle.sg_value_theory.proofs.FlatValues.{units_value, powers_at, HasFlat}
use Rattle.sg_value_theory.proofs.FlatTerms.{flat-value}
use Rattle.sg_value_theory.proofs.Lists.{values-parts}
use Rattle.sg_build.specs.Letters.{letter, LawsOfForms}
use Rattle.sg_build.specs.Expressions.{IsWrittenTerm, IsExpression}

-- the values of the sums, the last first
abbrev pub last_first : {d : ℕ} → ℕ → Point d → List (Value d)
last_first zero p = []
last_first (suc n) p = p.sums n ∷ last_first n p

pub map-reverse : {A B : Type 0} (f : A → B) (xs : List A) → map f (reverse xs) ≡ reverse (map f xs)
map-reverse f [] = refl
map-reverse f (x ∷ xs) = ap (map f) (reverse-append (x ∷ []) xs) ∙ map-append f (reverse xs) (x ∷ []) ∙ ap (λ l. l ++ (f x ∷ [])) (map-reverse f xs) ∙ sym (reverse-append (f x ∷ []) (map f xs))

module _ {d : ℕ} (letter : Value d) (k : ℤ) where
  -- ---- Powers

  powers-split : (n : ℕ) (p : Point d) (as' bs : List ℤ) → length as' ≡ n → powers_at n p (as' ++ bs) ≡ powers_value letter k (last_first n p) (map unsigned_abs as') *ᵛ units_value p.products (reverse bs)
  powers-split zero p [] bs h = ring (ValueR d) (units_value p.products (reverse bs) ∷ []) (search reads depth 16) refl
  powers-split zero p (a ∷ as') bs h = absurd (omega (arith, h))
  powers-split (suc n) p [] bs h = absurd (omega (arith, h))
  powers-split (suc n) p (a ∷ as') bs h =
      ap (λ e. pow (ValueR d) (p.sums n) (unsigned_abs a) *ᵛ e) (powers-split n p as' bs (omega (arith, h)))
      ∙ regrouped (pow (ValueR d) (p.sums n) (unsigned_abs a)) (powers_value letter k (last_first n p) (map unsigned_abs as')) (units_value p.products (reverse bs))
    where
      regrouped : (a b c : Value d) → a *ᵛ (b *ᵛ c) ≡ (a *ᵛ b) *ᵛ c
      regrouped a b c = ring (ValueR d) (a ∷ b ∷ c ∷ []) (search reads depth 16) refl

  -- of the exponents of r products and n sums
  powers-are : (r n : ℕ) (p : Point d) (es : List ℤ) → length es ≡ r + n
      → powers_at n p (reverse es) ≡ powers_value letter k (last_first n p) (reverse (map unsigned_abs (drop r es))) *ᵛ units_value p.products (take r es)
  powers-are r n p es h =
      ap (powers_at n p) (ap reverse (sym (take-append-drop r es)) ∙ reverse-append (take r es) (drop r es))
      ∙ powers-split n p (reverse (drop r es)) (reverse (take r es)) (length-reverse (drop r es) ∙ after)
      ∙ ap₂ (λ (l : List ℕ) (m : List ℤ). powers_value letter k (last_first n p) l *ᵛ units_value p.products m) (map-reverse unsigned_abs (drop r es)) (reverse-reverse (take r es))
    where
      after : length (drop r es) ≡ n
      after = let m = length-drop r es in omega (arith, h, m)

  -- ---- Products

  power-ne : (u : Value d) → ¬ (u ≡ zero_value) → (n : ℕ) → ¬ (pow (ValueR d) u n ≡ zero_value)
  power-ne u h n z =
      (ValueF d).one_ne (sym (unit_pow u (inv_value u) (value_mul-inv d u h) n) ∙ ap (λ e. e *ᵛ pow (ValueR d) (inv_value u) n) z ∙ ring (ValueR d) (pow (ValueR d) (inv_value u) n ∷ []) (search reads depth 16) refl)

  power-inverse : (u : Value d) → ¬ (u ≡ zero_value) → (n : ℕ) → pow (ValueR d) (inv_value u) n ≡ inv_value (pow (ValueR d) u n)
  power-inverse u h n =
      inverse-is (pow (ValueR d) u n) (pow (ValueR d) (inv_value u) n) (power-ne u h n) ((ValueR d).mul_comm ∙ unit_pow u (inv_value u) (value_mul-inv d u h) n)

  alone : (a : Value d) → a ≡ a *ᵛ one_value
  alone a = ring (ValueR d) (a ∷ []) (search reads depth 16) refl

  factor-inverse : (t : Tree) (e : ℕ) (u : Value d) → ¬ (u ≡ zero_value) → HasWorth letter t k u → IsInverse letter k (raised_factor t e) (pow (ValueR d) (inv_value u) e)
  factor-inverse t zero u n h = refl
  factor-inverse t (suc zero) u n h = (u, one_value, h, n, refl, ring (ValueR d) (inv_value u ∷ []) (search reads depth 16) refl)
  factor-inverse t (suc (suc e)) u n h =
      (pow (ValueR d) u (suc (suc e)), one_value, (u, h, refl), power-ne u n (suc (suc e)), refl, power-inverse u n (suc (suc e)) ∙ alone (inv_value (pow (ValueR d) u (suc (suc e)))))

  inverse-append : (us ts : List Tree) (v w : Value d) → IsInverse letter k us v → IsInverse letter k ts w → IsInverse letter k (us ++ ts) (v *ᵛ w)
  inverse-append [] ts v w h i = subst (IsInverse letter k ts) (by (ValueR d) (v ∷ w ∷ []) (scale (ValueR d) ((ValueR d).⊟ w) h) (search reads depth 16) refl) i
  inverse-append (u ∷ us) ts v w h i =
      (h.0, h.1 *ᵛ w, h.2, h.3, inverse-append us ts h.1 w h.4 i, by (ValueR d) (v ∷ w ∷ inv_value h.0 ∷ h.1 ∷ []) (scale (ValueR d) w h.5) (search reads depth 16) refl)

  -- the factors above and below
  pub record HasFactors (ps : List Tree) (es : List ℤ) (v : Value d) : Type 0 where
    pub up : Value d
    pub down : Value d
    pub uppers : IsProduct letter k (factors upper_factor ps es) up
    pub lowers : IsInverse letter k (factors lower_factor ps es) down
    pub value : v ≡ up *ᵛ down

  products-have : (ps : List Tree) (ts : ℕ → Value d) (es : List ℤ) → ((i : ℕ) → ¬ (ts i ≡ zero_value)) → AreValues letter k ps ts → length es ≡ length ps → HasFactors ps es (units_value ts es)
  products-have [] ts [] n h l = record { up = one_value; down = one_value; uppers = refl; lowers = refl; value = ring (ValueR d) [] (search reads depth 16) refl }
  products-have [] ts (e ∷ es) n h l = absurd (omega (arith, l))
  products-have (p ∷ ps) ts [] n h l = absurd (omega (arith, l))
  products-have (p ∷ ps) ts (pos e ∷ es) n h l =
      let r = products-have ps (λ i. ts (suc i)) es (λ i. n (suc i)) h.1 (omega (arith, l)) in
      record {
        up = pow (ValueR d) (ts 0) e *ᵛ r.up;
        down = r.down;
        uppers = product-append letter k (raised_factor p e) (factors upper_factor ps es) (pow (ValueR d) (ts 0) e) r.up (factor-product letter k p e (ts 0) h.0) r.uppers;
        lowers = r.lowers;
        value = ap (λ u. pow (ValueR d) (ts 0) e *ᵛ u) r.value ∙ first (pow (ValueR d) (ts 0) e) r.up r.down;
      }
    where
      first : (a u w : Value d) → a *ᵛ (u *ᵛ w) ≡ (a *ᵛ u) *ᵛ w
      first a u w = ring (ValueR d) (a ∷ u ∷ w ∷ []) (search reads depth 16) refl
  products-have (p ∷ ps) ts (negsuc e ∷ es) n h l =
      let r = products-have ps (λ i. ts (suc i)) es (λ i. n (suc i)) h.1 (omega (arith, l)) in
      record {
        up = r.up;
        down = pow (ValueR d) (inv_value (ts 0)) (suc e) *ᵛ r.down;
        uppers = r.uppers;
        lowers = inverse-append (raised_factor p (suc e)) (factors lower_factor ps es) (pow (ValueR d) (inv_value (ts 0)) (suc e)) r.down (factor-inverse p (suc e) (ts 0) (n 0) h.0) r.lowers;
        value = ap (λ u. pow (ValueR d) (inv_value (ts 0)) (suc e) *ᵛ u) r.value ∙ second (pow (ValueR d) (inv_value (ts 0)) (suc e)) r.up r.down;
      }
    where
      second : (a u w : Value d) → a *ᵛ (u *ᵛ w) ≡ u *ᵛ (a *ᵛ w)
      second a u w = ring (ValueR d) (a ∷ u ∷ w ∷ []) (search reads depth 16) refl

-- ---- Terms

module _ {d : ℕ} (W : Value (suc d) → Plane → Plane → Type 0) (laws : LawsOfForms d W) (f : Formal d) (p : Point d) (ps : List Tree) (sized : length ps ≡ length f.products) (have : AreValues (letter d) p.variable ps p.products) where
  abbrev K : ℤ
  K = p.variable

  coefficient-has : (t : Term d) (u : Written) (c : Value d) → length t.exponents ≡ length f.products + f.sums → IsWrittenTerm W (length f.products) t u → IsQuotientAt K t.coefficient c
      → HasCoefficient (letter d) K ps u (c *ᵛ units_value p.products (take (length f.products) t.exponents))
  coefficient-has t u c l h i =
      let q = laws.value t.coefficient u.upper u.lower K c h.coefficient i in
      let r = products-have (letter d) K ps p.products (take (length f.products) t.exponents) p.nonzero have before in
      record {
        up = r.up;
        down = r.down;
        uppers = subst (λ (es : List ℤ). IsProduct (letter d) K (factors upper_factor ps es) r.up) (sym h.exponents) r.uppers;
        lowers = subst (λ (es : List ℤ). IsInverse (letter d) K (factors lower_factor ps es) r.down) (sym h.exponents) r.lowers;
        defined = q.0;
        value = ap₂ ◌*ᵛ◌ q.1 r.value ∙ crossed (plane_value (letter d) K u.upper) (inv_value (plane_value (letter d) K u.lower)) r.up r.down;
      }
    where
      before : length (take (length f.products) t.exponents) ≡ length ps
      before = let m = length-take (length f.products) t.exponents in omega (arith, l, m, sized)

      crossed : (a b u w : Value d) → (a *ᵛ b) *ᵛ (u *ᵛ w) ≡ (a *ᵛ u) *ᵛ (b *ᵛ w)
      crossed a b u w = ring (ValueR d) (a ∷ b ∷ u ∷ w ∷ []) (search reads depth 16) refl

  terms-have : (ts : List (Term d)) (us : List Written) (v : Value d) → Each (λ t. length t.exponents ≡ length f.products + f.sums) ts → Pairwise (IsWrittenTerm W (length f.products)) ts us → HasFlat f.products f.sums p ts v
      → HasTerms (letter d) K ps (last_first f.sums p) us v
  terms-have [] [] v l w h = h
  terms-have [] (u ∷ us) v l w h = absurd w
  terms-have (t ∷ ts) [] v l w h = absurd w
  terms-have (t ∷ ts) (u ∷ us) v l w h = (
    h.0 *ᵛ units_value p.products (take (length f.products) t.exponents),
    h.1,
    coefficient-has t u h.0 l.0 w.0 h.2,
    terms-have ts us h.1 l.1 w.1 h.3,
    h.4
        ∙ ap (λ e. h.0 *ᵛ e +ᵛ h.1) (powers-are (letter d) K (length f.products) f.sums p t.exponents l.0 ∙ ap (λ (l : List ℕ). powers_value (letter d) K (last_first f.sums p) l *ᵛ units_value p.products (take (length f.products) t.exponents)) (sym w.0.powers))
        ∙ turned h.0 (powers_value (letter d) K (last_first f.sums p) u.powers) (units_value p.products (take (length f.products) t.exponents)) h.1,
  )
    where
      turned : (c a b w : Value d) → c *ᵛ (a *ᵛ b) +ᵛ w ≡ (c *ᵛ b) *ᵛ a +ᵛ w
      turned c a b w = ring (ValueR d) (c ∷ a ∷ b ∷ w ∷ []) (search reads depth 16) refl

-- ---- The tree

module _ {d : ℕ} (letter : Value d) (p : Point d) where
  reversed-worth : (rs : List Tree) → AreValues letter p.variable (reverse rs) p.sums → Pairwise (λ s u. HasWorth letter s p.variable u) rs (last_first (length rs) p)
  reversed-worth [] h = tt
  reversed-worth (s ∷ rs) h =
      let r = values-parts letter p.variable (reverse rs) s p.sums (subst (λ (l : List Tree). AreValues letter p.variable l p.sums) (reverse-append (s ∷ []) rs) h) in
      (subst (λ (n : ℕ). HasWorth letter s p.variable (p.sums n)) (length-reverse rs) r.1, reversed-worth rs r.0)

  sums-worth : (ss : List Tree) → AreValues letter p.variable ss p.sums → Pairwise (λ s u. HasWorth letter s p.variable u) (reverse ss) (last_first (length ss) p)
  sums-worth ss h =
      subst (λ (n : ℕ). Pairwise (λ s u. HasWorth letter s p.variable u) (reverse ss) (last_first n p)) (length-reverse ss)
      (reversed-worth (reverse ss) (subst (λ (l : List Tree). AreValues letter p.variable l p.sums) (sym (reverse-reverse ss)) h))

module _ {d : ℕ} (W : Value (suc d) → Plane → Plane → Type 0) (laws : LawsOfForms d W) (f : Formal d) (x : Element f) (ps ss : List Tree) (t : Tree) (e : IsExpression W f x ps ss t) where
  pub expression-value : length ps ≡ length f.products → length ss ≡ f.sums → (p : Point d) → IsPointOf (letter d) ps ss p → Expresses (letter d) f p x t
  expression-value l m p at v has =
      subst (λ (u : Tree). HasWorth (letter d) u p.variable v) (sym e.form)
      (element-worth (letter d) p.variable ps ss (last_first f.sums p) e.written v
      (subst (λ (n : ℕ). Pairwise (λ s u. HasWorth (letter d) s p.variable u) (reverse ss) (last_first n p)) m (sums-worth (letter d) p ss at.1))
      (terms-have W laws f p ps l at.0 e.terms e.written v e.flat.sized e.each (flat-value f p x e.terms v e.flat has)))
