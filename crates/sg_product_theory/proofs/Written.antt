-- Products of powers of products, as they are written.
--   power_product-worth       the value of such a product
--   related                   where a relation of the factors holds, a constant times r has from s on the value of the product of the
--                             powers
use Rattle.std.proofs.Common.{◌≡◌, ℕ, zero, suc, ℤ, pos, negsuc, ◌+ℤ◌, ◌≤ℤ◌, refl, sym, ap, ap₂, ◌∙◌, subst, List, [], ◌∷◌, ◌++◌, length, arith}
use Rattle.std.proofs.lemmas.Int.{ints}
use Rattle.sg_algebra.specs.Coefficients.{Each}
use Rattle.sg_algebra.proofs.Ring.{pow}
use Rattle.sg_algebra.proofs.Solver.{ring, by, scale, reads}
use Rattle.sg_algebra.proofs.Value.{Value, ◌+ᵛ◌, ◌*ᵛ◌, inv_value, zero_value, one_value}
use Rattle.sg_algebra.proofs.ValueField.{ValueR, ValueF, value_mul-inv, value_one_ne}
use Rattle.sg_algebra.proofs.Rational.{whole_value}
use Rattle.sg_spec.specs.Tree.{Tree}
use Rattle.sg_spec.specs.Worth.{HasWorth}
use Rattle.sg_spec.specs.Canonical.{raised_factor, upper_factor, lower_factor, factors}
use Rattle.sg_spec.proofs.Totals.{from_on}
use Rattle.sg_worth_theory.proofs.Worths.{worth_unique}
use Rattle.sg_worth_theory.proofs.WrittenTerms.{IsProduct, IsInverse, product-append, factor-product}
use Rattle.sg_worth_theory.proofs.WrittenElements.{plane_value, element-worth}
use Rattle.sg_tower_theory.specs.Powers.{powers}
use Rattle.sg_value_theory.proofs.Elements.{IsQuotientAt}
use Rattle.sg_value_theory.proofs.Quotients.{quotients}
use Rattle.sg_value_theory.proofs.TreePoints.{AreValues}
use Rattle.sg_value_theory.proofs.PointsOf.{HasUnits, point_at, is-point}
use Rattle.sg_value_theory.proofs.FlatValues.{units_value}
use Rattle.sg_product_theory.specs.PowerProducts.{one_plane, power_product}
use Rattle.sg_product_theory.proofs.Growth.{Grows}
use Rattle.sg_product_theory.proofs.Ratios.{ratio_values}
use Rattle.sg_relations_theory.specs.Relations.{IsRatio}
use Rattle.sg_answers_theory.proofs.InverseValues.{pow_ne, inverse_one, inverse_pow}
use Rattle.sg_answers_theory.proofs.Relating.{AreProducts}
use Rattle.sg_product_theory.proofs.Factors.{grows, factors-many}

module _ {d : ℕ} (letter : Value d) (k : ℤ) where
  alone : (a : Value d) → a ≡ a *ᵛ one_value
  alone a = ring (ValueR d) (a ∷ []) (search reads depth 16) refl

  factor-inverse : (t : Tree) (e : ℕ) (u : Value d) → ¬ (u ≡ zero_value) → HasWorth letter t k u
      → IsInverse letter k (raised_factor t e) (pow (ValueR d) (inv_value u) e)
  factor-inverse t zero u n h = refl
  factor-inverse t (suc zero) u n h = (u, one_value, h, n, refl, ring (ValueR d) (inv_value u ∷ []) (search reads depth 16) refl)
  factor-inverse t (suc (suc e)) u n h =
      (pow (ValueR d) u (suc (suc e)), one_value, (u, h, refl), pow_ne u (suc (suc e)) n, refl, sym (inverse_pow u (suc (suc e)) n) ∙ alone (inv_value (pow (ValueR d) u (suc (suc e)))))

  inverse-append : (us ts : List Tree) (v w : Value d) → IsInverse letter k us v → IsInverse letter k ts w → IsInverse letter k (us ++ ts) (v *ᵛ w)
  inverse-append [] ts v w h i = subst (IsInverse letter k ts) (by (ValueR d) (v ∷ w ∷ []) (scale (ValueR d) ((ValueR d).⊟ w) h) (search reads depth 16) refl) i
  inverse-append (u ∷ us) ts v w h i =
      (h.0, h.1 *ᵛ w, h.2, h.3, inverse-append us ts h.1 w h.4 i, by (ValueR d) (v ∷ w ∷ inv_value h.0 ∷ h.1 ∷ []) (scale (ValueR d) w h.5) (search reads depth 16) refl)

  record HasPowers (ps : List Tree) (es : List ℤ) (v : Value d) : Type 0 where
    pub up : Value d
    pub down : Value d
    pub uppers : IsProduct letter k (factors upper_factor ps es) up
    pub lowers : IsInverse letter k (factors lower_factor ps es) down
    pub value : v ≡ up *ᵛ down

  have-powers : (ps : List Tree) (ts : ℕ → Value d) (es : List ℤ) → ((i : ℕ) → ¬ (ts i ≡ zero_value)) → AreValues letter k ps ts → length es ≡ length ps
      → HasPowers ps es (units_value ts es)
  have-powers [] ts [] n h l = record { up = one_value; down = one_value; uppers = refl; lowers = refl; value = ring (ValueR d) [] (search reads depth 16) refl }
  have-powers [] ts (e ∷ es) n h l = absurd (omega (arith, l))
  have-powers (p ∷ ps) ts [] n h l = absurd (omega (arith, l))
  have-powers (p ∷ ps) ts (pos e ∷ es) n h l =
      let r = have-powers ps (λ i. ts (suc i)) es (λ i. n (suc i)) h.1 (omega (arith, l)) in
      record {
        up = pow (ValueR d) (ts 0) e *ᵛ r.up;
        down = r.down;
        uppers = product-append letter k (raised_factor p e) (factors upper_factor ps es) (pow (ValueR d) (ts 0) e) r.up (factor-product letter k p e (ts 0) h.0) r.uppers;
        lowers = r.lowers;
        value = ap (λ u. pow (ValueR d) (ts 0) e *ᵛ u) r.value ∙ first (pow (ValueR d) (ts 0) e) r.up r.down;
      }
    where
      first : (a u w : Value d) → a *ᵛ (u *ᵛ w) ≡ (a *ᵛ u) *ᵛ w
      first a u w = ring (ValueR d) (a ∷ u ∷ w ∷ []) (search reads depth 16) refl
  have-powers (p ∷ ps) ts (negsuc e ∷ es) n h l =
      let r = have-powers ps (λ i. ts (suc i)) es (λ i. n (suc i)) h.1 (omega (arith, l)) in
      record {
        up = r.up;
        down = pow (ValueR d) (inv_value (ts 0)) (suc e) *ᵛ r.down;
        uppers = r.uppers;
        lowers = inverse-append (raised_factor p (suc e)) (factors lower_factor ps es) (pow (ValueR d) (inv_value (ts 0)) (suc e)) r.down (factor-inverse p (suc e) (ts 0) (n 0) h.0) r.lowers;
        value = ap (λ u. pow (ValueR d) (inv_value (ts 0)) (suc e) *ᵛ u) r.value ∙ second (pow (ValueR d) (inv_value (ts 0)) (suc e)) r.up r.down;
      }
    where
      second : (a u w : Value d) → a *ᵛ (u *ᵛ w) ≡ u *ᵛ (a *ᵛ w)
      second a u w = ring (ValueR d) (a ∷ u ∷ w ∷ []) (search reads depth 16) refl

  one-plane : plane_value letter k one_plane ≡ one_value
  one-plane = one-of (whole_value d (pos 1)) (ring (ValueR d) [] (search reads depth 12) refl)
    where
      one-of : (w : Value d) → w ≡ one_value → (w *ᵛ one_value +ᵛ zero_value) *ᵛ one_value +ᵛ zero_value ≡ one_value
      one-of w e = by (ValueR d) (w ∷ []) e (search reads depth 16) refl

  pub power_product-worth : (ps : List Tree) (ts : ℕ → Value d) (es : List ℤ) → ((i : ℕ) → ¬ (ts i ≡ zero_value)) → AreValues letter k ps ts
      → length es ≡ length ps → HasWorth letter (power_product ps es) k (units_value ts es)
  power_product-worth ps ts es n h l =
      let r = have-powers ps ts es n h l in
      element-worth letter k ps [] [] (record { powers = []; exponents = es; upper = one_plane; lower = one_plane } ∷ []) (units_value ts es) tt (
        units_value ts es,
        zero_value,
        record {
          up = r.up;
          down = r.down;
          uppers = r.uppers;
          lowers = r.lowers;
          defined = λ z. value_one_ne d (sym one-plane ∙ z);
          value = r.value ∙ turned (plane_value letter k one_plane) (inv_value (plane_value letter k one_plane)) r.up r.down one-plane (ap inv_value one-plane ∙ inverse_one);
        },
        refl,
        ring (ValueR d) (units_value ts es ∷ []) (search reads depth 16) refl,
      )
    where
      turned : (a b u w : Value d) → a ≡ one_value → b ≡ one_value → u *ᵛ w ≡ (a *ᵛ u) *ᵛ (b *ᵛ w)
      turned a b u w h k = sym (ap₂ (λ (x y : Value d). (x *ᵛ u) *ᵛ (y *ᵛ w)) h k ∙ ring (ValueR d) (u ∷ w ∷ []) (search reads depth 16) refl)

-- ---- A relation in values

module _ {d : ℕ} (letter : Value d) (s : ℤ) (gs : List Tree) (αs : List (Value (suc d))) (fs : AreProducts letter s gs αs) (units : Each (HasUnits letter) gs)
    (es : List ℤ) (sized : length es ≡ length αs) (r : Value (suc d)) (ratio : IsRatio (powers (ValueF (suc d)) αs es) r) where
  abbrev X : ℕ → ℕ → Value d
  X j = (point_at letter gs units [] tt (s +ℤ pos j)).products

  X-values : (j : ℕ) → AreValues letter (s +ℤ pos j) gs (X j)
  X-values j = (is-point letter gs units [] tt (s +ℤ pos j)).0

  X-ne : (j i : ℕ) → ¬ (X j i ≡ zero_value)
  X-ne j = (point_at letter gs units [] tt (s +ℤ pos j)).nonzero

  next : (j : ℕ) → s +ℤ pos (suc j) ≡ (s +ℤ pos j) +ℤ pos 1
  next j = omega (arith, ints)

  runs : (j : ℕ) → Grows αs (s +ℤ pos j) (X j) (X (suc j))
  runs j = grows letter s gs αs fs (s +ℤ pos j) (omega (arith, ints)) (X j) (X (suc j)) (X-ne j) (X-values j) (subst (λ (k : ℤ). AreValues letter k gs (X (suc j))) (next j) (X-values (suc j)))

  law : (j : ℕ)
      → (v₀ w : Value d) × IsQuotientAt (s +ℤ pos 0) r v₀ × IsQuotientAt (s +ℤ pos j) r w × ¬ (v₀ ≡ zero_value) × ¬ (w ≡ zero_value) × (units_value (X j) es *ᵛ v₀ ≡ units_value (X 0) es *ᵛ w)
  law = ratio_values s αs X runs es sized r ratio

  first-place : s +ℤ pos 0 ≡ s
  first-place = omega (arith, ints)

  -- at the start the power product has the value u₀, and r the value v₀
  pub related : (u₀ v₀ c : Value d) → HasWorth letter (power_product gs es) s u₀ → IsQuotientAt s r v₀ → c *ᵛ v₀ ≡ u₀ → (k : ℤ) → s ≤ℤ k
      → (u w : Value d) × HasWorth letter (power_product gs es) k u × IsQuotientAt k r w × (u ≡ c *ᵛ w)
  related u₀ v₀ c first found constant k l =
      let j = from_on s k l in
      let m = law j.0 in
      let z : length es ≡ length gs = sized ∙ sym (factors-many letter s gs αs fs) in
      let e₀ : u₀ ≡ units_value (X 0) es =
      worth_unique letter (power_product gs es) s u₀ (units_value (X 0) es) first
      (subst (λ (y : ℤ). HasWorth letter (power_product gs es) y (units_value (X 0) es)) first-place (power_product-worth letter (s +ℤ pos 0) gs (X 0) es (X-ne 0) (X-values 0) z)) in
      let f₀ : v₀ ≡ m.0 = (quotients d s).unique r v₀ m.0 found (subst (λ (y : ℤ). IsQuotientAt y r m.0) first-place m.2) in (
        units_value (X j.0) es,
        m.1,
        subst (λ (y : ℤ). HasWorth letter (power_product gs es) y (units_value (X j.0) es)) (sym j.1) (power_product-worth letter (s +ℤ pos j.0) gs (X j.0) es (X-ne j.0) (X-values j.0) z),
        subst (λ (y : ℤ). IsQuotientAt y r m.1) (sym j.1) m.3,
        solved (units_value (X j.0) es) (units_value (X 0) es) m.0 (inv_value m.0) m.1 c (value_mul-inv d m.0 m.4) m.6 (ap (◌*ᵛ◌ c) (sym f₀) ∙ constant ∙ e₀),
      )
    where
      solved : (u u₀ v i w c : Value d) → v *ᵛ i ≡ one_value → u *ᵛ v ≡ u₀ *ᵛ w → c *ᵛ v ≡ u₀ → u ≡ c *ᵛ w
      solved u u₀ v i w c h e k = by (ValueR d) (u ∷ u₀ ∷ v ∷ i ∷ w ∷ c ∷ [])
          ((ValueR d).add_cong (scale (ValueR d) i e) ((ValueR d).add_cong (scale (ValueR d) ((ValueR d).⊟ (i *ᵛ w)) k) (scale (ValueR d) ((c *ᵛ w) +ᵛ (ValueR d).⊟ u) h))) (search reads depth 24 fits 5000) refl
