-- A product that is expressed by those before it: a constant, a rational function and powers of these.
--   Expresses αs α es r       α is the product of the powers of the factors αs by es, times r(k + 1)/r(k)
--   expressed-function            r has values other than 0 from s on
--   expressed-agrees              with the right constant the term has the values of the product from s on
use Rattle.std.proofs.Common.{◌≡◌, ℕ, suc, ◌<◌, ℤ, pos, negsuc, ◌+ℤ◌, ◌≤ℤ◌, refl, sym, ap, ap₂, ◌∙◌, subst, List, [], ◌∷◌, length, arith}
use Rattle.std.proofs.lemmas.Int.{ints}
use Rattle.sg_algebra.specs.Coefficients.{Each}
use Rattle.sg_algebra.proofs.Solver.{by, scale, reads}
use Rattle.sg_algebra.proofs.Value.{Value, ◌*ᵛ◌, inv_value, zero_value, one_value}
use Rattle.sg_algebra.proofs.ValueField.{ValueR, ValueF, value_mul-inv}
use Rattle.sg_spec.specs.Tree.{Tree}
use Rattle.sg_spec.specs.Worth.{HasWorth}
use Rattle.sg_spec.proofs.Totals.{from_on}
use Rattle.sg_worth_theory.proofs.Worths.{worth_unique}
use Rattle.sg_algebra.proofs.ShiftValue.{shift_value, shift_valueH}
use Rattle.sg_tower_theory.specs.Powers.{power, powers}
use Rattle.sg_value_theory.proofs.Elements.{IsQuotientAt}
use Rattle.sg_value_theory.proofs.Quotients.{quotients}
use Rattle.sg_value_theory.proofs.Moving.{inverse-has}
use Rattle.sg_value_theory.proofs.FlatValues.{units_value}
use Rattle.sg_value_theory.proofs.TreePoints.{AreValues}
use Rattle.sg_value_theory.proofs.PointsOf.{HasUnits, point_at, is-point}
use Rattle.sg_value_theory.proofs.Lists.{values-unique}
use Rattle.sg_relations_theory.specs.Relations.{Expresses}
use Rattle.sg_answers_theory.proofs.InverseValues.{inverse_ne, inverse_twice}
use Rattle.sg_answers_theory.proofs.Answers.{IsProductOf}
use Rattle.sg_answers_theory.proofs.Relating.{AreProducts}
use Rattle.sg_product_theory.proofs.Growth.{Grows, units_ne}
use Rattle.sg_product_theory.proofs.Ratios.{ratio_values}
use Rattle.sg_product_theory.proofs.Factors.{grows, factors-many}

units-same : {d : ℕ} (ts us : ℕ → Value d) (es : List ℤ) → ((i : ℕ) → i < length es → ts i ≡ us i) → units_value ts es ≡ units_value us es
units-same ts us [] h = refl
units-same {d} ts us (e ∷ es) h = ap₂ (λ (x y : Value d). x *ᵛ y) (ap (λ z. power (ValueF d) z e) (h 0 (omega arith))) (units-same (λ i. ts (suc i)) (λ i. us (suc i)) es (λ i l. h (suc i) (omega (arith, l))))

module _ {d : ℕ} (letter : Value d) (s : ℤ) (qs : List Tree) (αs : List (Value (suc d))) (fs : AreProducts letter s qs αs) (units : Each (HasUnits letter) qs)
    (g : Tree) (α : Value (suc d)) (f : IsProductOf letter s g α) (unit : HasUnits letter g) (es : List ℤ) (r : Value (suc d)) (by_them : Expresses αs α es r) where
  abbrev X : ℕ → ℕ → Value d
  X j = (point_at letter (g ∷ qs) (unit, units) [] tt (s +ℤ pos j)).products

  X-values : (j : ℕ) → AreValues letter (s +ℤ pos j) (g ∷ qs) (X j)
  X-values j = (is-point letter (g ∷ qs) (unit, units) [] tt (s +ℤ pos j)).0

  X-ne : (j i : ℕ) → ¬ (X j i ≡ zero_value)
  X-ne j = (point_at letter (g ∷ qs) (unit, units) [] tt (s +ℤ pos j)).nonzero

  next : (j : ℕ) → s +ℤ pos (suc j) ≡ (s +ℤ pos j) +ℤ pos 1
  next j = omega (arith, ints)

  runs : (j : ℕ) → Grows (α ∷ αs) (s +ℤ pos j) (X j) (X (suc j))
  runs j = grows letter s (g ∷ qs) (α ∷ αs) (f, fs) (s +ℤ pos j) (omega (arith, ints)) (X j) (X (suc j)) (X-ne j) (X-values j) (subst (λ (k : ℤ). AreValues letter k (g ∷ qs) (X (suc j))) (next j) (X-values (suc j)))

  whole : length (negsuc 0 ∷ es) ≡ length (α ∷ αs)
  whole = let e = by_them.sized in omega (arith, e)

  related : shift_value d (inv_value r) ≡ powers (ValueF (suc d)) (α ∷ αs) (negsuc 0 ∷ es) *ᵛ inv_value r
  related = turned α (inv_value α) r (inv_value r) (shift_value d r) (shift_value d (inv_value r)) (powers (ValueF (suc d)) αs es) (value_mul-inv (suc d) α f.some) (value_mul-inv (suc d) r by_them.some)
      (sym ((shift_valueH d).on-mul r (inv_value r)) ∙ ap (shift_value d) (value_mul-inv (suc d) r by_them.some) ∙ (shift_valueH d).on-one) by_them.is
    where
      turned : (a b r i t u p : Value (suc d)) → a *ᵛ b ≡ one_value → r *ᵛ i ≡ one_value → t *ᵛ u ≡ one_value → a *ᵛ r ≡ p *ᵛ t
          → u ≡ ((one_value *ᵛ b) *ᵛ p) *ᵛ i
      turned a b r i t u p h k m e =
          by (ValueR (suc d)) (a ∷ b ∷ r ∷ i ∷ t ∷ u ∷ p ∷ [])
          ((ValueR (suc d)).add_cong (scale (ValueR (suc d)) (neg_one *ᵛ ((r *ᵛ i) *ᵛ u)) h) ((ValueR (suc d)).add_cong (scale (ValueR (suc d)) (neg_one *ᵛ u) k) ((ValueR (suc d)).add_cong (scale (ValueR (suc d)) ((b *ᵛ p) *ᵛ i) m) (scale (ValueR (suc d)) ((b *ᵛ i) *ᵛ u) e)))) (search reads depth 24 fits 5000) refl
        where
          neg_one : Value (suc d)
          neg_one = (ValueR (suc d)).⊟ one_value

  inverse_some : ¬ (inv_value r ≡ zero_value)
  inverse_some = inverse_ne r by_them.some

  law : (j : ℕ)
      → (v₀ w : Value d) × IsQuotientAt (s +ℤ pos 0) (inv_value r) v₀ × IsQuotientAt (s +ℤ pos j) (inv_value r) w × ¬ (v₀ ≡ zero_value) × ¬ (w ≡ zero_value) × (units_value (X j) (negsuc 0 ∷ es) *ᵛ v₀ ≡ units_value (X 0) (negsuc 0 ∷ es) *ᵛ w)
  law = ratio_values s (α ∷ αs) X runs (negsuc 0 ∷ es) whole (inv_value r) (record { some = inverse_some; is = related })

  -- r itself
  r-at : (k : ℤ) (w : Value d) → IsQuotientAt k (inv_value r) w → ¬ (w ≡ zero_value) → IsQuotientAt k r (inv_value w)
  r-at k w h n = (quotients d k).same (inv_value (inv_value r)) r (inv_value w) (inverse_twice r by_them.some) (inverse-has k (inv_value r) w h n)

  place : (k : ℤ) → s ≤ℤ k → (j : ℕ) × (k ≡ s +ℤ pos j)
  place k l = from_on s k l

  pub expressed-function : (k : ℤ) → s ≤ℤ k → (v : Value d) × IsQuotientAt k r v × ¬ (v ≡ zero_value)
  expressed-function k l = let j = place k l in let m = law j.0 in
      (inv_value m.1, subst (λ (z : ℤ). IsQuotientAt z r (inv_value m.1)) (sym j.1) (r-at (s +ℤ pos j.0) m.1 m.3 m.5), inverse_ne m.1 m.5)

  first-place : s +ℤ pos 0 ≡ s
  first-place = omega (arith, ints)

  -- the values of the products at s, and of g and r there
  module _ (xs : ℕ → Value d) (here : AreValues letter s qs xs) (t₀ v₀ c : Value d) (first : HasWorth letter g s t₀) (v₀-is : IsQuotientAt s r v₀)
      (constant : c *ᵛ (v₀ *ᵛ units_value xs es) ≡ t₀) where
    pub expressed-agrees : (k : ℤ) → s ≤ℤ k → (ys : ℕ → Value d) → AreValues letter k qs ys → (t : Value d) → HasWorth letter g k t
        → (v : Value d) × IsQuotientAt k r v × (t ≡ c *ᵛ (v *ᵛ units_value ys es))
    expressed-agrees k l ys there t h =
        let j = place k l in
        let m = law j.0 in
        let e : t ≡ X j.0 0 = worth_unique letter g k t (X j.0 0) h (subst (λ (z : ℤ). HasWorth letter g z (X j.0 0)) (sym j.1) (X-values j.0).0) in
        let e₀ : t₀ ≡ X 0 0 = worth_unique letter g s t₀ (X 0 0) first (subst (λ (z : ℤ). HasWorth letter g z (X 0 0)) first-place (X-values 0).0) in
        let v : IsQuotientAt k r (inv_value m.1) = subst (λ (z : ℤ). IsQuotientAt z r (inv_value m.1)) (sym j.1) (r-at (s +ℤ pos j.0) m.1 m.3 m.5) in
        let f₀ : v₀ ≡ inv_value m.0 = (quotients d s).unique r v₀ (inv_value m.0) v₀-is (subst (λ (z : ℤ). IsQuotientAt z r (inv_value m.0)) first-place (r-at (s +ℤ pos 0) m.0 m.2 m.4)) in
        let u : units_value ys es ≡ units_value (λ i. X j.0 (suc i)) es =
        units-same ys (λ i. X j.0 (suc i)) es (λ i q. let z = by_them.sized in let y = factors-many letter s qs αs fs in
        values-unique letter k qs ys (λ i. X j.0 (suc i)) there (subst (λ (z : ℤ). AreValues letter z qs (λ i. X j.0 (suc i))) (sym j.1) (X-values j.0).1) i (omega (arith, q, z, y))) in
        let u₀ : units_value xs es ≡ units_value (λ i. X 0 (suc i)) es =
        units-same xs (λ i. X 0 (suc i)) es (λ i q. let z = by_them.sized in let y = factors-many letter s qs αs fs in
        values-unique letter s qs xs (λ i. X 0 (suc i)) here (subst (λ (z : ℤ). AreValues letter z qs (λ i. X 0 (suc i))) first-place (X-values 0).1) i (omega (arith, q, z, y))) in (
          inv_value m.1,
          v,
          e ∙ solved (X j.0 0) (inv_value (X j.0 0)) (X 0 0) (inv_value (X 0 0)) (units_value (λ i. X j.0 (suc i)) es) (units_value (λ i. X 0 (suc i)) es) m.0 (inv_value m.0) m.1 (inv_value m.1) c
              (value_mul-inv d (X j.0 0) (X-ne j.0 0)) (value_mul-inv d (X 0 0) (X-ne 0 0)) (value_mul-inv d m.0 m.4) (value_mul-inv d m.1 m.5)
              (λ z. units_ne (λ i. X 0 (suc i)) es (λ i q. X-ne 0 (suc i)) z)
              m.6 (ap (λ z. c *ᵛ (inv_value m.0 *ᵛ z)) (sym u₀) ∙ ap (λ z. c *ᵛ (z *ᵛ units_value xs es)) (sym f₀) ∙ constant ∙ e₀)
              ∙ ap (λ z. c *ᵛ (inv_value m.1 *ᵛ z)) (sym u),
        )
      where
        -- (1/x) u v₀ = (1/x₀) u₀ w and c (1/v₀) u₀ = x₀ give x = c (1/w) u
        solved : (x xi x₀ xi₀ u u₀ v₀ vi₀ w wi c : Value d) → x *ᵛ xi ≡ one_value → x₀ *ᵛ xi₀ ≡ one_value → v₀ *ᵛ vi₀ ≡ one_value → w *ᵛ wi ≡ one_value
            → ¬ (u₀ ≡ zero_value)
            → ((one_value *ᵛ xi) *ᵛ u) *ᵛ v₀ ≡ ((one_value *ᵛ xi₀) *ᵛ u₀) *ᵛ w → c *ᵛ (vi₀ *ᵛ u₀) ≡ x₀ → x ≡ c *ᵛ (wi *ᵛ u)
        solved x xi x₀ xi₀ u u₀ v₀ vi₀ w wi c hx hx₀ hv hw n e k = last ui₀-is
          where
            ui₀ : Value d
            ui₀ = inv_value u₀

            ui₀-is : u₀ *ᵛ inv_value u₀ ≡ one_value
            ui₀-is = value_mul-inv d u₀ n

            -- u v₀ xi = xi₀ u₀ w, so x xi₀ u₀ w = u v₀
            one_side : x *ᵛ ((xi₀ *ᵛ u₀) *ᵛ w) ≡ u *ᵛ v₀
            one_side = by (ValueR d) (x ∷ xi ∷ xi₀ ∷ u ∷ u₀ ∷ v₀ ∷ w ∷ []) ((ValueR d).add_cong (scale (ValueR d) ((ValueR d).⊟ x) e) (scale (ValueR d) (u *ᵛ v₀) hx)) (search reads depth 24 fits 5000) refl

            -- c vi₀ u₀ = x₀ gives c vi₀ xi₀ u₀ = 1
            other_side : (c *ᵛ vi₀) *ᵛ (xi₀ *ᵛ u₀) ≡ one_value
            other_side = by (ValueR d) (x₀ ∷ xi₀ ∷ u₀ ∷ vi₀ ∷ c ∷ []) ((ValueR d).add_cong (scale (ValueR d) xi₀ k) hx₀) (search reads depth 24 fits 5000) refl

            last : u₀ *ᵛ inv_value u₀ ≡ one_value → x ≡ c *ᵛ (wi *ᵛ u)
            last z = by (ValueR d) (x ∷ xi₀ ∷ u ∷ u₀ ∷ v₀ ∷ vi₀ ∷ w ∷ wi ∷ c ∷ [])
                ((ValueR d).add_cong (scale (ValueR d) ((c *ᵛ vi₀) *ᵛ wi) one_side)
                ((ValueR d).add_cong (scale (ValueR d) ((ValueR d).⊟ (x *ᵛ (w *ᵛ wi))) other_side)
                ((ValueR d).add_cong (scale (ValueR d) ((ValueR d).⊟ x) hw) (scale (ValueR d) ((c *ᵛ wi) *ᵛ u) hv)))) (search reads depth 24 fits 5000) refl
