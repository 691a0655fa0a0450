-- The value of an inverse.
--   unit-has         of a unit pair the second has the inverse value, where that of the first isn't 0
use Rattle.std.proofs.Common.{◌≡◌, ℕ, zero, suc, ℤ, pos, negsuc, neg_ℤ, refl, sym, ap, ◌∙◌, subst, List, [], ◌∷◌, length, map, reverse, arith}
use Rattle.std.proofs.lemmas.Int.{ints}
use Rattle.std.proofs.lemmas.List.{length-map, length-reverse, reverse-reverse}
use Rattle.sg_algebra.proofs.Solver.{ring, by, scale, reads}
use Rattle.sg_algebra.proofs.Value.{Value, ◌*ᵛ◌, inv_value, zero_value, one_value}
use Rattle.sg_algebra.proofs.ValueField.{ValueR, ValueF, value_mul-inv, value_quotient}
use Rattle.sg_tower_theory.specs.Powers.{power}
use Rattle.sg_tower_theory.proofs.Monomials.{one_term}
use Rattle.sg_tower_theory.proofs.Formal.{Formal, Element, elements, factors, repaired}
use Rattle.sg_tower_theory.proofs.Flat.{term_in, unit_in, IsUnitPair}
use Rattle.sg_value_theory.proofs.Elements.{Point, IsQuotientAt, HasIn, HasElement}
use Rattle.sg_value_theory.proofs.LaurentValues.{unit_pow}
use Rattle.sg_value_theory.proofs.Evaluations.{evaluation_in}
use Rattle.sg_value_theory.proofs.Moving.{inverse-has}
use Rattle.sg_value_theory.proofs.FlatValues.{Fits, units_value, coef_in, coef_in-term, coefficient-has, powers_at, term-has}

zeros_before : ℕ → List ℤ → List ℤ
zeros_before zero es = es
zeros_before (suc n) es = pos 0 ∷ zeros_before n es

module _ {d : ℕ} where
  -- ---- The powers of the values

  powers-one : (t : Value d) → ¬ (t ≡ zero_value) → (e : ℤ) → power (ValueF d) t e *ᵛ power (ValueF d) t (neg_ℤ e) ≡ one_value
  powers-one t n (pos zero) = ring (ValueR d) [] (search reads depth 12) refl
  powers-one t n (pos (suc m)) = unit_pow t (inv_value t) (value_mul-inv d t n) (suc m)
  powers-one t n (negsuc m) = (ValueR d).mul_comm ∙ unit_pow t (inv_value t) (value_mul-inv d t n) (suc m)

  units-one : (ts : ℕ → Value d) → ((i : ℕ) → ¬ (ts i ≡ zero_value)) → (es : List ℤ) → units_value ts es *ᵛ units_value ts (map neg_ℤ es) ≡ one_value
  units-one ts n [] = ring (ValueR d) [] (search reads depth 12) refl
  units-one ts n (e ∷ es) = joined (power (ValueF d) (ts 0) e) (power (ValueF d) (ts 0) (neg_ℤ e)) (units_value (λ i. ts (suc i)) es) (units_value (λ i. ts (suc i)) (map neg_ℤ es)) (powers-one (ts 0) (n 0) e) (units-one (λ i. ts (suc i)) (λ i. n (suc i)) es)
    where
      joined : (a b u w : Value d) → a *ᵛ b ≡ one_value → u *ᵛ w ≡ one_value → (a *ᵛ u) *ᵛ (b *ᵛ w) ≡ one_value
      joined a b u w h i = by (ValueR d) (a ∷ b ∷ u ∷ w ∷ []) ((ValueR d).mul_cong h i) (search reads depth 16) refl

  -- ---- A unit is a term

  unit-term : (αs : List (Value (suc d))) (n : ℕ) (es : List ℤ) (c : Value (suc d)) → unit_in αs n es c ≡ term_in αs n (zeros_before n (reverse es)) c
  unfolding zeros_before
  unit-term αs zero es c = ap (λ (xs : List ℤ). one_term (ValueF (suc d)) (length (factors αs)) xs c) (sym (reverse-reverse es))
  unit-term αs (suc n) es c = ap (λ x. x ∷ []) (unit-term αs n es c)

  unit-fits : (αs : List (Value (suc d))) (n : ℕ) (es : List ℤ) → length es ≡ length (factors αs) → Fits αs n (zeros_before n (reverse es))
  unfolding zeros_before
  unit-fits αs zero es l = length-reverse es ∙ l
  unit-fits αs (suc n) es l = (omega (arith, ints), unit-fits αs n es l)

  unit-powers : (n : ℕ) (p : Point d) (es : List ℤ) → powers_at n p (zeros_before n (reverse es)) ≡ units_value p.products es
  unfolding zeros_before
  unit-powers zero p es = ap (units_value p.products) (reverse-reverse es)
  unit-powers (suc n) p es = ap (◌*ᵛ◌ one_value) (unit-powers n p es) ∙ ring (ValueR d) (units_value p.products es ∷ []) (search reads depth 12) refl

  pub has-unit : (αs : List (Value (suc d))) (n : ℕ) (p : Point d) (es : List ℤ) (c : Value (suc d)) (v : Value d) → length es ≡ length (factors αs) → IsQuotientAt p.variable c v → HasIn αs n p (unit_in αs n es c) (v *ᵛ units_value p.products es)
  has-unit αs n p es c v l h =
      subst (λ x. HasIn αs n p x (v *ᵛ units_value p.products es)) (sym (unit-term αs n es c))
      (subst (HasIn αs n p (term_in αs n (zeros_before n (reverse es)) c)) (ap (◌*ᵛ◌ v) (unit-powers n p es)) (term-has αs n p (zeros_before n (reverse es)) c v (unit-fits αs n es l) h))

  -- and the function has a value where the unit has one
  unit-function : (αs : List (Value (suc d))) (n : ℕ) (p : Point d) (es : List ℤ) (c : Value (suc d)) (w : Value d) → length es ≡ length (factors αs) → HasIn αs n p (unit_in αs n es c) w → (v : Value d) × IsQuotientAt p.variable c v × (w ≡ v *ᵛ units_value p.products es)
  unit-function αs n p es c w l h =
      let q = coefficient-has αs n p (zeros_before n (reverse es)) (unit_in αs n es c) w h in
      let i = subst (λ (x : Value (suc d)). IsQuotientAt p.variable x q.0) (ap (coef_in αs n (zeros_before n (reverse es))) (unit-term αs n es c) ∙ coef_in-term αs n (zeros_before n (reverse es)) c (unit-fits αs n es l)) q.1 in
      (q.0, i, (evaluation_in αs n p).unique (unit_in αs n es c) w (q.0 *ᵛ units_value p.products es) h (has-unit αs n p es c q.0 l i))

  pub inverse-is : (a b : Value d) → ¬ (a ≡ zero_value) → b *ᵛ a ≡ one_value → b ≡ inv_value a
  inverse-is a b n h = value_quotient one_value a b n h ∙ ring (ValueR d) (inv_value a ∷ []) (search reads depth 12) refl

  pub unit-has : (f : Formal d) (p : Point d) (x y : Element f) (w : Value d) → IsUnitPair f x y → HasElement f p x w → ¬ (w ≡ zero_value) → HasElement f p y (inv_value w)
  unit-has f p x y w u h n = go (unit-function f.products f.sums p u.exponents u.function w size ((evaluation_in f.products f.sums p).same x (unit_in f.products f.sums u.exponents u.function) w u.left h))
    where
      size : length u.exponents ≡ length (factors f.products)
      size = u.sized ∙ sym (length-map f.products (repaired {d = d}))

      es : List ℤ
      es = map neg_ℤ u.exponents

      go : (v : Value d) × IsQuotientAt p.variable u.function v × (w ≡ v *ᵛ units_value p.products u.exponents) → HasElement f p y (inv_value w)
      go r =
          let ne : ¬ (r.0 ≡ zero_value) = λ z. n (r.2 ∙ ap (λ a. a *ᵛ units_value p.products u.exponents) z ∙ ring (ValueR d) (units_value p.products u.exponents ∷ []) (search reads depth 12) refl) in
          let i = inverse-has p.variable u.function r.0 r.1 ne in
          (evaluation_in f.products f.sums p).same (unit_in f.products f.sums (map neg_ℤ u.exponents) (inv_value u.function)) y (inv_value w) ((elements f).symm u.right)
          (subst (HasElement f p (unit_in f.products f.sums (map neg_ℤ u.exponents) (inv_value u.function)))
          (inverse-is w (inv_value r.0 *ᵛ units_value p.products (map neg_ℤ u.exponents)) n (both r.0 (inv_value r.0) (units_value p.products u.exponents) (units_value p.products (map neg_ℤ u.exponents)) w r.2 (value_mul-inv d r.0 ne) (units-one p.products p.nonzero u.exponents)))
          (has-unit f.products f.sums p (map neg_ℤ u.exponents) (inv_value u.function) (inv_value r.0) (length-map u.exponents neg_ℤ ∙ size) i))
        where
          both : (v v' u u' w : Value d) → w ≡ v *ᵛ u → v *ᵛ v' ≡ one_value → u *ᵛ u' ≡ one_value → (v' *ᵛ u') *ᵛ w ≡ one_value
          both v v' u u' w e h i = by (ValueR d) (v ∷ v' ∷ u ∷ u' ∷ w ∷ []) ((ValueR d).add_cong (scale (ValueR d) (v' *ᵛ u') e) ((ValueR d).mul_cong h i)) (search reads depth 20) refl
