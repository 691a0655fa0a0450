-- A relation of the factors is one of the values of the products.
--   Runs            along the places from s on the products grow by their factors
--   ratio_values    where the product of the powers of the factors is r(k + 1)/r(k), r has a value other than 0 at each place from s on,
--                   and the product of the powers of the products is a constant times r
use Rattle.std.proofs.Common.{◌≡◌, ℕ, zero, suc, ℤ, pos, ◌+ℤ◌, refl, sym, ap, ◌∙◌, subst, List, [], ◌∷◌, length}
use Rattle.sg_algebra.proofs.Solver.{ring, by, scale, reads}
use Rattle.sg_algebra.proofs.Value.{Value, ◌*ᵛ◌, inv_value, zero_value, one_value}
use Rattle.sg_algebra.proofs.ValueField.{ValueR, ValueF, value_mul-inv, value_one_ne}
use Rattle.sg_algebra.proofs.ShiftValue.{shift_value, shift_valueH}
use Rattle.sg_tower_theory.specs.Powers.{powers}
use Rattle.sg_value_theory.proofs.Elements.{IsQuotientAt}
use Rattle.sg_value_theory.proofs.Quotients.{quotients}
use Rattle.sg_value_theory.proofs.Moving.{inverse-has}
use Rattle.sg_value_theory.proofs.FlatValues.{units_value}
use Rattle.sg_value_theory.proofs.RationalPlaces.{rational_places}
use Rattle.sg_relations_theory.specs.Relations.{IsRatio}
use Rattle.sg_product_theory.proofs.Growth.{Grows, growth, regular_times}

module _ {d : ℕ} (s : ℤ) (αs : List (Value (suc d))) (X : ℕ → ℕ → Value d) (runs : (j : ℕ) → Grows αs (s +ℤ pos j) (X j) (X (suc j)))
    (es : List ℤ) (sized : length es ≡ length αs) (r : Value (suc d)) (ratio : IsRatio (powers (ValueF (suc d)) αs es) r) where
  abbrev A : Value (suc d)
  A = powers (ValueF (suc d)) αs es

  abbrev F : ℕ → Value d
  F j = units_value (X j) es

  step : (j : ℕ) → (a : Value d) × IsQuotientAt (s +ℤ pos j) A a × ¬ (a ≡ zero_value) × (F (suc j) ≡ a *ᵛ F j)
  step j = growth αs es (s +ℤ pos j) (X j) (X (suc j)) sized (runs j)

  A_ne : ¬ (A ≡ zero_value)
  A_ne z = (step 0).2 ((quotients d (s +ℤ pos 0)).unique A (step 0).0 zero_value (step 0).1 (subst (λ (x : Value (suc d)). IsQuotientAt (s +ℤ pos 0) x zero_value) (sym z) (quotients d (s +ℤ pos 0)).zero_has))

  forth : r ≡ inv_value A *ᵛ shift_value d r
  forth = turned A (inv_value A) r (shift_value d r) (value_mul-inv (suc d) A A_ne) ratio.is
    where
      turned : (a b r t : Value (suc d)) → a *ᵛ b ≡ one_value → t ≡ a *ᵛ r → r ≡ b *ᵛ t
      turned a b r t h k = sym (ap (◌*ᵛ◌ b) k ∙ by (ValueR (suc d)) (a ∷ b ∷ r ∷ []) (scale (ValueR (suc d)) r h) (search reads depth 16) refl)

  -- r has values
  has : (j : ℕ) → (v : Value d) × IsQuotientAt (s +ℤ pos j) r v
  has = regular_times (ValueR (suc d)) (ValueR d) (shift_valueH d) (rational_places d s) r (inv_value A) forth (λ j. (inv_value (step j).0, inverse-has (s +ℤ pos j) A (step j).0 (step j).1 (step j).2))

  shifted_inverse : shift_value d (inv_value r) *ᵛ shift_value d r ≡ one_value
  shifted_inverse = sym ((shift_valueH d).on-mul (inv_value r) r) ∙ ap (shift_value d) ((ValueR (suc d)).mul_comm ∙ value_mul-inv (suc d) r ratio.some) ∙ (shift_valueH d).on-one

  back : inv_value r ≡ A *ᵛ shift_value d (inv_value r)
  back = turned A r (inv_value r) (shift_value d r) (shift_value d (inv_value r)) (value_mul-inv (suc d) r ratio.some) shifted_inverse ratio.is
    where
      turned : (a r i t u : Value (suc d)) → r *ᵛ i ≡ one_value → u *ᵛ t ≡ one_value → t ≡ a *ᵛ r → i ≡ a *ᵛ u
      turned a r i t u h k e =
          let z : u *ᵛ (a *ᵛ r) ≡ one_value = ap (◌*ᵛ◌ u) (sym e) ∙ k in
          by (ValueR (suc d)) (a ∷ r ∷ i ∷ u ∷ []) ((ValueR (suc d)).add_cong (scale (ValueR (suc d)) (a *ᵛ u) h) (scale (ValueR (suc d)) i ((ValueR (suc d)).symm z))) (search reads depth 20) refl

  has_inverse : (j : ℕ) → (v : Value d) × IsQuotientAt (s +ℤ pos j) (inv_value r) v
  has_inverse = regular_times (ValueR (suc d)) (ValueR d) (shift_valueH d) (rational_places d s) (inv_value r) A back (λ j. ((step j).0, (step j).1))

  v : ℕ → Value d
  v j = (has j).0

  v-has : (j : ℕ) → IsQuotientAt (s +ℤ pos j) r (v j)
  unfolding v
  v-has j = (has j).1

  v-ne : (j : ℕ) → ¬ (v j ≡ zero_value)
  v-ne j z =
      let k = s +ℤ pos j in
      let w = has_inverse j in
      let one : v j *ᵛ w.0 ≡ one_value = (quotients d k).unique one_value (v j *ᵛ w.0) one_value
      ((quotients d k).same (r *ᵛ inv_value r) one_value (v j *ᵛ w.0) (value_mul-inv (suc d) r ratio.some) ((quotients d k).mul_has r (inv_value r) (v j) w.0 (v-has j) w.1)) (quotients d k).one_has in
      value_one_ne d (sym one ∙ ap (λ x. x *ᵛ w.0) z ∙ ring (ValueR d) (w.0 ∷ []) (search reads depth 12) refl)

  v-step : (j : ℕ) → v (suc j) ≡ (step j).0 *ᵛ v j
  v-step j =
      let k = s +ℤ pos j in
      (quotients d k).unique (shift_value d r) (v (suc j)) ((step j).0 *ᵛ v j) ((rational_places d s).has_shift r j (v (suc j)) (v-has (suc j)))
      (subst (λ (x : Value (suc d)). IsQuotientAt k x ((step j).0 *ᵛ v j)) (sym ratio.is) ((quotients d k).mul_has A r (step j).0 (v j) (step j).1 (v-has j)))

  together : (j : ℕ) → F j *ᵛ v 0 ≡ F 0 *ᵛ v j
  together zero = refl
  together (suc j) = joined (F (suc j)) (F j) (F 0) (v (suc j)) (v j) (v 0) (step j).0 (step j).3 (v-step j) (together j)
    where
      joined : (f' f f₀ w' w w₀ a : Value d) → f' ≡ a *ᵛ f → w' ≡ a *ᵛ w → f *ᵛ w₀ ≡ f₀ *ᵛ w → f' *ᵛ w₀ ≡ f₀ *ᵛ w'
      joined f' f f₀ w' w w₀ a h k e =
          ap (λ z. z *ᵛ w₀) h ∙ by (ValueR d) (f ∷ f₀ ∷ w ∷ w₀ ∷ a ∷ []) (scale (ValueR d) a e) (search reads depth 16) refl ∙ ap (◌*ᵛ◌ f₀) (sym k)

  pub ratio_values : (j : ℕ)
      → (v₀ w : Value d) × IsQuotientAt (s +ℤ pos 0) r v₀ × IsQuotientAt (s +ℤ pos j) r w × ¬ (v₀ ≡ zero_value) × ¬ (w ≡ zero_value) × (units_value (X j) es *ᵛ v₀ ≡ units_value (X 0) es *ᵛ w)
  ratio_values j = (v 0, v j, v-has 0, v-has j, v-ne 0, v-ne j, together j)
