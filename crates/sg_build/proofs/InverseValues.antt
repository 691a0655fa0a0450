-- Inverses of values.
--   inverse-neg, -mul, -one, -pow      of opposites, products, 1 and powers
--   some-neg, some-left, some-right, some-base      the parts of what isn't 0 aren't 0
use Rattle.std.proofs.Common.{◌≡◌, ℕ, zero, suc, sym, ap, ◌∙◌, refl, [], ◌∷◌}
use Rattle.sg_algebra.proofs.Ring.{pow}
use Rattle.sg_algebra.proofs.Solver.{ring, by, reads}
use Rattle.sg_algebra.proofs.Value.{Value, ◌*ᵛ◌, neg_value, inv_value, zero_value, one_value}
use Rattle.sg_algebra.proofs.ValueField.{ValueR, ValueF, value_mul-inv, value_quotient}
use Rattle.sg_value_theory.proofs.Inverses.{inverse-is}

module _ {d : ℕ} where
  pub some-neg : (w : Value d) → ¬ (neg_value w ≡ zero_value) → ¬ (w ≡ zero_value)
  some-neg w n z = n (ap neg_value z ∙ ring (ValueR d) [] (search reads depth 12) refl)

  pub some-left : (u w : Value d) → ¬ (u *ᵛ w ≡ zero_value) → ¬ (u ≡ zero_value)
  some-left u w n z = n (ap (λ a. a *ᵛ w) z ∙ ring (ValueR d) (w ∷ []) (search reads depth 12) refl)

  pub some-right : (u w : Value d) → ¬ (u *ᵛ w ≡ zero_value) → ¬ (w ≡ zero_value)
  some-right u w n z = n (ap (◌*ᵛ◌ u) z ∙ ring (ValueR d) (u ∷ []) (search reads depth 12) refl)

  pub some-base : (w : Value d) (e : ℕ) → ¬ (e ≡ 0) → ¬ (pow (ValueR d) w e ≡ zero_value) → ¬ (w ≡ zero_value)
  some-base w zero m n = absurd (m refl)
  some-base w (suc e) m n = some-right (pow (ValueR d) w e) w n

  pub inverse-neg : (w : Value d) → ¬ (neg_value w ≡ zero_value) → inv_value (neg_value w) ≡ neg_value (inv_value w)
  inverse-neg w n = sym (inverse-is (neg_value w) (neg_value (inv_value w)) n (turned w (inv_value w) (value_mul-inv d w (some-neg w n))))
    where
      turned : (w u : Value d) → w *ᵛ u ≡ one_value → neg_value u *ᵛ neg_value w ≡ one_value
      turned w u h = by (ValueR d) (w ∷ u ∷ []) h (search reads depth 16) refl

  pub inverse-mul : (u w : Value d) → ¬ (u *ᵛ w ≡ zero_value) → inv_value (u *ᵛ w) ≡ inv_value u *ᵛ inv_value w
  inverse-mul u w n = sym (inverse-is (u *ᵛ w) (inv_value u *ᵛ inv_value w) n (turned u (inv_value u) w (inv_value w) (value_mul-inv d u (some-left u w n)) (value_mul-inv d w (some-right u w n))))
    where
      turned : (u a w b : Value d) → u *ᵛ a ≡ one_value → w *ᵛ b ≡ one_value → (a *ᵛ b) *ᵛ (u *ᵛ w) ≡ one_value
      turned u a w b h i = by (ValueR d) (u ∷ a ∷ w ∷ b ∷ []) ((ValueR d).mul_cong h i) (search reads depth 16) refl

  pub inverse-one : inv_value {d = d} one_value ≡ one_value
  inverse-one = sym (value_quotient one_value one_value one_value (λ z. (ValueF d).one_ne z) (ring (ValueR d) [] (search reads depth 12) refl) ∙ ring (ValueR d) (inv_value (one_value {d = d}) ∷ []) (search reads depth 12) refl)

  pub inverse-pow : (w : Value d) (e : ℕ) → ¬ (pow (ValueR d) w e ≡ zero_value) → inv_value (pow (ValueR d) w e) ≡ pow (ValueR d) (inv_value w) e
  inverse-pow w zero n = inverse-one
  inverse-pow w (suc e) n = inverse-mul (pow (ValueR d) w e) w n ∙ ap (λ z. z *ᵛ inv_value w) (inverse-pow w e (some-left (pow (ValueR d) w e) w n))
