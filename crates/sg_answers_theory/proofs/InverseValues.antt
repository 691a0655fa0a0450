-- Powers and inverses of values.
--   left_ne, right_ne     what a product other than 0 is of isn't 0
--   neg_ne, pow_ne, inverse_ne, power_ne      the opposite, powers and the inverse of what isn't 0 aren't 0
--   inverse_neg, inverse_one, inverse_mul, inverse_pow      the inverse of an opposite, of 1, of a product, of a power
--   pow-mul, power-mul    a power of a product
use Rattle.std.proofs.Common.{◌≡◌, ℕ, zero, suc, ℤ, pos, negsuc, refl, sym, ap, ◌∙◌, [], ◌∷◌}
use Rattle.sg_algebra.proofs.Ring.{pow}
use Rattle.sg_algebra.proofs.Solver.{ring, by, scale, reads}
use Rattle.sg_algebra.proofs.Value.{Value, ◌*ᵛ◌, neg_value, inv_value, zero_value, one_value}
use Rattle.sg_algebra.proofs.ValueField.{ValueR, ValueF, value_mul-inv, value_one_ne}
use Rattle.sg_tower_theory.specs.Powers.{power}
use Rattle.sg_value_theory.proofs.Quotients.{both_ne}
use Rattle.sg_value_theory.proofs.Inverses.{inverse-is}

module _ {d : ℕ} where
  pub left_ne : (u w : Value d) → ¬ (u *ᵛ w ≡ zero_value) → ¬ (u ≡ zero_value)
  left_ne u w n z = n (ap (λ a. a *ᵛ w) z ∙ ring (ValueR d) (w ∷ []) (search reads depth 12) refl)

  pub right_ne : (u w : Value d) → ¬ (u *ᵛ w ≡ zero_value) → ¬ (w ≡ zero_value)
  right_ne u w n z = n (ap (◌*ᵛ◌ u) z ∙ ring (ValueR d) (u ∷ []) (search reads depth 12) refl)

  pub neg_ne : (x : Value d) → ¬ (x ≡ zero_value) → ¬ (neg_value x ≡ zero_value)
  neg_ne x h e = h (by (ValueR d) (x ∷ []) ((ValueR d).neg_cong e) (search reads depth 20) refl)

  pub pow_ne : (x : Value d) (n : ℕ) → ¬ (x ≡ zero_value) → ¬ (pow (ValueR d) x n ≡ zero_value)
  pow_ne x zero h = value_one_ne d
  pow_ne x (suc n) h = both_ne (pow (ValueR d) x n) x (pow_ne x n h) h

  pub inverse_ne : (x : Value d) → ¬ (x ≡ zero_value) → ¬ (inv_value x ≡ zero_value)
  inverse_ne x h z = value_one_ne d (sym (value_mul-inv d x h) ∙ ap (◌*ᵛ◌ x) z ∙ ring (ValueR d) (x ∷ []) (search reads depth 12) refl)

  pub power_ne : (x : Value d) (e : ℤ) → ¬ (x ≡ zero_value) → ¬ (power (ValueF d) x e ≡ zero_value)
  power_ne x (pos n) h = pow_ne x n h
  power_ne x (negsuc n) h = pow_ne (inv_value x) (suc n) (inverse_ne x h)

  pub inverse_twice : (x : Value d) → ¬ (x ≡ zero_value) → inv_value (inv_value x) ≡ x
  inverse_twice x h = sym (inverse-is (inv_value x) x (inverse_ne x h) (value_mul-inv d x h))

  pub inverse_neg : (w : Value d) → ¬ (neg_value w ≡ zero_value) → inv_value (neg_value w) ≡ neg_value (inv_value w)
  inverse_neg w n = sym (inverse-is (neg_value w) (neg_value (inv_value w)) n (turned w (inv_value w) (value_mul-inv d w some)))
    where
      some : ¬ (w ≡ zero_value)
      some z = n (ap neg_value z ∙ ring (ValueR d) [] (search reads depth 12) refl)

      turned : (w u : Value d) → w *ᵛ u ≡ one_value → neg_value u *ᵛ neg_value w ≡ one_value
      turned w u h = by (ValueR d) (w ∷ u ∷ []) h (search reads depth 16) refl

  pub inverse_one : inv_value {d = d} one_value ≡ one_value
  inverse_one = sym (inverse-is one_value one_value (value_one_ne d) (ring (ValueR d) [] (search reads depth 12) refl))

  pub inverse_mul : (u w : Value d) → ¬ (u ≡ zero_value) → ¬ (w ≡ zero_value) → inv_value (u *ᵛ w) ≡ inv_value u *ᵛ inv_value w
  inverse_mul u w h k =
      sym (inverse-is (u *ᵛ w) (inv_value u *ᵛ inv_value w) (both_ne u w h k)
      (turned u (inv_value u) w (inv_value w) (value_mul-inv d u h) (value_mul-inv d w k)))
    where
      turned : (u a w b : Value d) → u *ᵛ a ≡ one_value → w *ᵛ b ≡ one_value → (a *ᵛ b) *ᵛ (u *ᵛ w) ≡ one_value
      turned u a w b h i = by (ValueR d) (u ∷ a ∷ w ∷ b ∷ []) ((ValueR d).mul_cong h i) (search reads depth 16) refl

  pub inverse_pow : (w : Value d) (e : ℕ) → ¬ (w ≡ zero_value) → inv_value (pow (ValueR d) w e) ≡ pow (ValueR d) (inv_value w) e
  inverse_pow w zero n = inverse_one
  inverse_pow w (suc e) n = inverse_mul (pow (ValueR d) w e) w (pow_ne w e n) n ∙ ap (λ z. z *ᵛ inv_value w) (inverse_pow w e n)

  pub pow-mul : (x y : Value d) (e : ℕ) → pow (ValueR d) (x *ᵛ y) e ≡ pow (ValueR d) x e *ᵛ pow (ValueR d) y e
  pow-mul x y zero = ring (ValueR d) [] (search reads depth 12) refl
  pow-mul x y (suc e) =
      by (ValueR d) (x ∷ y ∷ pow (ValueR d) x e ∷ pow (ValueR d) y e ∷ pow (ValueR d) (x *ᵛ y) e ∷ []) (scale (ValueR d) (x *ᵛ y) (pow-mul x y e))
      (search reads depth 16) refl

  pub power-mul : (x y : Value d) (e : ℤ) → ¬ (x ≡ zero_value) → ¬ (y ≡ zero_value)
      → power (ValueF d) (x *ᵛ y) e ≡ power (ValueF d) x e *ᵛ power (ValueF d) y e
  power-mul x y (pos n) h k = pow-mul x y n
  power-mul x y (negsuc n) h k = ap (λ z. pow (ValueR d) z (suc n)) (inverse_mul x y h k) ∙ pow-mul (inv_value x) (inv_value y) (suc n)
