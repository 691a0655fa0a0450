-- One product with a constant factor c, as 2^k. It is independent where no power of c but the trivial one is 1.
--   scaled_shift      where a times the shift of a rational function other than 0 is b times it, the constants a and b are equal
--   constant_free     so a product with the factor c is independent where c^n isn't 1 for n above 0
--   two_free          as 2^k is
use Rattle.std.proofs.Common.{◌≡◌, ℕ, zero, suc, ◌+◌, ◌*◌, ◌<◌, refl, sym, ap, ap₂, ◌∙◌, List, [], ◌∷◌, length, ℤ, pos, negsuc, get_or, arith}
use Rattle.sg_algebra.specs.Ring.{Ring, Field}
use Rattle.sg_algebra.specs.Coefficients.{coef}
use Rattle.sg_algebra.proofs.Ring.{nat, nat-mul, pow, I_mul}
use Rattle.sg_algebra.proofs.Solver.{by, ring, reads}
use Rattle.sg_algebra.proofs.Field.{product_ne}
use Rattle.sg_algebra.proofs.Divides.{identity, on-pow}
use Rattle.sg_algebra.proofs.PolynomialRing.{PolyR, coef-scale}
use Rattle.sg_algebra.proofs.Degree.{Degree, coef-mul_top, degree_of, poly_one_ne}
use Rattle.sg_algebra.proofs.Shift.{moved, twist-top, twist-past}
use Rattle.sg_algebra.proofs.Value.{Value, over_value, zero_value, one_value, ◌*ᵛ◌}
use Rattle.sg_algebra.proofs.ValueField.{ValueR, ValueF, ValueD, value_is_zero}
use Rattle.sg_algebra.proofs.OverValue.{over_value_cong, over_value-zero, over_value-mul, same_over_value}
use Rattle.sg_algebra.proofs.Embedding.{constant_value, constant_value_zero, constant_valueH, numeral_ne}
use Rattle.sg_algebra.proofs.ShiftValue.{shift_value, shift_value-over, moved_ne}
use Rattle.sg_first_order_theory.proofs.Parts.{upper, lower, parts_are, lower_ne}
use Rattle.sg_tower_theory.specs.Powers.{powers}
use Rattle.sg_tower_theory.proofs.Products.{AllZero}
use Rattle.sg_tower_theory.proofs.Formal.{IndependentFactors, independent_factors}

module _ (d : ℕ) where
  abbrev R : Ring
  R = ValueR d

  abbrev Q : Field
  Q = ValueF (suc d)

  open PolyR (ValueR d) use {◌≈◌ as ◌≋◌, ◌⊠◌ as ◌⊗◌, symm, trans}

  up : List (Value d) → List (Value d)
  up p = moved (ValueR d) one_value p

  upper_ne : (r : Value (suc d)) → ¬ (r ≡ zero_value) → ¬ (upper r ≋ [])
  upper_ne r h z = h (sym (parts_are r) ∙ over_value_cong d (upper r) (lower r) [] (lower r) (lower_ne r) z (PolyR (ValueR d)).rfl ∙ over_value-zero d (lower r) (lower_ne r))

  one_ne : ¬ ((one_value {d = d} ∷ []) ≋ [])
  one_ne = poly_one_ne (ValueD d)

  times : (c : Value d) (p q : List (Value d)) → ¬ (q ≋ []) → constant_value d c *ᵛ over_value p q ≡ over_value ((c ∷ []) ⊗ p) ((one_value ∷ []) ⊗ q)
  times c p q h = sym (over_value-mul d (c ∷ []) (one_value ∷ []) p q one_ne h)

  times_ne : (q : List (Value d)) → ¬ (q ≋ []) → ¬ (((one_value ∷ []) ⊗ q) ≋ [])
  times_ne q h z = h (trans (symm (I_mul (PolyR (ValueR d)) {x = q})) z)

  module _ (a b : Value d) (p q : List (Value d)) (m n : ℕ) (dp : Degree (ValueR d) m p) (dq : Degree (ValueR d) n q) where
    x : Value d
    x = coef (ValueR d) p m

    y : Value d
    y = coef (ValueR d) q n

    crossed : ((a ∷ []) ⊗ moved (ValueR d) one_value p) ⊗ ((one_value ∷ []) ⊗ q) ≋ ((b ∷ []) ⊗ p) ⊗ ((one_value ∷ []) ⊗ moved (ValueR d) one_value q) → (a *ᵛ coef (ValueR d) p m) *ᵛ (one_value *ᵛ coef (ValueR d) q n) ≡ (b *ᵛ coef (ValueR d) p m) *ᵛ (one_value *ᵛ coef (ValueR d) q n)
    crossed e = sym left ∙ e.image.at (m + n) ∙ right
      where
        past : (c : Value d) (s : List (Value d)) (l : ℕ) → ((i : ℕ) → l < i → coef (ValueR d) s i ≡ zero_value) → (i : ℕ) → l < i → coef (ValueR d) ((c ∷ []) ⊗ s) i ≡ zero_value
        past c s l h i k = coef-scale (ValueR d) c s i ∙ ap (λ z. c *ᵛ z) (h i k) ∙ ring (ValueR d) (c ∷ []) (search reads depth 12) refl

        moved_past : (s : List (Value d)) (l : ℕ) → ((i : ℕ) → l < i → coef (ValueR d) s i ≡ zero_value) → (i : ℕ) → l < i → coef (ValueR d) (moved (ValueR d) one_value s) i ≡ zero_value
        moved_past s l h = twist-past (ValueR d) (identity (ValueR d)) one_value l s h

        moved_top : (s : List (Value d)) (l : ℕ) → ((i : ℕ) → l < i → coef (ValueR d) s i ≡ zero_value) → coef (ValueR d) (moved (ValueR d) one_value s) l ≡ coef (ValueR d) s l
        moved_top s l h = twist-top (ValueR d) (identity (ValueR d)) one_value l s h

        left : coef (ValueR d) (((a ∷ []) ⊗ moved (ValueR d) one_value p) ⊗ ((one_value ∷ []) ⊗ q)) (m + n) ≡ (a *ᵛ coef (ValueR d) p m) *ᵛ (one_value *ᵛ coef (ValueR d) q n)
        left = coef-mul_top (ValueR d) m n ((a ∷ []) ⊗ moved (ValueR d) one_value p) ((one_value ∷ []) ⊗ q) (past a (moved (ValueR d) one_value p) m (moved_past p m dp.ends)) (past one_value q n dq.ends)
            ∙ ap₂ ◌*ᵛ◌ (coef-scale (ValueR d) a (moved (ValueR d) one_value p) m ∙ ap (λ z. a *ᵛ z) (moved_top p m dp.ends)) (coef-scale (ValueR d) one_value q n)

        right : coef (ValueR d) (((b ∷ []) ⊗ p) ⊗ ((one_value ∷ []) ⊗ moved (ValueR d) one_value q)) (m + n) ≡ (b *ᵛ coef (ValueR d) p m) *ᵛ (one_value *ᵛ coef (ValueR d) q n)
        right = coef-mul_top (ValueR d) m n ((b ∷ []) ⊗ p) ((one_value ∷ []) ⊗ moved (ValueR d) one_value q) (past b p m dp.ends) (past one_value (moved (ValueR d) one_value q) n (moved_past q n dq.ends))
            ∙ ap₂ ◌*ᵛ◌ (coef-scale (ValueR d) b p m) (coef-scale (ValueR d) one_value (moved (ValueR d) one_value q) n ∙ ap (λ z. one_value *ᵛ z) (moved_top q n dq.ends))

    same_factor : (a *ᵛ coef (ValueR d) p m) *ᵛ (one_value *ᵛ coef (ValueR d) q n) ≡ (b *ᵛ coef (ValueR d) p m) *ᵛ (one_value *ᵛ coef (ValueR d) q n) → a ≡ b
    same_factor e = (ValueD d).cancel_mul {c = coef (ValueR d) p m *ᵛ coef (ValueR d) q n} (product_ne (ValueD d) dp.lead dq.lead) (turned (coef (ValueR d) p m) (coef (ValueR d) q n) a ∙ e ∙ sym (turned (coef (ValueR d) p m) (coef (ValueR d) q n) b))
      where
        turned : (x y c : Value d) → (x *ᵛ y) *ᵛ c ≡ (c *ᵛ x) *ᵛ (one_value *ᵛ y)
        turned x y c = ring (ValueR d) (x ∷ y ∷ c ∷ []) (search reads depth 20) refl

  pub scaled_shift : (a b : Value d) (r : Value (suc d)) → ¬ (r ≡ zero_value) → constant_value d a *ᵛ shift_value d r ≡ constant_value d b *ᵛ r → a ≡ b
  scaled_shift a b r h e = go (degree_of (ValueR d) (value_is_zero d) (upper r) (upper_ne r h)) (degree_of (ValueR d) (value_is_zero d) (lower r) (lower_ne r))
    where
      left : constant_value d a *ᵛ shift_value d r ≡ over_value ((a ∷ []) ⊗ moved (ValueR d) one_value (upper r)) ((one_value ∷ []) ⊗ moved (ValueR d) one_value (lower r))
      left = ap (λ z. constant_value d a *ᵛ shift_value d z) (sym (parts_are r)) ∙ ap (λ z. constant_value d a *ᵛ z) (shift_value-over d (upper r) (lower r) (lower_ne r))
          ∙ times a (moved (ValueR d) one_value (upper r)) (moved (ValueR d) one_value (lower r)) (moved_ne (ValueR d) (lower r) (lower_ne r))

      right : constant_value d b *ᵛ r ≡ over_value ((b ∷ []) ⊗ upper r) ((one_value ∷ []) ⊗ lower r)
      right = ap (λ z. constant_value d b *ᵛ z) (sym (parts_are r)) ∙ times b (upper r) (lower r) (lower_ne r)

      cross : ((a ∷ []) ⊗ moved (ValueR d) one_value (upper r)) ⊗ ((one_value ∷ []) ⊗ lower r) ≋ ((b ∷ []) ⊗ upper r) ⊗ ((one_value ∷ []) ⊗ moved (ValueR d) one_value (lower r))
      cross = same_over_value d ((a ∷ []) ⊗ moved (ValueR d) one_value (upper r)) ((one_value ∷ []) ⊗ moved (ValueR d) one_value (lower r)) ((b ∷ []) ⊗ upper r) ((one_value ∷ []) ⊗ lower r)
          (times_ne (moved (ValueR d) one_value (lower r)) (moved_ne (ValueR d) (lower r) (lower_ne r))) (times_ne (lower r) (lower_ne r)) (sym left ∙ e ∙ right)

      go : (m : ℕ) × Degree (ValueR d) m (upper r) → (n : ℕ) × Degree (ValueR d) n (lower r) → a ≡ b
      go m n = same_factor a b (upper r) (lower r) m.0 n.0 m.1 n.1 (crossed a b (upper r) (lower r) m.0 n.0 m.1 n.1 cross)

  inverse_powers : (x y : Value (suc d)) (n : ℕ) → x *ᵛ y ≡ one_value → pow (ValueR (suc d)) x n *ᵛ pow (ValueR (suc d)) y n ≡ one_value
  inverse_powers x y zero e = ring (ValueR (suc d)) [] (search reads depth 8) refl
  inverse_powers x y (suc n) e = turned (pow (ValueR (suc d)) x n) (pow (ValueR (suc d)) y n) x y ∙ ap₂ ◌*ᵛ◌ (inverse_powers x y n e) e ∙ ring (ValueR (suc d)) [] (search reads depth 8) refl
    where
      turned : (u w x y : Value (suc d)) → (u *ᵛ x) *ᵛ (w *ᵛ y) ≡ (u *ᵛ w) *ᵛ (x *ᵛ y)
      turned u w x y = ring (ValueR (suc d)) (u ∷ w ∷ x ∷ y ∷ []) (search reads depth 20) refl

  module _ (c : Value d) (some : ¬ (c ≡ zero_value)) (other : (n : ℕ) → ¬ (pow (ValueR d) c (suc n) ≡ one_value)) where
    κ : Value (suc d)
    κ = constant_value d c

    κ_some : ¬ (constant_value d c ≡ zero_value)
    κ_some z = some (constant_value_zero d c z)

    upward : (n : ℕ) (r : Value (suc d)) → ¬ (r ≡ zero_value) → shift_value d r ≡ (pow (ValueR (suc d)) (constant_value d c) (suc n) *ᵛ one_value) *ᵛ r → ⊥
    upward n r h e = other n (sym (scaled_shift one_value (pow (ValueR d) c (suc n)) r h
        (ap (λ z. z *ᵛ shift_value d r) (constant_valueH d).on-one ∙ once (shift_value d r) ∙ e ∙ first (pow (ValueR (suc d)) (constant_value d c) (suc n)) r ∙ ap (λ z. z *ᵛ r) (sym (on-pow (ValueR d) (ValueR (suc d)) (constant_valueH d) c (suc n))))))
      where
        once : (x : Value (suc d)) → one_value *ᵛ x ≡ x
        once x = ring (ValueR (suc d)) (x ∷ []) (search reads depth 12) refl

        first : (u r : Value (suc d)) → (u *ᵛ one_value) *ᵛ r ≡ u *ᵛ r
        first u r = ring (ValueR (suc d)) (u ∷ r ∷ []) (search reads depth 12) refl

    downward : (n : ℕ) (r : Value (suc d)) → ¬ (r ≡ zero_value) → shift_value d r ≡ (pow (ValueR (suc d)) (Q.inv (constant_value d c)) (suc n) *ᵛ one_value) *ᵛ r → ⊥
    downward n r h e = other n (scaled_shift (pow (ValueR d) c (suc n)) one_value r h
        (ap (λ z. z *ᵛ shift_value d r) (on-pow (ValueR d) (ValueR (suc d)) (constant_valueH d) c (suc n)) ∙ ap (λ z. pow (ValueR (suc d)) (constant_value d c) (suc n) *ᵛ z) e
        ∙ turned (pow (ValueR (suc d)) (constant_value d c) (suc n)) (pow (ValueR (suc d)) (Q.inv (constant_value d c)) (suc n)) r
        ∙ ap (λ z. z *ᵛ r) (inverse_powers (constant_value d c) (Q.inv (constant_value d c)) (suc n) (Q.mul_inv (constant_value d c) κ_some) ∙ sym (constant_valueH d).on-one)))
      where
        turned : (u w r : Value (suc d)) → u *ᵛ ((w *ᵛ one_value) *ᵛ r) ≡ (u *ᵛ w) *ᵛ r
        turned u w r = ring (ValueR (suc d)) (u ∷ w ∷ r ∷ []) (search reads depth 16) refl

    only_zero : (es : List ℤ) → length es ≡ 1 → (r : Value (suc d)) → ¬ (r ≡ zero_value) → shift_value d r ≡ powers (ValueF (suc d)) (constant_value d c ∷ []) es *ᵛ r → AllZero es
    only_zero [] l r h e = absurd (omega (arith, l))
    only_zero (pos zero ∷ []) l r h e = none
      where
        none : (i : ℕ) → get_or (pos 0 ∷ []) i (pos 0) ≡ pos 0
        none zero = refl
        none (suc i) = refl
    only_zero (pos (suc n) ∷ []) l r h e = absurd (upward n r h e)
    only_zero (negsuc n ∷ []) l r h e = absurd (downward n r h e)
    only_zero (z ∷ (w ∷ es)) l r h e = absurd (omega (arith, l))

    pub constant_free : IndependentFactors (constant_value d c ∷ [])
    constant_free = independent_factors (constant_value d c ∷ []) (κ_some, tt) (record { only_zero = only_zero })

-- ---- 2^k

module _ (d : ℕ) where
  counted : (m : ℕ) → suc (suc m) * 2 ≡ suc (suc (m * 2 + 2))
  counted m = omega arith

  large : (n : ℕ) → (m : ℕ) × (pow (ValueR d) (nat (ValueR d) 2) (suc n) ≡ nat (ValueR d) (suc (suc m)))
  large zero = (0, I_mul (ValueR d) {x = nat (ValueR d) 2})
  large (suc n) = next (large n)
    where
      next : (m : ℕ) × (pow (ValueR d) (nat (ValueR d) 2) (suc n) ≡ nat (ValueR d) (suc (suc m))) → (m : ℕ) × (pow (ValueR d) (nat (ValueR d) 2) (suc (suc n)) ≡ nat (ValueR d) (suc (suc m)))
      next r = (r.0 * 2 + 2, ap (λ z. z *ᵛ nat (ValueR d) 2) r.1 ∙ sym (nat-mul (ValueR d) (suc (suc r.0)) 2) ∙ ap (nat (ValueR d)) (counted r.0))

  not_one : (n : ℕ) → ¬ (pow (ValueR d) (nat (ValueR d) 2) (suc n) ≡ one_value)
  not_one n e = go (large n)
    where
      go : (m : ℕ) × (pow (ValueR d) (nat (ValueR d) 2) (suc n) ≡ nat (ValueR d) (suc (suc m))) → ⊥
      go r = numeral_ne d (suc r.0) (omega arith) (less (nat (ValueR d) (suc r.0)) (sym r.1 ∙ e))
        where
          less : (x : Value d) → (ValueR d).◌⊞◌ x one_value ≡ one_value → x ≡ zero_value
          less x h = by (ValueR d) (x ∷ []) h (search reads depth 16) refl

  pub two_free : IndependentFactors (constant_value d (nat (ValueR d) 2) ∷ [])
  two_free = constant_free d (nat (ValueR d) 2) (numeral_ne d 2 (omega arith)) not_one
