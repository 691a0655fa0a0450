-- Rational functions and products along the places from a first one on.
--   units_ne         a product of powers of values other than 0 isn't 0
--   Grows            the products go from one place to the next, each by the value of its factor, which isn't 0
--   growth           products of their powers go by the value of the product of the powers of the factors
--   regular_times    a function g with g = b times the shift of g has values everywhere, if b has
use Rattle.std.proofs.Common.{◌≡◌, ℕ, zero, suc, ◌+◌, ◌<◌, ◌≤◌, ℤ, pos, negsuc, refl, ap, ap₂, ◌∙◌, List, [], ◌∷◌, length, arith}
use Rattle.sg_algebra.specs.Ring.{Ring, Hom}
use Rattle.sg_algebra.proofs.Solver.{ring, reads}
use Rattle.sg_algebra.proofs.Value.{Value, ◌*ᵛ◌, inv_value, zero_value, one_value}
use Rattle.sg_algebra.proofs.ValueField.{ValueR, ValueF, value_one_ne}
use Rattle.sg_tower_theory.specs.Powers.{power, powers}
use Rattle.sg_value_theory.proofs.Evaluation.{pow_has}
use Rattle.sg_value_theory.proofs.Elements.{IsQuotientAt}
use Rattle.sg_value_theory.proofs.Quotients.{quotients, both_ne}
use Rattle.sg_value_theory.proofs.Moving.{inverse-has}
use Rattle.sg_value_theory.proofs.FlatValues.{units_value}
use Rattle.sg_value_theory.proofs.Places.{Places}
use Rattle.sg_answers_theory.proofs.InverseValues.{power_ne, power-mul}

module _ {d : ℕ} where
  -- ---- Values of powers

  pub units_ne : (ts : ℕ → Value d) (es : List ℤ) → ((i : ℕ) → i < length es → ¬ (ts i ≡ zero_value)) → ¬ (units_value ts es ≡ zero_value)
  units_ne ts [] h = value_one_ne d
  units_ne ts (e ∷ es) h = both_ne (power (ValueF d) (ts 0) e) (units_value (λ i. ts (suc i)) es) (power_ne (ts 0) e (h 0 (omega arith))) (units_ne (λ i. ts (suc i)) es (λ i l. h (suc i) (omega (arith, l))))

  power_value : (k : ℤ) (α : Value (suc d)) (a : Value d) (e : ℤ) → IsQuotientAt k α a → ¬ (a ≡ zero_value)
      → IsQuotientAt k (power (ValueF (suc d)) α e) (power (ValueF d) a e)
  power_value k α a (pos n) h ne = pow_has (quotients d k) α a n h
  power_value k α a (negsuc n) h ne = pow_has (quotients d k) (inv_value α) (inv_value a) (suc n) (inverse-has k α a h ne)

  -- the products go from ts to us, each by the value of its factor
  abbrev pub Grows : List (Value (suc d)) → ℤ → (ℕ → Value d) → (ℕ → Value d) → Type 0
  Grows [] k ts us = Unit {0}
  Grows (α ∷ αs) k ts us =
      ((a : Value d) × IsQuotientAt k α a × ¬ (a ≡ zero_value) × ¬ (ts 0 ≡ zero_value) × (us 0 ≡ a *ᵛ ts 0)) × Grows αs k (λ i. ts (suc i)) (λ i. us (suc i))

  pub growth : (αs : List (Value (suc d))) (es : List ℤ) (k : ℤ) (ts us : ℕ → Value d) → length es ≡ length αs → Grows αs k ts us
      → (a : Value d) × IsQuotientAt k (powers (ValueF (suc d)) αs es) a × ¬ (a ≡ zero_value) × (units_value us es ≡ a *ᵛ units_value ts es)
  growth [] [] k ts us l g = (one_value, (quotients d k).one_has, value_one_ne d, ring (ValueR d) [] (search reads depth 12) refl)
  growth [] (e ∷ es) k ts us l g = absurd (omega (arith, l))
  growth (α ∷ αs) [] k ts us l g = absurd (omega (arith, l))
  growth (α ∷ αs) (e ∷ es) k ts us l g =
      let r = growth αs es k (λ i. ts (suc i)) (λ i. us (suc i)) (omega (arith, l)) g.1 in
      let a = g.0.0 in
      let p = power (ValueF d) a e in (
        p *ᵛ r.0,
        (quotients d k).mul_has (power (ValueF (suc d)) α e) (powers (ValueF (suc d)) αs es) p r.0 (power_value k α a e g.0.1 g.0.2) r.1,
        both_ne p r.0 (power_ne a e g.0.2) r.2,
        ap₂ (λ (x y : Value d). x *ᵛ y) (ap (λ z. power (ValueF d) z e) g.0.4 ∙ power-mul a (ts 0) e g.0.2 g.0.3) r.3
            ∙ ring (ValueR d) (p ∷ r.0 ∷ power (ValueF d) (ts 0) e ∷ units_value (λ i. ts (suc i)) es ∷ []) (search reads depth 16) refl,
      )

-- ---- Values everywhere

module _ (R W : Ring) (σ : Hom R R) (places : Places R W σ) where
  open R use {A, ◌≈◌, ◌⊠◌, symm}
  open places use {Has, from, has_past}

  down_times : (g b : A) → g ≈ b ⊠ σ.on g → ((k : ℕ) → (v : W.A) × Has b k v) → (n k : ℕ) → from g ≤ k + n → (v : W.A) × Has g k v
  down_times g b e h zero k l = has_past g k (omega arith)
  down_times g b e h (suc n) k l = go (h k) (down_times g b e h n (suc k) (omega arith))
    where
      go : (v : W.A) × Has b k v → (v : W.A) × Has g (suc k) v → (v : W.A) × Has g k v
      go v u = (W.◌⊠◌ v.0 u.0, places.has_same (b ⊠ σ.on g) g k (W.◌⊠◌ v.0 u.0) (W.◌⊠◌ v.0 u.0) (symm e) W.rfl (places.has_mul b (σ.on g) k v.0 u.0 v.1 (places.has_shift g k u.0 u.1)))

  pub regular_times : (g b : A) → g ≈ b ⊠ σ.on g → ((k : ℕ) → (v : W.A) × Has b k v) → (k : ℕ) → (v : W.A) × Has g k v
  regular_times g b e h k = down_times g b e h (from g) k (omega arith)
