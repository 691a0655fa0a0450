-- Powers with natural and with whole exponents, and products of powers.
--   power_zero, power_even, power_odd    by squaring
--   power_negative, power_natural        by the sign of the exponent
--   powers_start, powers_step, powers_end    the product that grows by one power after the other
use Rattle.std.proofs.Common.{◌≡◌, ℕ, zero, suc, ◌+◌, ◌/◌, ◌%◌, ◌<◌, ◌≤◌, refl, sym, ap, ap₂, ◌∙◌, List, [], ◌∷◌, map, length, take, get_or, ℤ, pos, negsuc, ◌<ℤ◌, unsigned_abs, arith}
use Rattle.std.proofs.lemmas.Int.{ints}
use Rattle.std.proofs.lemmas.List.{take_all}
use Rattle.sg_algebra.specs.Ring.{Field}
use Rattle.sg_algebra.specs.Coefficients.{Each}
use Rattle.sg_algebra.proofs.Field.{domain, product_ne, inv_ne}
use Rattle.sg_algebra.proofs.Ring.{pow, pow-add}
use Rattle.sg_algebra.proofs.Value.{Value, one_value, inv_value, ◌*ᵛ◌, ◌/ᵛ◌}
use Rattle.sg_algebra.proofs.ValueField.{ValueR, ValueF, value_mul_comm, value_mul-one, value_mul_assoc}
use Rattle.sg_tower_theory.specs.Powers.{power, powers}

natural_ne : (F : Field) (x : F.R.A) (n : ℕ) → ¬ (F.R.◌≈◌ x F.R.O) → ¬ (F.R.◌≈◌ (pow F.R x n) F.R.O)
natural_ne F x zero h = F.one_ne
natural_ne F x (suc n) h = product_ne (domain F) (natural_ne F x n h) h

half_twice : (n : ℕ) → n % 2 ≡ 0 → n / 2 + n / 2 ≡ n
half_twice n e = omega (arith, e)

half_odd : (n : ℕ) → ¬ (n % 2 ≡ 0) → suc (n / 2 + n / 2) ≡ n
half_odd n e = omega (arith, e)

module _ {d : ℕ} where
  pub power_zero : (x r : Value d) (n : ℕ) → n ≡ 0 → r ≡ one_value → r ≡ pow (ValueR d) x n
  power_zero x r n e h = rw e h

  pub power_even : (x h s : Value d) (n : ℕ) → n % 2 ≡ 0 → h ≡ pow (ValueR d) x (n / 2) → s ≡ h *ᵛ h → s ≡ pow (ValueR d) x n
  power_even x h s n e k q = q ∙ ap (λ y. y *ᵛ y) k ∙ sym (pow-add (ValueR d) x (n / 2) (n / 2)) ∙ ap (pow (ValueR d) x) (half_twice n e)

  pub power_odd : (x h s r : Value d) (n : ℕ) → ¬ (n % 2 ≡ 0) → h ≡ pow (ValueR d) x (n / 2) → s ≡ h *ᵛ h → r ≡ s *ᵛ x → r ≡ pow (ValueR d) x n
  power_odd x h s r n e k q p = p ∙ ap (λ y. y *ᵛ x) (q ∙ ap (λ y. y *ᵛ y) k ∙ sym (pow-add (ValueR d) x (n / 2) (n / 2))) ∙ ap (pow (ValueR d) x) (half_odd n e)

  pub power_negative : (x i o r : Value d) (e : ℤ) → e <ℤ pos 0 → o ≡ one_value → i ≡ o /ᵛ x → r ≡ pow (ValueR d) i (unsigned_abs e) → r ≡ power (ValueF d) x e
  power_negative x i o r (pos n) l h k q = absurd (omega (arith, ints))
  power_negative x i o r (negsuc n) l h k q = q ∙ ap (λ y. pow (ValueR d) y (suc n)) (k ∙ ap (λ y. y /ᵛ x) h ∙ value_mul_comm d one_value (inv_value x) ∙ value_mul-one d (inv_value x))

  pub power_natural : (x r : Value d) (e : ℤ) → ¬ (e <ℤ pos 0) → r ≡ pow (ValueR d) x (unsigned_abs e) → r ≡ power (ValueF d) x e
  power_natural x r (pos n) l q = q
  power_natural x r (negsuc n) l q = absurd (l (below n))
    where
      below : (n : ℕ) → negsuc n <ℤ pos 0
      below n = omega (arith, ints)

  module _ {K : Type 0} (v : K → Value d) where
    powers_next : (ks : List K) (es : List ℤ) (i : ℕ) (a : K) → i < length ks → length es ≡ length ks → a ≡ get_or ks i a
        → powers (ValueF d) (map v (take (suc i) ks)) (take (suc i) es) ≡ powers (ValueF d) (map v (take i ks)) (take i es) *ᵛ power (ValueF d) (v a) (get_or es i (pos 0))
    powers_next [] es i a l k at = absurd (omega arith)
    powers_next (b ∷ ks) [] i a l k at = absurd (omega (arith, k))
    powers_next (b ∷ ks) (e ∷ es) zero a l k at = value_mul_comm d (power (ValueF d) (v b) e) one_value ∙ ap (λ (c : K). one_value *ᵛ power (ValueF d) (v c) e) (sym at)
    powers_next (b ∷ ks) (e ∷ es) (suc i) a l k at = ap (λ y. power (ValueF d) (v b) e *ᵛ y) (powers_next ks es i a (omega arith) (omega (arith, k)) at)
        ∙ sym (value_mul_assoc d (power (ValueF d) (v b) e) (powers (ValueF d) (map v (take i ks)) (take i es)) (power (ValueF d) (v a) (get_or es i (pos 0))))

    pub powers_step : (ks : List K) (es : List ℤ) (i : ℕ) (a : K) (e : ℤ) (p r s : Value d) → i < length ks → length es ≡ length ks → a ≡ get_or ks i a → get_or es i (pos 0) ≡ e → s ≡ power (ValueF d) (v a) e
        → p ≡ powers (ValueF d) (map v (take i ks)) (take i es) → r ≡ p *ᵛ s → r ≡ powers (ValueF d) (map v (take (i + 1) ks)) (take (i + 1) es)
    powers_step ks es i a e p r s l k at ae q h m = let j : i + 1 ≡ suc i = omega arith in m ∙ ap₂ ◌*ᵛ◌ h (q ∙ ap (power (ValueF d) (v a)) (sym ae)) ∙ sym (powers_next ks es i a l k at) ∙ ap (λ n. powers (ValueF d) (map v (take n ks)) (take n es)) (sym j)

    pub powers_end : (ks : List K) (es : List ℤ) (i : ℕ) (p : Value d) → length ks ≤ i → length es ≡ length ks → p ≡ powers (ValueF d) (map v (take i ks)) (take i es) → p ≡ powers (ValueF d) (map v ks) es
    powers_end ks es i p l k h = h ∙ ap₂ (λ xs ys. powers (ValueF d) (map v xs) ys) (take_all i ks l) (take_all i es (omega (arith, k)))

-- ---- Powers of what isn't 0

power_ne : (F : Field) (x : F.R.A) (e : ℤ) → ¬ (F.R.◌≈◌ x F.R.O) → ¬ (F.R.◌≈◌ (power F x e) F.R.O)
power_ne F x (pos n) h = natural_ne F x n h
power_ne F x (negsuc n) h = natural_ne F (F.inv x) (suc n) (inv_ne F x h)

pub powers_ne : (F : Field) (xs : List F.R.A) (es : List ℤ) → Each (λ x. ¬ (F.R.◌≈◌ x F.R.O)) xs → ¬ (F.R.◌≈◌ (powers F xs es) F.R.O)
powers_ne F [] es h = F.one_ne
powers_ne F (x ∷ xs) [] h = F.one_ne
powers_ne F (x ∷ xs) (e ∷ es) h = product_ne (domain F) (power_ne F x e h.0) (powers_ne F xs es h.1)
