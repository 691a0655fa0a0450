-- Arrays at j = k + m, modulo a common divisor h of a(k) and b(k + m): there a step is a multiplication by m.
--   array_at R d e m w      the polynomial in k that the array w is at j = k + m
--   Common R d e a b m h    h divides a and b(k + m), for a and b monic of degrees d and e
--   step_modulo             the array after a step is m times the array before, modulo h
--   start_modulo            the start is 1, modulo h
--   iterate_modulo          the start after t steps is m^t, modulo h
use Rattle.std.proofs.Common.{ℕ, zero, suc, refl, List, [], ◌∷◌}
use Rattle.sg_algebra.specs.Ring.{Ring}
use Rattle.sg_algebra.specs.Coefficients.{coef}
use Rattle.sg_algebra.proofs.Ring.{pow, O_add}
use Rattle.sg_algebra.proofs.Solver.{by, scale, reads}
use Rattle.sg_algebra.proofs.Divides.{Divides, dvd_same}
use Rattle.sg_algebra.proofs.PolynomialRing.{PolyR, X, cons-is, constantH, no_coefficient, constant-mul}
use Rattle.sg_algebra.proofs.Degree.{Monic}
use Rattle.sg_algebra.proofs.Evaluation.{compose-X}
use Rattle.sg_algebra.proofs.Shift.{moved}
use Rattle.sg_dispersion_theory.proofs.Modulo.{Modulo, modulo_same, modulo_trans, modulo-scale, modulo_unit}
use Rattle.sg_dispersion_theory.proofs.Terms.{earlier, first_terms, value-monic}
use Rattle.sg_dispersion_theory.proofs.Step.{start, step, step_by, iterate, array_value, monic_value, array_value_cong, step-on, step-value, start-value}

module _ (R : Ring) where
  open R use {A, O, I}

  abbrev pub array_at : (d e : ℕ) → A → (ℕ → ℕ → A) → List A
  array_at d e m w = array_value (PolyR R) d e (λ l i. w l i ∷ []) (X R) (m ∷ I ∷ [])

  pub record Common (d e : ℕ) (a b : List A) (m : A) (h : List A) : Type 0 where
    pub monic_a : Monic R d a
    pub monic_b : Monic R e b
    pub of_a : Divides (PolyR R) h a
    pub of_b : Divides (PolyR R) h (moved R m b)

module _ (R : Ring) (d e : ℕ) (a b : List R.A) (m : R.A) (h : List R.A) (c : Common R d e a b m h) where
  open R use {A, ◌≈◌, ◌⊞◌, ◌⊠◌, ⊟, O, I}
  open PolyR R use {◌≈◌ as ◌≋◌, ◌⊞◌ as ◌⊕◌, ◌⊠◌ as ◌⊗◌, ⊟ as ⊖}

  abbrev P : Ring
  P = PolyR R

  abbrev shifted : List A
  shifted = m ∷ I ∷ []

  -- the coefficients as constants
  abbrev const_a : ℕ → List A
  const_a i = coef R a i ∷ []

  abbrev const_b : ℕ → List A
  const_b l = coef R b l ∷ []

  shifted-is : shifted ≋ (m ∷ []) ⊕ X R
  shifted-is = P.trans (cons-is R m (I ∷ [])) (P.add_cong {x = m ∷ []} {y = m ∷ []} {u = X R ⊗ (I ∷ [])} {v = X R} P.rfl P.mul_I)

  monic_a-is : monic_value P const_a d (X R) ≋ a
  monic_a-is = P.symm (P.trans (P.symm (compose-X R a)) (value-monic R P (constantH R) (X R) d a c.monic_a))

  monic_b-is : monic_value P const_b e shifted ≋ moved R m b
  monic_b-is = P.symm (value-monic R P (constantH R) shifted e b c.monic_b)

  -- T is the array after a step, E the one before, j = k + m
  joined : (T E j k M A B a' b' L G ca cb : List A) → T ≋ (j ⊕ ⊖ k) ⊗ E ⊕ A ⊗ L ⊕ ⊖ G ⊗ B → j ≋ M ⊕ k → A ≋ a' → B ≋ b' → a' ≋ h ⊗ ca → b' ≋ h ⊗ cb
      → T ⊕ ⊖ (M ⊗ E) ≋ h ⊗ (ca ⊗ L ⊕ ⊖ (cb ⊗ G))
  joined T E j k M A B a' b' L G ca cb h₀ h₁ h₂ h₃ h₄ h₅ =
      by P (T ∷ E ∷ j ∷ k ∷ M ∷ A ∷ B ∷ L ∷ G ∷ ca ∷ cb ∷ h ∷ [])
      (P.add_cong h₀ (P.add_cong (scale P E h₁) (P.add_cong (scale P L (P.trans h₂ h₄)) (scale P (⊖ G) (P.trans h₃ h₅))))) (search reads depth 24 fits 8000) refl

  pub step_modulo : (w : ℕ → ℕ → A) → Modulo P h (array_at R d e m (step R d e a b w)) ((m ∷ []) ⊗ array_at R d e m w)
  step_modulo w = record {
    cofactor = c.of_a.cofactor ⊗ ends ⊕ ⊖ (c.of_b.cofactor ⊗ last_line);
    is = joined (array_at R d e m (step R d e a b w)) (array_at R d e m w) shifted (X R) (m ∷ []) (monic_value P const_a d (X R)) (monic_value P const_b e shifted) a (moved R m b)
        ends last_line c.of_a.cofactor c.of_b.cofactor value shifted-is monic_a-is monic_b-is c.of_a.is c.of_b.is;
  }
    where
      -- the entries of w as constants, the polynomial of the last entries of the lines, and the last line
      constants : ℕ → ℕ → List A
      constants l i = w l i ∷ []

      ends : List A
      ends = first_terms P (λ l. earlier P (constants l) d) e shifted

      last_line : List A
      last_line = earlier P (λ l. first_terms P (constants l) d (X R)) e

      value : array_at R d e m (step R d e a b w) ≋ (shifted ⊕ ⊖ (X R)) ⊗ array_at R d e m w ⊕ monic_value P const_a d (X R) ⊗ ends ⊕ ⊖ last_line ⊗ monic_value P const_b e shifted
      value =
          P.trans (array_value_cong P d e (λ l i. step R d e a b w l i ∷ []) (step_by P d e const_a const_b constants) (X R) shifted (λ l i p q. step-on R P (constantH R) d e (coef R a) (coef R b) w l i))
          (step-value P d e const_a const_b constants (X R) shifted)

  pub start_modulo : Modulo P h (array_at R d e m (start R)) (I ∷ [])
  start_modulo = go d e monic_a-is monic_b-is
    where
      constant_start : (l i : ℕ) → (start R l i ∷ []) ≋ start P l i
      constant_start zero zero = P.rfl
      constant_start zero (suc i) = no_coefficient R
      constant_start (suc l) i = no_coefficient R

      one : (d e : ℕ) → array_at R (suc d) (suc e) m (start R) ≋ (I ∷ [])
      one d e = P.trans (array_value_cong P (suc d) (suc e) (λ l i. start R l i ∷ []) (start P) (X R) shifted (λ l i p q. constant_start l i)) (start-value P d e (X R) shifted)

      -- where a or b is the constant 1, h divides 1
      go : (d e : ℕ) → monic_value P const_a d (X R) ≋ a → monic_value P const_b e shifted ≋ moved R m b → Modulo P h (array_at R d e m (start R)) (I ∷ [])
      go zero e s t = modulo_unit P h (array_at R 0 e m (start R)) (I ∷ []) (dvd_same P h a h (I ∷ []) P.rfl (P.trans (P.symm s) (O_add P)) c.of_a)
      go (suc d) zero s t = modulo_unit P h (array_at R (suc d) 0 m (start R)) (I ∷ []) (dvd_same P h (moved R m b) h (I ∷ []) P.rfl (P.trans (P.symm t) (O_add P)) c.of_b)
      go (suc d) (suc e) s t = modulo_same P h (array_at R (suc d) (suc e) m (start R)) (I ∷ []) (one d e)

  pub iterate_modulo : (t : ℕ) → Modulo P h (array_at R d e m (iterate R d e a b t)) (pow R m t ∷ [])
  iterate_modulo zero = start_modulo
  iterate_modulo (suc t) = next (array_at R d e m (iterate R d e a b (suc t))) (array_at R d e m (iterate R d e a b t)) (m ∷ []) (pow R m t ∷ []) (pow R m (suc t) ∷ [])
      (P.trans (P.mul_comm {x = m ∷ []} {y = pow R m t ∷ []}) (P.symm (constant-mul R (pow R m t) m))) (step_modulo (iterate R d e a b t)) (iterate_modulo t)
    where
      next : (T E M p q : List A) → M ⊗ p ≋ q → Modulo P h T (M ⊗ E) → Modulo P h E p → Modulo P h T q
      next T E M p q s u v = modulo_trans P h T (M ⊗ E) q u (modulo_trans P h (M ⊗ E) (M ⊗ p) q (modulo-scale P h M E p v) (modulo_same P h (M ⊗ p) q s))
