-- A list D of factors with D(j - k) = 0 modulo a(k) and b(j): where D(m) isn't 0, a(k) and b(k + m) are coprime.
--   weighted R d e a b D n       D₀ w₀ + .. + D_(n - 1) w_(n - 1), entry by entry, where w_t is the start after t steps
--   Certificate R d e a b D      this sum over all factors is zero in each entry
--   certificate                  so each common divisor of a(k) and b(k + m) divides D(m)
--   coprime_at                   and a(k) and b(k + m) are coprime, where D(m) isn't 0, over a field
use Rattle.std.proofs.Common.{ℕ, zero, suc, ◌≤◌, ◌<◌, refl, List, [], ◌∷◌, length, arith}
use Rattle.sg_algebra.specs.Ring.{Ring, Field}
use Rattle.sg_algebra.specs.Coefficients.{coef, eval}
use Rattle.sg_algebra.proofs.Ring.{pow}
use Rattle.sg_algebra.proofs.Solver.{by, scale, reads}
use Rattle.sg_algebra.proofs.Sums.{sum}
use Rattle.sg_algebra.proofs.Divides.{Divides, dvd_same, dvd_O, identity}
use Rattle.sg_algebra.proofs.Coprime.{Coprime}
use Rattle.sg_algebra.proofs.PolynomialRing.{PolyR, X, no_coefficient, one_coefficient, constant-mul}
use Rattle.sg_algebra.proofs.Degree.{Below, Monic}
use Rattle.sg_algebra.proofs.Division.{bezoutPoly}
use Rattle.sg_algebra.proofs.Shift.{moved}
use Rattle.sg_dispersion_theory.proofs.Modulo.{Modulo, modulo_same, modulo_trans, modulo-add, modulo-scale, dvd_modulo}
use Rattle.sg_dispersion_theory.proofs.Terms.{first_terms, value-first_terms}
use Rattle.sg_dispersion_theory.proofs.Step.{iterate, array_value_cong, array_value-more, array_value-zero}
use Rattle.sg_dispersion_theory.proofs.Multiples.{array_at, Common, iterate_modulo}

module _ (R : Ring) (d e : ℕ) (a b : List R.A) where
  open R use {A, ◌≈◌, ◌⊠◌, O}

  -- the first n factors times the start after 0, 1, .. steps, entry by entry
  abbrev pub weighted : List A → ℕ → ℕ → ℕ → A
  weighted D n l i = sum R (λ t. coef R D t ⊠ iterate R d e a b t l i) n

  pub record Certificate (D : List A) : Type 0 where
    pub none : (l i : ℕ) → l < e → i < d → weighted D (length D) l i ≈ O

module _ (R : Ring) (d e : ℕ) (a b : List R.A) (m : R.A) (h : List R.A) (c : Common R d e a b m h) where
  open R use {A, ◌≈◌, ◌⊞◌, ◌⊠◌, ⊟, O, I}
  open PolyR R use {◌≈◌ as ◌≋◌, ◌⊞◌ as ◌⊕◌, ◌⊠◌ as ◌⊗◌, ⊟ as ⊖}

  abbrev P : Ring
  P = PolyR R

  weighted-constant : (D : List A) (n l i : ℕ) → (weighted R d e a b D (suc n) l i ∷ []) ≋ (weighted R d e a b D n l i ∷ []) ⊕ (coef R D n ∷ []) ⊗ (iterate R d e a b n l i ∷ [])
  weighted-constant D n l i =
      P.add_cong {x = weighted R d e a b D n l i ∷ []} {y = weighted R d e a b D n l i ∷ []} {u = (coef R D n ⊠ iterate R d e a b n l i) ∷ []} {v = (coef R D n ∷ []) ⊗ (iterate R d e a b n l i ∷ [])}
      P.rfl (constant-mul R (coef R D n) (iterate R d e a b n l i))

  array-more : (D : List A) (n : ℕ) → array_at R d e m (weighted R d e a b D (suc n)) ≋ array_at R d e m (weighted R d e a b D n) ⊕ (coef R D n ∷ []) ⊗ array_at R d e m (iterate R d e a b n)
  array-more D n =
      P.trans (array_value_cong P d e (λ l i. weighted R d e a b D (suc n) l i ∷ []) (λ l i. (weighted R d e a b D n l i ∷ []) ⊕ (coef R D n ∷ []) ⊗ (iterate R d e a b n l i ∷ [])) (X R) (m ∷ I ∷ [])
      (λ l i p q. weighted-constant D n l i))
      (array_value-more P d e (λ l i. weighted R d e a b D n l i ∷ []) (λ l i. iterate R d e a b n l i ∷ []) (coef R D n ∷ []) (X R) (m ∷ I ∷ []))

  terms-more : (D : List A) (n : ℕ) → (first_terms R (coef R D) (suc n) m ∷ []) ≋ (first_terms R (coef R D) n m ∷ []) ⊕ (coef R D n ∷ []) ⊗ (pow R m n ∷ [])
  terms-more D n =
      P.add_cong {x = first_terms R (coef R D) n m ∷ []} {y = first_terms R (coef R D) n m ∷ []} {u = (coef R D n ⊠ pow R m n) ∷ []} {v = (coef R D n ∷ []) ⊗ (pow R m n ∷ [])} P.rfl (constant-mul R (coef R D n) (pow R m n))

  -- the first n powers with their factors are D's first n terms at m
  weighted_modulo : (D : List A) (n : ℕ) → Modulo P h (array_at R d e m (weighted R d e a b D n)) (first_terms R (coef R D) n m ∷ [])
  weighted_modulo D zero = modulo_same P h (array_at R d e m (weighted R d e a b D 0)) (O ∷ [])
      (P.trans (array_value-zero P d e (λ l i. O ∷ []) (X R) (m ∷ I ∷ []) (λ l i p q. no_coefficient R)) (P.symm (no_coefficient R)))
  weighted_modulo D (suc n) =
      more (array_at R d e m (weighted R d e a b D (suc n))) (array_at R d e m (weighted R d e a b D n)) (array_at R d e m (iterate R d e a b n)) (coef R D n ∷ []) (pow R m n ∷ [])
      (first_terms R (coef R D) n m ∷ []) (first_terms R (coef R D) (suc n) m ∷ []) (array-more D n) (terms-more D n) (weighted_modulo D n) (iterate_modulo R d e a b m h c n)
    where
      more : (T S E C p q r : List A) → T ≋ S ⊕ C ⊗ E → r ≋ q ⊕ C ⊗ p → Modulo P h S q → Modulo P h E p → Modulo P h T r
      more T S E C p q r s t u v =
          modulo_trans P h T (S ⊕ C ⊗ E) r (modulo_same P h T (S ⊕ C ⊗ E) s)
          (modulo_trans P h (S ⊕ C ⊗ E) (q ⊕ C ⊗ p) r (modulo-add P h S q (C ⊗ E) (C ⊗ p) u (modulo-scale P h C E p v)) (modulo_same P h (q ⊕ C ⊗ p) r (P.symm t)))

  length_below : (D : List A) → Below R (length D) D
  length_below D = record { none_from = none D }
    where
      none : (D : List A) (n : ℕ) → length D ≤ n → coef R D n ≈ O
      none [] n l = R.rfl
      none (c ∷ D) zero l = absurd (omega arith)
      none (c ∷ D) (suc n) l = none D n (omega arith)

  pub certificate : (D : List A) → Certificate R d e a b D → Divides P h (eval R D m ∷ [])
  certificate D z =
      dvd_modulo P h (array_at R d e m (weighted R d e a b D (length D))) (eval R D m ∷ []) (dvd_same P h [] h (array_at R d e m (weighted R d e a b D (length D))) P.rfl (P.symm zero_array) (dvd_O P h))
      (modulo_trans P h (array_at R d e m (weighted R d e a b D (length D))) (first_terms R (coef R D) (length D) m ∷ []) (eval R D m ∷ [])
      (weighted_modulo D (length D)) (modulo_same P h (first_terms R (coef R D) (length D) m ∷ []) (eval R D m ∷ []) (P.symm value)))
    where
      zero_array : array_at R d e m (weighted R d e a b D (length D)) ≋ []
      zero_array = array_value-zero P d e (λ l i. weighted R d e a b D (length D) l i ∷ []) (X R) (m ∷ I ∷ [])
          (λ l i p q. P.trans (one_coefficient R (weighted R d e a b D (length D) l i) O (z.none l i p q)) (no_coefficient R))

      value : (eval R D m ∷ []) ≋ (first_terms R (coef R D) (length D) m ∷ [])
      value = one_coefficient R (eval R D m) (first_terms R (coef R D) (length D) m) (value-first_terms R R (identity R) m (length D) D (length_below D))

-- ---- Over a field

module _ (F : Field) where
  open F use {R, inv, mul_inv}
  open R use {A, ◌≈◌, ◌⊞◌, ◌⊠◌, O, I, trans, add_O}
  open PolyR R use {◌≈◌ as ◌≋◌, ◌⊞◌ as ◌⊕◌, ◌⊠◌ as ◌⊗◌, ⊟ as ⊖}

  constant_unit : (x : A) → ¬ (x ≈ O) → (x ∷ []) ⊗ (inv x ∷ []) ≋ (I ∷ [])
  constant_unit x n = (PolyR R).trans ((PolyR R).symm (constant-mul R x (inv x))) (one_coefficient R (x ⊠ inv x) I (mul_inv x n))

  -- g is a combination of a and b, and divides the unit x
  coprime_by : (a b g u w z x y : List A) → u ⊗ a ⊕ w ⊗ b ≋ g → x ≋ g ⊗ z → x ⊗ y ≋ (I ∷ []) → Coprime (PolyR R) a b
  coprime_by a b g u w z x y h k l = record {
    u = (y ⊗ z) ⊗ u;
    w = (y ⊗ z) ⊗ w;
    comb = by (PolyR R) (a ∷ b ∷ g ∷ u ∷ w ∷ z ∷ x ∷ y ∷ [])
        ((PolyR R).add_cong (scale (PolyR R) (y ⊗ z) h) ((PolyR R).add_cong (scale (PolyR R) (⊖ y) k) l)) (search reads depth 20 fits 6000) refl;
  }

  pub coprime_at : (d e : ℕ) (a b D : List A) (m : A) → Monic R d a → Monic R e b → Certificate R d e a b D → ¬ (eval R D m ≈ O) → Coprime (PolyR R) a (moved R m b)
  coprime_at d e a b D m p q z n =
      let g = bezoutPoly F a (moved R m b) in
      let v = certificate R d e a b m g.g (record { monic_a = p; monic_b = q; of_a = record { cofactor = g.s; is = (PolyR R).symm g.of_a }; of_b = record { cofactor = g.t; is = (PolyR R).symm g.of_b } }) D z in
      coprime_by a (moved R m b) g.g g.u g.w v.cofactor (eval R D m ∷ []) (inv (eval R D m) ∷ []) g.comb v.is (constant_unit (eval R D m) n)
