-- The degree of a solution, where t is a new sum: no difference below is β, and only constants are fixed below.
--   Constants C B           equality to zero is decided among the constants' images, and only constants are fixed
--   no_top                  no new degree: else β would be a difference below
--   degree_bound            a solution has at most one degree more than the right sides
--   constants_above         with one more sum only constants are fixed
use Rattle.std.proofs.Common.{ℕ, zero, suc, ◌≤◌, ◌<◌, refl, List, [], ◌∷◌, arith, length}
use Rattle.sg_algebra.specs.Ring.{Ring, Field}
use Rattle.sg_algebra.specs.Coefficients.{coef, Each}
use Rattle.sg_algebra.proofs.Ring.{nat}
use Rattle.sg_algebra.proofs.Solver.{by, scale, reads}
use Rattle.sg_algebra.proofs.Field.{product_ne, domain}
use Rattle.sg_algebra.proofs.Divides.{on-O, on-neg, on-nat}
use Rattle.sg_algebra.proofs.Lists.{each_to}
use Rattle.sg_algebra.proofs.PolynomialRing.{PolyR}
use Rattle.sg_algebra.proofs.Degree.{Below}
use Rattle.sg_algebra.proofs.Shift.{twist}
use Rattle.sg_tower_theory.proofs.Difference.{Difference, delta, total_O, on-total, Solves}
use Rattle.sg_tower_theory.proofs.Ends.{below_length, lowered}
use Rattle.sg_tower_theory.proofs.Above.{above, Delta, coefficient_at, delta-top, delta-second}

-- only constants are fixed
abbrev pub OnlyConstants : {C R : Ring} → Difference C R → Type 0
OnlyConstants {C} {R} B = (x : R.A) → R.◌≈◌ (B.σ.on x) x → (k : C.A) × R.◌≈◌ x (B.κ.on k)

-- no difference is β
abbrev pub IsNew : {C R : Ring} → Difference C R → R.A → Type 0
IsNew {C} {R} B β = (g : R.A) → ¬ (R.◌≈◌ (delta B g) β)

module _ (F : Field) (char : (n : ℕ) → ¬ (F.R.◌≈◌ (nat F.R (suc n)) F.R.O)) {R : Ring} (B : Difference F.R R) (β : R.A) (only : OnlyConstants B) (new : IsNew B β) where
  open B use {σ, κ, fixed}
  open R use {A, ◌≈◌, ◌⊞◌, ◌⊠◌, ⊟, O, I, rfl, symm, trans, add_cong, mul_cong, neg_cong, add_O, mul_comm, mul_I}
  open PolyR R use {◌≈◌ as ◌≋◌, ◌⊞◌ as ◌⊕◌, ◌⊠◌ as ◌⊗◌, ⊟ as ⊖}

  abbrev C : Ring
  C = F.R

  pub no_top : (n : ℕ) (g : List A) → Below R (suc (suc n)) g → coef R (Delta B β g) (suc n) ≈ O → coef R (Delta B β g) n ≈ O → coef R g (suc n) ≈ O
  no_top n g b top second = go (only l (by R (l ∷ σ.on l ∷ []) (trans (symm (delta-top B β (suc n) g b)) top) (search reads depth 12) refl))
    where
      l : A
      l = coef R g (suc n)

      u : A
      u = coef R g n

      below : σ.on u ⊞ β ⊠ (nat R (suc n) ⊠ σ.on l) ⊞ ⊟ u ≈ O
      below = trans (symm (delta-second B β n g b)) second

      go : (k : C.A) × (l ≈ κ.on k) → l ≈ O
      go p = elim (F.is_zero p.0) [ yes z ↦ trans p.1 (trans (κ.on_cong p.0 C.O z) (on-O C R κ)) | no z ↦ absurd (clash p.0 z p.1) ]
        where
          clash : (k : C.A) → ¬ (C.◌≈◌ k C.O) → l ≈ κ.on k → ⊥
          clash k z e = new (⊟ u ⊠ κ.on (F.inv c)) (trans (add_cong (trans (σ.on-mul (⊟ u) (κ.on (F.inv c))) (mul_cong (on-neg R R σ u) (fixed (F.inv c)))) rfl)
              (by R (u ∷ σ.on u ∷ β ∷ κ.on c ∷ κ.on (F.inv c) ∷ []) (add_cong (scale R (⊟ (κ.on (F.inv c))) equation) (scale R β whole)) (search reads depth 20 fits 4000) refl))
            where
              c : C.A
              c = C.◌⊠◌ (nat C (suc n)) k

              whole : κ.on c ⊠ κ.on (F.inv c) ≈ I
              whole = trans (symm (κ.on-mul c (F.inv c))) (trans (κ.on_cong (C.◌⊠◌ c (F.inv c)) C.I (F.mul_inv c (product_ne (domain F) (char n) z))) κ.on-one)

              last : nat R (suc n) ⊠ σ.on l ≈ κ.on c
              last = trans (mul_cong (symm (on-nat C R κ (suc n))) (trans (σ.on_cong l (κ.on k) e) (fixed k))) (symm (κ.on-mul (nat C (suc n)) k))

              equation : σ.on u ⊞ β ⊠ κ.on c ⊞ ⊟ u ≈ O
              equation = trans (add_cong (add_cong rfl (mul_cong rfl (symm last))) rfl) below

  -- right sides below d: solutions below d + 1
  pub degree_bound : {X : Type 0} (m : X → List A) (fs : List X) (d : ℕ) → Each (λ f. Below R d (m f)) fs → (c : ℕ → C.A) (g : List A) → Solves (above B β) m fs c g → Below R (suc d) g
  degree_bound m fs d short c g s = lowered R (suc d) g at (length g) (below_length R g)
    where
      right : (k : ℕ) → d ≤ k → coef R (Delta B β g) k ≈ O
      right k l = trans (s.image.at k) (trans (on-total (above B β) B (coefficient_at B β k) m c fs)
          (total_O B (λ f. coef R (m f) k) c fs (each_to (λ f. Below R d (m f)) (λ f. coef R (m f) k ≈ O) fs (λ f b. b.none_from k l) short)))

      at : (n : ℕ) → suc d ≤ n → ((i : ℕ) → n < i → coef R g i ≈ O) → coef R g n ≈ O
      at zero l h = absurd (omega arith)
      at (suc n) l h = no_top n g (record { none_from = λ i q. h i q }) (right (suc n) (omega arith)) (right n (omega arith))

  pub constants_above : OnlyConstants (above B β)
  constants_above g h = go (only (coef R g 0) (by R (coef R g 0 ∷ σ.on (coef R g 0) ∷ []) (trans (symm (delta-top B β 0 g one)) (flat.image.at 0)) (search reads depth 12) refl))
    where
      flat : Delta B β g ≋ []
      flat = by (PolyR R) (g ∷ twist R σ β g ∷ []) h (search reads depth 12) refl

      one : Below R 1 g
      one = degree_bound (λ (x : List A). x) [] 0 tt (λ i. C.O) g flat

      go : (k : C.A) × (coef R g 0 ≈ κ.on k) → (k : C.A) × (g ≋ (κ.on k ∷ []))
      go p = (p.0, record { image = record { at = at } })
        where
          at : (n : ℕ) → coef R g n ≈ coef R (κ.on p.0 ∷ []) n
          at zero = p.1
          at (suc n) = one.none_from (suc n) (omega arith)
