-- Denominators of solutions of A σ(g) - B g = C, over a domain with a map σ: where A is coprime to all later images of B, the denominator is a unit.
--   Sides A B q         σ(q) divides A q, and q divides B σ(q)
--   sides               the denominator q of a solution p/q in lowest terms is so
--   terminal_step       where q is coprime to its image after m + 1 steps, a common divisor of q and its image after m steps is a unit
--   descend             so q is a unit, where q and some image of it are coprime
use Rattle.std.proofs.Common.{ℕ, zero, suc, refl, [], ◌∷◌}
use Rattle.sg_algebra.specs.Ring.{Ring, Domain, Hom}
use Rattle.sg_algebra.proofs.Solver.{by, scale, reads}
use Rattle.sg_algebra.proofs.Divides.{Divides, dvd_trans, dvd_same, dvd_on, dvd_refl, iter, iter-on, iter-mul, dvd_iter}
use Rattle.sg_algebra.proofs.Coprime.{Coprime, coprime_symm, coprime_dvd, coprime_unit, coprime_on, gauss}
use Rattle.sg_algebra.proofs.Euclid.{Bezout, bezout_dvd, coprime_of_unit}

module _ (R : Ring) (σ : Hom R R) where
  open R use {A, ◌≈◌, ◌⊞◌, ◌⊠◌, ⊟, O, I, rfl, symm, trans, add_cong, mul_cong, mul_comm}

  pub record Sides (a b q : A) : Type 0 where
    pub upper : Divides R (σ.on q) (a ⊠ q)
    pub lower : Divides R q (b ⊠ σ.on q)

  pub sides : (a b c p q : A) → Coprime R p q → a ⊠ (σ.on p ⊠ q) ⊞ ⊟ (b ⊠ (p ⊠ σ.on q)) ≈ c ⊠ (q ⊠ σ.on q) → Sides a b q
  sides a b c p q k h = record {
    upper = gauss R (σ.on q) (σ.on p) (a ⊠ q) (coprime_symm R (σ.on p) (σ.on q) (coprime_on R R σ p q k))
        (record { cofactor = b ⊠ p ⊞ c ⊠ q; is = by R (a ∷ b ∷ c ∷ p ∷ q ∷ σ.on p ∷ σ.on q ∷ []) h (search reads depth 16 fits 4000) refl });
    lower = gauss R q p (b ⊠ σ.on q) (coprime_symm R p q k)
        (record { cofactor = a ⊠ σ.on p ⊞ ⊟ (c ⊠ σ.on q); is = by R (a ∷ b ∷ c ∷ p ∷ q ∷ σ.on p ∷ σ.on q ∷ []) (scale R (⊟ I) h) (search reads depth 16 fits 4000) refl });
  }

  abbrev after : ℕ → A → A
  after n x = iter R σ n x

  pub terminal_step : (a b q : A) → Sides a b q → (m : ℕ) → Coprime R a (after (suc m) b) → Coprime R q (after (suc m) q)
      → (h : A) → Divides R h q → Divides R h (after m q) → Divides R (σ.on h) I
  terminal_step a b q s m apart far h hq hm = coprime_unit R a (after (suc m) b) (σ.on h) left right apart
    where
      left : Divides R (σ.on h) a
      left = gauss R (σ.on h) q a (coprime_dvd R (after (suc m) q) q (σ.on h) (dvd_on R R σ h (after m q) hm) (coprime_symm R q (after (suc m) q) far))
          (dvd_trans R (σ.on h) (σ.on q) (q ⊠ a) (dvd_on R R σ h q hq) (dvd_same R (σ.on q) (a ⊠ q) (σ.on q) (q ⊠ a) rfl mul_comm s.upper))

      wide : Divides R (after m q) (after (suc m) q ⊠ after m b)
      wide = dvd_same R (after m q) (after m (b ⊠ σ.on q)) (after m q) (after (suc m) q ⊠ after m b) rfl
          (trans (iter-mul R σ m b (σ.on q)) (trans (mul_cong rfl (iter-on R σ m q)) mul_comm)) (dvd_iter R σ m q (b ⊠ σ.on q) s.lower)

      right : Divides R (σ.on h) (after (suc m) b)
      right = dvd_on R R σ h (after m b) (gauss R h (after (suc m) q) (after m b) (coprime_dvd R q (after (suc m) q) h hq far) (dvd_trans R h (after m q) (after (suc m) q ⊠ after m b) hm wide))

module _ (D : Domain) (σ : Hom D.R D.R) where
  open D use {R}
  open R use {A, I}

  module _ (bez : (a b : A) → Bezout R a b) (back : (h : A) → Divides R (σ.on h) I → Divides R h I) where
    pub descend : (a b q : A) → Sides R σ a b q → ((m : ℕ) → Coprime R a (iter R σ (suc m) b)) → (m : ℕ) → Coprime R q (iter R σ m q) → Divides R q I
    descend a b q s apart zero c = coprime_unit R q q q (dvd_refl R q) (dvd_refl R q) c
    descend a b q s apart (suc m) c =
        let g = bez q (iter R σ m q) in
        let both = bezout_dvd R q (iter R σ m q) g in
        descend a b q s apart m (coprime_of_unit R q (iter R σ m q) g (back g.g (terminal_step R σ a b q s m (apart m) c g.g both.0 both.1)))
