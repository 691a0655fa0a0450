-- Elements of a ring with a map σ, none of whose images have common divisors.
--   Free a           a is coprime to each later image of itself
--   Apart a b        a is coprime to each image of b, and b to each of a
--   apart_symm, apart-mul, apart-pow, apart_dvd     in the other order, to products and powers, of divisors
--   apart_radical    where c divides a power of b, a stays apart from it; free_radical: what divides a power of b is free as b is
--   free-mul         the product of two that are free and apart is free
--   greatest_split   where a is coprime to its images after more than h steps, e divides a and its image after h steps, and a divides a power of e, then a is coprime to its image after h steps too
use Rattle.std.proofs.Common.{ℕ, zero, suc, ◌+◌, ◌<◌, subst, arith}
use Rattle.sg_algebra.specs.Ring.{Ring, Hom}
use Rattle.sg_algebra.proofs.Ring.{pow}
use Rattle.sg_algebra.proofs.Divides.{Divides, dvd_same, dvd_refl, iter, iter-mul, dvd_iter}
use Rattle.sg_algebra.proofs.Coprime.{Coprime, coprime_symm, coprime_same, coprime_dvd, coprime_dvd_both, coprime_one, coprime-mul, coprime-pow, coprime_pow_both}

module _ (R : Ring) (σ : Hom R R) where
  open R use {A, ◌≈◌, ◌⊠◌, I, rfl, symm, trans, mul_cong}

  abbrev pub Free : A → Type 0
  Free a = (m : ℕ) → Coprime R a (iter R σ (suc m) a)

  pub record Apart (a b : A) : Type 0 where
    pub later : (m : ℕ) → Coprime R a (iter R σ m b)
    pub sooner : (m : ℕ) → Coprime R b (iter R σ m a)

  pub apart_symm : (a b : A) → Apart a b → Apart b a
  apart_symm a b p = record { later = p.sooner; sooner = p.later }

  iter-one : (m : ℕ) → iter R σ m I ≈ I
  iter-one zero = rfl
  iter-one (suc m) = trans (σ.on_cong (iter R σ m I) I (iter-one m)) σ.on-one

  pub iter-pow : (m : ℕ) (b : A) (n : ℕ) → iter R σ m (pow R b n) ≈ pow R (iter R σ m b) n
  iter-pow m b zero = iter-one m
  iter-pow m b (suc n) = trans (iter-mul R σ m (pow R b n) b) (mul_cong (iter-pow m b n) rfl)

  pub apart_one : (a : A) → Apart a I
  apart_one a = record {
    later = λ m. coprime_same R a I a (iter R σ m I) rfl (symm (iter-one m)) (coprime_one R a);
    sooner = λ m. coprime_symm R (iter R σ m a) I (coprime_one R (iter R σ m a));
  }

  pub free_one : Free I
  free_one m = coprime_same R I I I (iter R σ (suc m) I) rfl (symm (iter-one (suc m))) (coprime_one R I)

  pub coprime_iter_mul : (m : ℕ) (a b c : A) → Coprime R a (iter R σ m b) → Coprime R a (iter R σ m c) → Coprime R a (iter R σ m (b ⊠ c))
  coprime_iter_mul m a b c p q = coprime_same R a (iter R σ m b ⊠ iter R σ m c) a (iter R σ m (b ⊠ c)) rfl (symm (iter-mul R σ m b c)) (coprime-mul R a (iter R σ m b) (iter R σ m c) p q)

  pub coprime_mul_left : (a b c : A) → Coprime R a c → Coprime R b c → Coprime R (a ⊠ b) c
  coprime_mul_left a b c p q = coprime_symm R c (a ⊠ b) (coprime-mul R c a b (coprime_symm R a c p) (coprime_symm R b c q))

  pub apart-mul : (a b c : A) → Apart a b → Apart a c → Apart a (b ⊠ c)
  apart-mul a b c p q = record {
    later = λ m. coprime_iter_mul m a b c (p.later m) (q.later m);
    sooner = λ m. coprime_mul_left b c (iter R σ m a) (p.sooner m) (q.sooner m);
  }

  pub apart_dvd : (a b c : A) → Divides R c b → Apart a b → Apart a c
  apart_dvd a b c d p = record {
    later = λ m. coprime_dvd_both R a (iter R σ m b) a (iter R σ m c) (dvd_refl R a) (dvd_iter R σ m c b d) (p.later m);
    sooner = λ m. coprime_dvd R b (iter R σ m a) c d (p.sooner m);
  }

  pub apart-pow : (a b : A) (n : ℕ) → Apart a b → Apart a (pow R b n)
  apart-pow a b n p = record {
    later = λ m. coprime_same R a (pow R (iter R σ m b) n) a (iter R σ m (pow R b n)) rfl (symm (iter-pow m b n)) (coprime-pow R a (iter R σ m b) n (p.later m));
    sooner = λ m. coprime_symm R (iter R σ m a) (pow R b n) (coprime-pow R (iter R σ m a) b n (coprime_symm R b (iter R σ m a) (p.sooner m)));
  }

  pub apart_radical : (a b c : A) (n : ℕ) → Divides R c (pow R b n) → Apart a b → Apart a c
  apart_radical a b c n d p = apart_dvd a (pow R b n) c d (apart-pow a b n p)

  pub free_radical : (b c : A) (n : ℕ) → Divides R c (pow R b n) → Free b → Free c
  free_radical b c n d f m = coprime_dvd_both R (pow R b n) (iter R σ (suc m) (pow R b n)) c (iter R σ (suc m) c) d (dvd_iter R σ (suc m) c (pow R b n) d)
      (coprime_same R (pow R b n) (pow R (iter R σ (suc m) b) n) (pow R b n) (iter R σ (suc m) (pow R b n)) rfl (symm (iter-pow (suc m) b n)) (coprime_pow_both R b (iter R σ (suc m) b) n n (f m)))

  pub free-mul : (a b : A) → Free a → Free b → Apart a b → Free (a ⊠ b)
  free-mul a b f g p m = coprime_iter_mul (suc m) (a ⊠ b) a b
      (coprime_mul_left a b (iter R σ (suc m) a) (f m) (p.sooner (suc m)))
      (coprime_mul_left a b (iter R σ (suc m) b) (p.later (suc m)) (g m))

  iter-iter : (m n : ℕ) (a : A) → iter R σ m (iter R σ n a) ≈ iter R σ (m + n) a
  iter-iter zero n a = subst (λ (k : ℕ). iter R σ n a ≈ iter R σ k a) {x = n} {y = zero + n} (omega arith) rfl
  iter-iter (suc m) n a = subst (λ (k : ℕ). iter R σ (suc m) (iter R σ n a) ≈ iter R σ k a) {x = suc (m + n)} {y = suc m + n} (omega arith) (σ.on_cong (iter R σ m (iter R σ n a)) (iter R σ (m + n) a) (iter-iter m n a))

  pub greatest_split : (a e : A) (h n : ℕ) → ((m : ℕ) → h < m → Coprime R a (iter R σ m a)) → 0 < h → Divides R e (iter R σ h a) → Divides R a (pow R e n) → Coprime R a (iter R σ h a)
  greatest_split a e h n far l d p = coprime_dvd_both R a (iter R σ h (pow R e n)) a (iter R σ h a) (dvd_refl R a) (dvd_iter R σ h a (pow R e n) p)
      (coprime_same R a (pow R (iter R σ h e) n) a (iter R σ h (pow R e n)) rfl (symm (iter-pow h e n)) (coprime-pow R a (iter R σ h e) n
      (coprime_dvd_both R a (iter R σ (h + h) a) a (iter R σ h e) (dvd_refl R a)
      (dvd_same R (iter R σ h e) (iter R σ h (iter R σ h a)) (iter R σ h e) (iter R σ (h + h) a) rfl (iter-iter h h a) (dvd_iter R σ h e (iter R σ h a) d))
      (far (h + h) (omega arith)))))
