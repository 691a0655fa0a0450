-- Elements of a ring that stay coprime under every number of steps of a map.
--   Apart R σ a b        a is coprime to b and to each later image of b, and b to each later image of a
--   apart_symm, apart_one, apart-mul, apart-mul_left, apart-pow, apart_dvd    in the other order, to one, to products, to powers, for divisors of both
--   apart_unit           a unit is apart from all
use Rattle.std.proofs.Common.{ℕ, zero, suc}
use Rattle.sg_algebra.specs.Ring.{Ring, Hom}
use Rattle.sg_algebra.proofs.Ring.{pow}
use Rattle.sg_algebra.proofs.Divides.{Divides, iter, iter-mul, dvd_iter}
use Rattle.sg_algebra.proofs.Coprime.{Coprime, coprime_symm, coprime_same, coprime_one, coprime_dvd, coprime_dvd_both, coprime-mul}

module _ (R : Ring) (σ : Hom R R) where
  open R use {A, ◌≈◌, ◌⊠◌, I, rfl, symm}

  pub record Apart (a b : A) : Type 0 where
    pub ahead : (m : ℕ) → Coprime R a (iter R σ m b)
    pub behind : (m : ℕ) → Coprime R b (iter R σ m a)

  pub apart_symm : (a b : A) → Apart a b → Apart b a
  apart_symm a b h = record { ahead = h.behind; behind = h.ahead }

  one_coprime : (a : A) → Coprime R I a
  one_coprime a = coprime_symm R a I (coprime_one R a)

  pub unit_coprime : (c a : A) → Divides R c I → Coprime R c a
  unit_coprime c a h = coprime_dvd R I a c h (one_coprime a)

  unit_after : (m : ℕ) (c : A) → Divides R c I → Divides R (iter R σ m c) I
  unit_after zero c h = h
  unit_after (suc m) c h = record {
    cofactor = σ.on (unit_after m c h).cofactor;
    is = R.trans (symm σ.on-one) (R.trans (σ.on_cong I (iter R σ m c ⊠ (unit_after m c h).cofactor) (unit_after m c h).is) (σ.on-mul (iter R σ m c) (unit_after m c h).cofactor));
  }

  pub apart_unit : (c a : A) → Divides R c I → Apart c a
  apart_unit c a h = record {
    ahead = λ m. unit_coprime c (iter R σ m a) h;
    behind = λ m. coprime_symm R (iter R σ m c) a (unit_coprime (iter R σ m c) a (unit_after m c h));
  }

  one_unit : Divides R I I
  one_unit = record { cofactor = I; is = symm R.mul_I }

  pub apart_one : (a : A) → Apart I a
  apart_one a = apart_unit I a one_unit

  pub apart-mul : (a b c : A) → Apart a b → Apart a c → Apart a (b ⊠ c)
  apart-mul a b c h k = record {
    ahead = λ m. coprime_same R a (iter R σ m b ⊠ iter R σ m c) a (iter R σ m (b ⊠ c)) rfl (symm (iter-mul R σ m b c)) (coprime-mul R a (iter R σ m b) (iter R σ m c) (h.ahead m) (k.ahead m));
    behind = λ m. coprime_symm R (iter R σ m a) (b ⊠ c) (coprime-mul R (iter R σ m a) b c (coprime_symm R b (iter R σ m a) (h.behind m)) (coprime_symm R c (iter R σ m a) (k.behind m)));
  }

  pub apart-mul_left : (a b c : A) → Apart a c → Apart b c → Apart (a ⊠ b) c
  apart-mul_left a b c h k = apart_symm c (a ⊠ b) (apart-mul c a b (apart_symm a c h) (apart_symm b c k))

  pub apart-pow : (a b : A) (n : ℕ) → Apart a b → Apart a (pow R b n)
  apart-pow a b zero h = apart_symm I a (apart_one a)
  apart-pow a b (suc n) h = apart-mul a (pow R b n) b (apart-pow a b n h) h

  pub apart-pow_left : (a b : A) (n : ℕ) → Apart a b → Apart (pow R a n) b
  apart-pow_left a b n h = apart_symm b (pow R a n) (apart-pow b a n (apart_symm a b h))

  pub apart_dvd : (a b a' b' : A) → Divides R a' a → Divides R b' b → Apart a b → Apart a' b'
  apart_dvd a b a' b' p q h = record {
    ahead = λ m. coprime_dvd_both R a (iter R σ m b) a' (iter R σ m b') p (dvd_iter R σ m b' b q) (h.ahead m);
    behind = λ m. coprime_dvd_both R b (iter R σ m a) b' (iter R σ m a') q (dvd_iter R σ m a' a p) (h.behind m);
  }
