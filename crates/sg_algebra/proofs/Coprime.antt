-- Elements of a ring that are coprime: one is a combination of them. No division is needed here.
--   Coprime R a b                     u a + w b = 1
--   coprime_symm, coprime_same        in the other order, up to equality
--   coprime_unit                      a common divisor is a unit
--   coprime_dvd, coprime_dvd_both     what divides one is coprime to the other; divisors of both are coprime
--   coprime-mul, coprime-pow, coprime_pow_both    to a product, to a power, powers of both
--   gauss                             what divides b c and is coprime to b divides c
--   both_divide                       two coprime divisors of c: their product divides c
--   coprime_on                        maps between rings keep it
--   lowest_divides                    of two equal fractions, the first in lowest terms, the first's parts divide the second's, with one cofactor
--   unit_between                      both in lowest terms: they differ by a unit
use Rattle.std.proofs.Common.{ℕ, zero, suc, refl, [], ◌∷◌}
use Rattle.sg_algebra.specs.Ring.{Ring, Domain, Hom}
use Rattle.sg_algebra.proofs.Ring.{pow}
use Rattle.sg_algebra.proofs.Solver.{by, ring, scale, reads}
use Rattle.sg_algebra.proofs.Divides.{Divides}

pub record Coprime (R : Ring) (a b : R.A) : Type 0 where
  pub u : R.A
  pub w : R.A
  pub comb : R.◌≈◌ (R.◌⊞◌ (R.◌⊠◌ u a) (R.◌⊠◌ w b)) R.I

module _ (R : Ring) where
  open R use {A, ◌≈◌, ◌⊞◌, ◌⊠◌, ⊟, O, I, rfl, symm, trans, add_cong, mul_cong, add_comm}

  pub coprime_symm : (a b : A) → Coprime R a b → Coprime R b a
  coprime_symm a b c = record { u = c.w; w = c.u; comb = trans add_comm c.comb }

  pub coprime_same : (a b a' b' : A) → a ≈ a' → b ≈ b' → Coprime R a b → Coprime R a' b'
  coprime_same a b a' b' h k c = record { u = c.u; w = c.w; comb = trans (add_cong (mul_cong rfl (symm h)) (mul_cong rfl (symm k))) c.comb }

  pub coprime_one : (a : A) → Coprime R a I
  coprime_one a = record { u = O; w = I; comb = ring R (a ∷ []) (search reads depth 12) refl }

  pub coprime_unit : (a b d : A) → Divides R d a → Divides R d b → Coprime R a b → Divides R d I
  coprime_unit a b d p q k = record {
    cofactor = k.u ⊠ p.cofactor ⊞ k.w ⊠ q.cofactor;
    is = by R (a ∷ b ∷ d ∷ k.u ∷ k.w ∷ p.cofactor ∷ q.cofactor ∷ [])
        (add_cong (scale R (⊟ I) k.comb) (add_cong (scale R k.u p.is) (scale R k.w q.is))) (search reads depth 16 fits 4000) refl;
  }

  pub coprime_dvd : (a b d : A) → Divides R d a → Coprime R a b → Coprime R d b
  coprime_dvd a b d p c = record {
    u = c.u ⊠ p.cofactor;
    w = c.w;
    comb = by R (a ∷ b ∷ d ∷ p.cofactor ∷ c.u ∷ c.w ∷ []) (add_cong c.comb (scale R (⊟ c.u) p.is)) (search reads depth 16) refl;
  }

  pub coprime_dvd_both : (a b a' b' : A) → Divides R a' a → Divides R b' b → Coprime R a b → Coprime R a' b'
  coprime_dvd_both a b a' b' p q c = coprime_symm b' a' (coprime_dvd b a' b' q (coprime_symm a' b (coprime_dvd a b a' p c)))

  pub coprime-mul : (a b c : A) → Coprime R a b → Coprime R a c → Coprime R a (b ⊠ c)
  coprime-mul a b c p q = record {
    u = p.u ⊞ p.w ⊠ b ⊠ q.u;
    w = p.w ⊠ q.w;
    comb = by R (a ∷ b ∷ c ∷ p.u ∷ p.w ∷ q.u ∷ q.w ∷ []) (add_cong p.comb (scale R (p.w ⊠ b) q.comb)) (search reads depth 16 fits 4000) refl;
  }

  pub coprime-pow : (a b : A) (n : ℕ) → Coprime R a b → Coprime R a (pow R b n)
  coprime-pow a b zero c = coprime_one a
  coprime-pow a b (suc n) c = coprime-mul a (pow R b n) b (coprime-pow a b n c) c

  pub coprime_pow_both : (a b : A) (m n : ℕ) → Coprime R a b → Coprime R (pow R a m) (pow R b n)
  coprime_pow_both a b m n c = coprime-pow (pow R a m) b n (coprime_symm b (pow R a m) (coprime-pow b a m (coprime_symm a b c)))

  pub gauss : (a b c : A) → Coprime R a b → Divides R a (b ⊠ c) → Divides R a c
  gauss a b c k p = record {
    cofactor = k.u ⊠ c ⊞ k.w ⊠ p.cofactor;
    is = by R (a ∷ b ∷ c ∷ k.u ∷ k.w ∷ p.cofactor ∷ []) (add_cong (scale R k.w p.is) (scale R (⊟ c) k.comb)) (search reads depth 16 fits 4000) refl;
  }

  pub both_divide : (a b c : A) → Coprime R a b → Divides R a c → Divides R b c → Divides R (a ⊠ b) c
  both_divide a b c k p q = record {
    cofactor = k.u ⊠ q.cofactor ⊞ k.w ⊠ p.cofactor;
    is = by R (a ∷ b ∷ c ∷ k.u ∷ k.w ∷ p.cofactor ∷ q.cofactor ∷ [])
        (add_cong (scale R (⊟ c) k.comb) (add_cong (scale R (k.u ⊠ a) q.is) (scale R (k.w ⊠ b) p.is))) (search reads depth 20 fits 4000) refl;
  }

  pub lowest_divides : (p q p' q' : A) → (c : Coprime R p q) → p ⊠ q' ≈ p' ⊠ q → (q' ≈ q ⊠ (c.u ⊠ p' ⊞ c.w ⊠ q')) × (p' ≈ p ⊠ (c.u ⊠ p' ⊞ c.w ⊠ q'))
  lowest_divides p q p' q' c h = (
    by R (p ∷ q ∷ p' ∷ q' ∷ c.u ∷ c.w ∷ []) (add_cong (scale R c.u h) (scale R (⊟ q') c.comb)) (search reads depth 16 fits 4000) refl,
    by R (p ∷ q ∷ p' ∷ q' ∷ c.u ∷ c.w ∷ []) (add_cong (scale R (⊟ p') c.comb) (scale R (⊟ c.w) h)) (search reads depth 16 fits 4000) refl,
  )

module _ (R S : Ring) (σ : Hom R S) where
  open S use {◌≈◌, symm, trans, add_cong}

  pub coprime_on : (a b : R.A) → Coprime R a b → Coprime S (σ.on a) (σ.on b)
  coprime_on a b c = record {
    u = σ.on c.u;
    w = σ.on c.w;
    comb = trans (symm (trans (σ.on-add (R.◌⊠◌ c.u a) (R.◌⊠◌ c.w b)) (add_cong (σ.on-mul c.u a) (σ.on-mul c.w b))))
        (trans (σ.on_cong (R.◌⊞◌ (R.◌⊠◌ c.u a) (R.◌⊠◌ c.w b)) R.I c.comb) σ.on-one);
  }

-- p' and q' are p and q times one unit
pub record UnitBetween (R : Ring) (p q p' q' : R.A) : Type 0 where
  pub m : R.A
  pub m' : R.A
  pub unit : R.◌≈◌ (R.◌⊠◌ m m') R.I
  pub lower : R.◌≈◌ q' (R.◌⊠◌ q m)
  pub upper : R.◌≈◌ p' (R.◌⊠◌ p m)

module _ (D : Domain) where
  open D use {R, cancel_mul}
  open R use {A, ◌≈◌, ◌⊞◌, ◌⊠◌, O, I, symm, add_cong}

  pub unit_between : (p q p' q' : A) → ¬ (q ≈ O) → Coprime R p q → Coprime R p' q' → p ⊠ q' ≈ p' ⊠ q → UnitBetween R p q p' q'
  unit_between p q p' q' n c c' h =
      let a = lowest_divides R p q p' q' c h in
      let b = lowest_divides R p' q' p q c' (symm h) in
      record {
        m = c.u ⊠ p' ⊞ c.w ⊠ q';
        m' = c'.u ⊠ p ⊞ c'.w ⊠ q;
        lower = a.0;
        upper = a.1;
        unit = unit q q' _ _ n a.0 b.0;
      }
    where
      unit : (q q' m m' : A) → ¬ (q ≈ O) → q' ≈ q ⊠ m → q ≈ q' ⊠ m' → m ⊠ m' ≈ I
      unit q q' m m' n h k = cancel_mul n (by R (q ∷ q' ∷ m ∷ m' ∷ []) (symm (add_cong k (scale R m' h))) (search reads depth 16) refl)
