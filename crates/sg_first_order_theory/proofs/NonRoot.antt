-- Over a field of characteristic 0: a polynomial that isn't 0 has whole numbers that aren't its roots, and two polynomials that aren't 0 have no common divisor but units, when one is moved far enough.
--   nat_apart          numerals are apart
--   NonRoot p          a whole number that is no root of p; nonroot: there is one
--   coprime_somewhere  a(k) and b(k + n) are coprime for some n
use Rattle.std.proofs.Common.{◌≡◌, ℕ, zero, suc, ◌+◌, ◌-◌, ◌≤◌, ◌<◌, refl, sym, subst, List, [], ◌∷◌, ◌⊎◌, inl, inr, length, arith}
use Rattle.sg_algebra.specs.Ring.{Field}
use Rattle.sg_algebra.specs.Coefficients.{coef, eval, Each}
use Rattle.sg_algebra.proofs.Ring.{nat, nat-add}
use Rattle.sg_algebra.proofs.Solver.{by, reads}
use Rattle.sg_algebra.proofs.Field.{domain}
use Rattle.sg_algebra.proofs.Divides.{dvd_on, dvd-scale, dvd_refl}
use Rattle.sg_algebra.proofs.Coprime.{Coprime, coprime_dvd_both}
use Rattle.sg_algebra.proofs.PolynomialRing.{PolyR}
use Rattle.sg_algebra.proofs.Degree.{Degree, degree_of}
use Rattle.sg_algebra.proofs.PolynomialLowest.{monic_multiple}
use Rattle.sg_algebra.proofs.Roots.{Distinct, roots_zero}
use Rattle.sg_algebra.proofs.Shift.{moved, movedH}
use Rattle.sg_dispersion_theory.proofs.SomeCertificate.{SomeCertificate, some_certificate}
use Rattle.sg_dispersion_theory.proofs.Certificate.{coprime_at}

module _ (F : Field) (char : (n : ℕ) → ¬ (F.R.◌≈◌ (nat F.R (suc n)) F.R.O)) where
  open F use {R, is_zero, inv}
  open R use {A, ◌≈◌, ◌⊞◌, ◌⊠◌, ⊟, O, I, rfl, symm, trans, add_cong, mul_cong}
  open PolyR R use {◌≈◌ as ◌≋◌, ◌⊠◌ as ◌⊗◌}

  pub nat_apart : (i n : ℕ) → i < n → ¬ (nat R i ≈ nat R n)
  nat_apart i n l e = char (n - suc i) (by R (nat R i ∷ nat R n ∷ nat R (suc (n - suc i)) ∷ []) (add_cong (symm e) (symm parts)) (search reads depth 16) refl)
    where
      same : n ≡ suc (n - suc i) + i
      same = omega arith

      parts : nat R n ≈ nat R (suc (n - suc i)) ⊞ nat R i
      parts = subst (λ (k : ℕ). nat R k ≈ nat R (suc (n - suc i)) ⊞ nat R i) (sym same) (nat-add R (suc (n - suc i)) i)

  abbrev downs : ℕ → List A
  downs zero = []
  downs (suc n) = nat R n ∷ downs n

  length-downs : (n : ℕ) → length (downs n) ≡ n
  length-downs zero = refl
  length-downs (suc n) = rw (length-downs n) refl

  apart : (n m : ℕ) → m ≤ n → Each (λ y. ¬ (y ≈ nat R n)) (downs m)
  apart n zero l = tt
  apart n (suc m) l = (nat_apart m n (omega arith), apart n m (omega arith))

  distinct : (n : ℕ) → Distinct R (downs n)
  distinct zero = tt
  distinct (suc n) = (apart n n (omega arith), distinct n)

  pub record NonRoot (p : List A) : Type 0 where
    pub n : ℕ
    pub ne : ¬ (eval R p (nat R n) ≈ O)

  try_all : (p : List A) (n : ℕ) → Each (λ y. eval R p y ≈ O) (downs n) ⊎ NonRoot p
  try_all p zero = inl tt
  try_all p (suc n) = go (is_zero (eval R p (nat R n))) (try_all p n)
    where
      go : Dec (eval R p (nat R n) ≈ O) → Each (λ y. eval R p y ≈ O) (downs n) ⊎ NonRoot p → Each (λ y. eval R p y ≈ O) (downs (suc n)) ⊎ NonRoot p
      go (no h) t = inr (record { n = n; ne = h })
      go (yes h) (inl t) = inl (h, t)
      go (yes h) (inr t) = inr t

  past : (p : List A) (i : ℕ) → length p ≤ i → coef R p i ≈ O
  past [] i l = rfl
  past (a ∷ p) zero l = absurd (omega arith)
  past (a ∷ p) (suc i) l = past p i (omega arith)

  pub nonroot : (p : List A) → ¬ (p ≋ []) → NonRoot p
  nonroot p h = go (try_all p (length p))
    where
      go : Each (λ y. eval R p y ≈ O) (downs (length p)) ⊎ NonRoot p → NonRoot p
      go (inl z) = absurd (h (roots_zero (domain F) (downs (length p)) p (distinct (length p)) z (record { none_from = λ n l. past p n (rw (length-downs (length p)) at l) })))
      go (inr t) = t

  pub coprime_somewhere : (a b : List A) → ¬ (a ≋ []) → ¬ (b ≋ []) → (n : ℕ) × Coprime (PolyR R) a (moved R (nat R n) b)
  coprime_somewhere a b h k = go (degree_of R is_zero a h) (degree_of R is_zero b k)
    where
      go : (n : ℕ) × Degree R n a → (n : ℕ) × Degree R n b → (n : ℕ) × Coprime (PolyR R) a (moved R (nat R n) b)
      go x y = made (some_certificate F x.0 y.0 a' b')
        where
          a' : List A
          a' = (inv (coef R a x.0) ∷ []) ⊗ a

          b' : List A
          b' = (inv (coef R b y.0) ∷ []) ⊗ b

          made : SomeCertificate F x.0 y.0 a' b' → (n : ℕ) × Coprime (PolyR R) a (moved R (nat R n) b)
          made s = (
            r.n,
            coprime_dvd_both (PolyR R) a' (moved R (nat R r.n) b') a (moved R (nat R r.n) b)
                (dvd-scale (PolyR R) a (inv (coef R a x.0) ∷ []) a (dvd_refl (PolyR R) a))
                (dvd_on (PolyR R) (PolyR R) (movedH R (nat R r.n)) b b' (dvd-scale (PolyR R) b (inv (coef R b y.0) ∷ []) b (dvd_refl (PolyR R) b)))
                (coprime_at F x.0 y.0 a' b' s.D (nat R r.n) (monic_multiple F x.0 a x.1) (monic_multiple F y.0 b y.1) s.is r.ne),
          )
            where
              r : NonRoot s.D
              r = nonroot s.D (λ z. s.some.ne (z.image.at s.some.place))
