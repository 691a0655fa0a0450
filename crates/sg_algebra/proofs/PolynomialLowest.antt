-- Lowest terms of polynomials.
--   unit_constant        over a domain, a unit is a constant
--   monic_same           two monic polynomials that differ by a constant factor are equal: the factor is 1
--   lowest_same_poly     two equal fractions of polynomials over a field, in lowest terms with monic denominators, have the same parts
--   monic_multiple       each polynomial over a field with a degree becomes monic by a constant factor
use Rattle.std.proofs.Common.{◌≡◌, ℕ, zero, suc, ◌+◌, ◌<◌, List, [], ◌∷◌, ◌⊎◌, inl, inr, add-zero, arith}
use Rattle.sg_algebra.specs.Ring.{Ring, Domain, Field}
use Rattle.sg_algebra.specs.Coefficients.{coef}
use Rattle.sg_algebra.proofs.Ring.{mul_O, O_mul}
use Rattle.sg_algebra.proofs.PolynomialRing.{PolyR, coef-scale}
use Rattle.sg_algebra.proofs.Degree.{Degree, Monic, degree_same, degree_unique, degree_or_zero, degree-mul, coef-mul_top, coef-mul_past, PolyD, poly_one_ne}
use Rattle.sg_algebra.proofs.Coprime.{Coprime, unit_between}

module _ (D : Domain) where
  open D use {R, is_zero, one_ne}
  open R use {A, ◌≈◌, O, I, rfl, trans, symm, mul_cong, mul_comm, mul_I}
  open PolyR R use {◌≈◌ as ◌≋◌, ◌⊠◌ as ◌⊗◌}

  abbrev P : Ring
  P = PolyR R

  degree_one : Degree R 0 (I ∷ [])
  degree_one = record { lead = one_ne; ends = go }
    where
      go : (i : ℕ) → 0 < i → coef R (I ∷ []) i ≈ O
      go zero l = absurd (omega arith)
      go (suc i) l = rfl

  pub unit_constant : (m m' : List A) → m ⊗ m' ≋ (I ∷ []) → (i : ℕ) → 0 < i → coef R m i ≈ O
  unit_constant m m' e i l = go (degree_or_zero R is_zero m) (degree_or_zero R is_zero m')
    where
      go : (m ≋ []) ⊎ ((n : ℕ) × Degree R n m) → (m' ≋ []) ⊎ ((n : ℕ) × Degree R n m') → coef R m i ≈ O
      go (inl z) b = absurd (poly_one_ne D (P.trans (P.symm e) (P.trans (P.mul_cong z P.rfl) (O_mul P {x = m'}))))
      go (inr a) (inl z) = absurd (poly_one_ne D (P.trans (P.symm e) (P.trans (P.mul_cong P.rfl z) (mul_O P {x = m}))))
      go (inr a) (inr b) =
          let s : a.0 + b.0 ≡ 0 = degree_unique R (a.0 + b.0) 0 (m ⊗ m') (degree-mul D a.0 b.0 m m' a.1 b.1) (degree_same R 0 (I ∷ []) (m ⊗ m') (P.symm e) degree_one) in
          a.1.ends i (omega arith)

  pub monic_ne : (n : ℕ) (q : List A) → Monic R n q → ¬ (q ≋ [])
  monic_ne n q a z = one_ne (trans (symm a.top) (z.image.at n))

  monic_degree : (n : ℕ) (q : List A) → Monic R n q → Degree R n q
  monic_degree n q a = record { lead = λ z. one_ne (trans (symm a.top) z); ends = a.ends }

  pub monic_same : (n n' : ℕ) (q q' m : List A) → Monic R n q → Monic R n' q' → q' ≋ q ⊗ m → ((i : ℕ) → 0 < i → coef R m i ≈ O) → m ≋ (I ∷ [])
  monic_same n n' q q' m a b e c = record { image = record { at = at } }
    where
      lead : coef R (q ⊗ m) n ≈ coef R m 0
      lead = trans (rw (add-zero n) at (coef-mul_top R n 0 q m a.ends c)) (trans (mul_cong a.top rfl) (trans mul_comm mul_I))

      past : (i : ℕ) → n < i → coef R (q ⊗ m) i ≈ O
      past i l = coef-mul_past R n 0 q m a.ends c i (omega arith)

      at0 : Dec (coef R m 0 ≈ O) → coef R m 0 ≈ I
      at0 (yes z) = absurd (monic_ne n' q' b (P.trans e (P.trans (P.mul_cong {x = q} {y = q} P.rfl gone) (mul_O P {x = q}))))
        where
          gone : m ≋ []
          gone = record { image = record { at = all } }
            where
              all : (i : ℕ) → coef R m i ≈ O
              all zero = z
              all (suc i) = c (suc i) (omega arith)
      at0 (no h) =
          let s : n ≡ n' = degree_unique R n n' (q ⊗ m) (record { lead = λ z. h (trans (symm lead) z); ends = past }) (degree_same R n' q' (q ⊗ m) e (monic_degree n' q' b)) in
          trans (symm lead) (trans (symm (e.image.at n)) (rw s b.top))

      at : (i : ℕ) → coef R m i ≈ coef R (I ∷ []) i
      at zero = at0 (is_zero (coef R m 0))
      at (suc i) = c (suc i) (omega arith)

  pub lowest_same_poly : (n n' : ℕ) (p q p' q' : List A) → Monic R n q → Monic R n' q' → Coprime P p q → Coprime P p' q' → p ⊗ q' ≋ p' ⊗ q → (p ≋ p') × (q ≋ q')
  lowest_same_poly n n' p q p' q' a b c c' h =
      let w = unit_between (PolyD D) p q p' q' (monic_ne n q a) c c' h in
      let one : w.m ≋ (I ∷ []) = monic_same n n' q q' w.m a b w.lower (unit_constant w.m w.m' w.unit) in
      (P.symm (by_one p p' w.m w.upper one), P.symm (by_one q q' w.m w.lower one))
    where
      by_one : (p p' m : List A) → p' ≋ p ⊗ m → m ≋ (I ∷ []) → p' ≋ p
      by_one p p' m e o = P.trans e (P.trans (P.mul_cong P.rfl o) P.mul_I)

module _ (F : Field) where
  open F use {R, inv, mul_inv}
  open R use {A, ◌≈◌, O, trans, mul_cong, mul_comm, rfl}
  open PolyR R use {◌⊠◌ as ◌⊗◌}

  pub monic_multiple : (n : ℕ) (q : List A) → Degree R n q → Monic R n ((inv (coef R q n) ∷ []) ⊗ q)
  monic_multiple n q d = record {
    top = trans (coef-scale R (inv (coef R q n)) q n) (trans mul_comm (mul_inv (coef R q n) d.lead));
    ends = λ i l. trans (coef-scale R (inv (coef R q n)) q i) (trans (mul_cong rfl (d.ends i l)) (mul_O R));
  }
