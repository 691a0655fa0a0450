-- Polynomials in the variable c t: their coefficients times powers of c.
--   scaled-back         c times scaled c p at c t is c^(n + 1) p
--   scaled_dvd          p divides scaled c p at c t
--   of_scaled           scaled c p at c t divides p
--   dvd_scaled          scaled c p divides p at t / c
--   unscaled_coprime    the other way round
--   scaled_coprime      where scaled c a is coprime to scaled c b moved by c β, a is coprime to b moved by β
use Rattle.std.proofs.Common.{ℕ, zero, suc, List, [], ◌∷◌, length, refl}
use Rattle.sg_algebra.specs.Ring.{Ring, Field}
use Rattle.sg_algebra.specs.Coefficients.{coef}
use Rattle.sg_num.specs.Scaled.{scaled as scaled_in}
use Rattle.sg_algebra.proofs.Ring.{pow, mul_O}
use Rattle.sg_algebra.proofs.Field.{domain, product_ne}
use Rattle.sg_algebra.proofs.Solver.{ring, by, scale, reads}
use Rattle.sg_algebra.proofs.Divides.{Divides, dvd_same, dvd_on}
use Rattle.sg_algebra.proofs.Coprime.{Coprime, coprime_same, coprime_dvd_both, coprime_on}
use Rattle.sg_algebra.proofs.PolynomialRing.{PolyR, X, cons-is, constantH, one_coefficient}
use Rattle.sg_algebra.proofs.Evaluation.{compose, composeH, compose_cong, compose-compose, compose-X}
use Rattle.sg_algebra.proofs.Shift.{moved, movedH, moved_cong}

module _ (F : Field) where
  open F use {R, inv, mul_inv}
  open R use {A, ◌≈◌, ◌⊞◌, ◌⊠◌, ⊟, O, I, rfl, symm, trans, mul_comm}
  open PolyR R use {◌≈◌ as ◌≋◌, ◌⊞◌ as ◌⊕◌, ◌⊠◌ as ◌⊗◌, ⊟ as ⊖}

  abbrev P : Ring
  P = PolyR R

  abbrev scaled : A → List A → List A
  scaled c p = scaled_in R c p

  -- the polynomial c t
  abbrev pub times : A → List A
  times c = O ∷ c ∷ []

  times-is : (c : A) → times c ≋ X R ⊗ (c ∷ [])
  times-is c = P.trans (cons-is R O (c ∷ [])) (P.trans (P.add_cong {x = O ∷ []} {y = []} zero_constant P.rfl) (P.trans (P.add_comm {x = []} {y = X R ⊗ (c ∷ [])}) (P.add_O {x = X R ⊗ (c ∷ [])})))
    where
      zero_constant : (O ∷ []) ≋ []
      zero_constant = record { image = record { at = go } }
        where
          go : (n : ℕ) → coef R (O ∷ []) n ≈ O
          go zero = rfl
          go (suc n) = rfl

  step : (t u c d x w k s p : List A) → u ≋ t ⊗ c → w ≋ x ⊗ d → k ≋ x ⊕ t ⊗ p → c ⊗ s ≋ d ⊗ p → c ⊗ (w ⊕ u ⊗ s) ≋ (d ⊗ c) ⊗ k
  step t u c d x w k s p h i j m = by P (t ∷ u ∷ c ∷ d ∷ x ∷ w ∷ k ∷ s ∷ p ∷ [])
      (P.add_cong (scale P c i) (P.add_cong (scale P (c ⊗ s) h) (P.add_cong (scale P (t ⊗ c) m) (scale P (⊖ (d ⊗ c)) j)))) (search reads depth 24 fits 5000) refl

  pub scaled-back : (c : A) (p : List A) → (c ∷ []) ⊗ compose R (scaled c p) (times c) ≋ (pow R c (length p) ∷ []) ⊗ p
  scaled-back c [] = P.trans (mul_O P {x = c ∷ []}) (P.symm (mul_O P {x = I ∷ []}))
  scaled-back c (x ∷ p) =
      let d = pow R c (length p) in
      P.trans
      (step (X R) (times c) (c ∷ []) (d ∷ []) (x ∷ []) ((x ⊠ d) ∷ []) (x ∷ p) (compose R (scaled c p) (times c)) p (times-is c) ((constantH R).on-mul x d) (cons-is R x p) (scaled-back c p))
      (P.mul_cong {x = (d ∷ []) ⊗ (c ∷ [])} {y = (d ⊠ c) ∷ []} {u = x ∷ p} {v = x ∷ p} (P.symm ((constantH R).on-mul d c)) P.rfl)

  pow_ne : (c : A) (n : ℕ) → ¬ (c ≈ O) → ¬ (pow R c n ≈ O)
  pow_ne c zero h e = F.one_ne e
  pow_ne c (suc n) h e = product_ne (domain F) (pow_ne c n h) h e

  unit : (d : A) → ¬ (d ≈ O) → (inv d ∷ []) ⊗ (d ∷ []) ≋ I ∷ []
  unit d n = P.trans (P.symm ((constantH R).on-mul (inv d) d)) (one_coefficient R (inv d ⊠ d) I (trans mul_comm (mul_inv d n)))

  divided : (c d v w s p : List A) → c ⊗ s ≋ d ⊗ p → w ⊗ c ≋ I ∷ [] → s ≋ p ⊗ (w ⊗ d)
  divided c d v w s p h k = by P (c ∷ d ∷ w ∷ s ∷ p ∷ []) (P.add_cong (scale P w h) (scale P (⊖ s) k)) (search reads depth 20 fits 4000) refl

  module _ (c : A) (n : ¬ (c ≈ O)) where
    pub scaled_dvd : (p : List A) → Divides P p (compose R (scaled c p) (times c))
    scaled_dvd p = record {
      cofactor = (inv c ∷ []) ⊗ (pow R c (length p) ∷ []);
      is = divided (c ∷ []) (pow R c (length p) ∷ []) [] (inv c ∷ []) (compose R (scaled c p) (times c)) p (scaled-back c p) (unit c n);
    }

    -- c t + c β, as t + β at c t and as c t at t + β
    points : (β : A) → compose R ((c ⊠ β) ∷ I ∷ []) (times c) ≋ compose R (times c) (β ∷ I ∷ [])
    points β = record { image = record { at = go } }
      where
        go : (k : ℕ) → coef R (compose R ((c ⊠ β) ∷ I ∷ []) (times c)) k ≈ coef R (compose R (times c) (β ∷ I ∷ [])) k
        go zero = ring R (c ∷ β ∷ []) (search reads depth 24 fits 4000) refl
        go (suc zero) = ring R (c ∷ β ∷ []) (search reads depth 24 fits 4000) refl
        go (suc (suc zero)) = ring R (c ∷ β ∷ []) (search reads depth 24 fits 4000) refl
        go (suc (suc (suc k))) = rfl

    moved-scaled : (β : A) (q : List A) → compose R (moved R (c ⊠ β) q) (times c) ≋ moved R β (compose R q (times c))
    moved-scaled β q = P.trans (compose-compose R q ((c ⊠ β) ∷ I ∷ []) (times c))
        (P.trans (compose_cong R q q (compose R ((c ⊠ β) ∷ I ∷ []) (times c)) (compose R (times c) (β ∷ I ∷ [])) P.rfl (points β))
        (P.symm (compose-compose R q (times c) (β ∷ I ∷ []))))

    pub scaled_coprime : (β : A) (a b : List A) → Coprime P (scaled c a) (moved R (c ⊠ β) (scaled c b)) → Coprime P a (moved R β b)
    scaled_coprime β a b k = coprime_dvd_both P (compose R (scaled c a) (times c)) (moved R β (compose R (scaled c b) (times c))) a (moved R β b)
        (scaled_dvd a) (dvd_on P P (movedH R β) b (compose R (scaled c b) (times c)) (scaled_dvd b))
        (coprime_same P (compose R (scaled c a) (times c)) (compose R (moved R (c ⊠ β) (scaled c b)) (times c)) (compose R (scaled c a) (times c)) (moved R β (compose R (scaled c b) (times c)))
        P.rfl (moved-scaled β (scaled c b)) (coprime_on P P (composeH R (times c)) (scaled c a) (moved R (c ⊠ β) (scaled c b)) k))

    -- ---- The other way round

    inverse : ¬ (inv c ≈ O)
    inverse e = F.one_ne (trans (symm (mul_inv c n)) (trans (R.mul_cong rfl e) (mul_O R)))

    point_back : compose R (times c) (times (inv c)) ≋ X R
    point_back = record { image = record { at = go } }
      where
        go : (k : ℕ) → coef R (compose R (times c) (times (inv c))) k ≈ coef R (X R) k
        go zero = ring R (c ∷ inv c ∷ []) (search reads depth 24 fits 4000) refl
        go (suc zero) = by R (c ∷ inv c ∷ []) (mul_inv c n) (search reads depth 24 fits 4000) refl
        go (suc (suc zero)) = ring R (c ∷ inv c ∷ []) (search reads depth 24 fits 4000) refl
        go (suc (suc (suc k))) = rfl

    back : (q : List A) → compose R (compose R q (times c)) (times (inv c)) ≋ q
    back q = P.trans (compose-compose R q (times c) (times (inv c)))
        (P.trans (compose_cong R q q (compose R (times c) (times (inv c))) (X R) P.rfl point_back) (compose-X R q))

    pub of_scaled : (p : List A) → Divides P (compose R (scaled c p) (times c)) p
    of_scaled p = record {
      cofactor = (inv (pow R c (length p)) ∷ []) ⊗ (c ∷ []);
      is = divided (pow R c (length p) ∷ []) (c ∷ []) [] (inv (pow R c (length p)) ∷ []) p (compose R (scaled c p) (times c)) (P.symm (scaled-back c p))
          (unit (pow R c (length p)) (pow_ne c (length p) n));
    }

    dvd_scaled : (p : List A) → Divides P (scaled c p) (compose R p (times (inv c)))
    dvd_scaled p = dvd_same P (compose R (compose R (scaled c p) (times c)) (times (inv c))) (compose R p (times (inv c))) (scaled c p) (compose R p (times (inv c)))
        (back (scaled c p)) P.rfl (dvd_on P P (composeH R (times (inv c))) (compose R (scaled c p) (times c)) p (of_scaled p))

  module _ (c : A) (n : ¬ (c ≈ O)) (β : A) where
    unit_times : inv c ⊠ (c ⊠ β) ≈ β
    unit_times = by R (c ∷ inv c ∷ β ∷ []) (scale R β (mul_inv c n)) (search reads depth 16) refl

    moved-back : (q : List A) → compose R (moved R β q) (times (inv c)) ≋ moved R (c ⊠ β) (compose R q (times (inv c)))
    moved-back q = P.trans (compose_cong R (moved R β q) (moved R (inv c ⊠ (c ⊠ β)) q) (times (inv c)) (times (inv c)) (moved_cong R β (inv c ⊠ (c ⊠ β)) q q (symm unit_times) P.rfl) P.rfl)
        (moved-scaled (inv c) (inverse c n) (c ⊠ β) q)

    pub unscaled_coprime : (a b : List A) → Coprime P a (moved R β b) → Coprime P (scaled c a) (moved R (c ⊠ β) (scaled c b))
    unscaled_coprime a b k = coprime_dvd_both P (compose R a (times (inv c))) (moved R (c ⊠ β) (compose R b (times (inv c)))) (scaled c a) (moved R (c ⊠ β) (scaled c b))
        (dvd_scaled c n a) (dvd_on P P (movedH R (c ⊠ β)) (scaled c b) (compose R b (times (inv c))) (dvd_scaled c n b))
        (coprime_same P (compose R a (times (inv c))) (compose R (moved R β b) (times (inv c))) (compose R a (times (inv c))) (moved R (c ⊠ β) (compose R b (times (inv c))))
        P.rfl (moved-back b) (coprime_on P P (composeH R (times (inv c))) a (moved R β b) k))
