-- The derivative of a polynomial.
--   derivative R p       (a + t p)' = p + t p'
--   coef-derivative      its coefficient at n is n + 1 times that of p at n + 1
--   derivative-add, derivative-scale, derivative-neg, derivative_cong, derivative-constant
--   derivative-mul       the product rule
--   derivative-pow       the power rule
use Rattle.std.proofs.Common.{ℕ, zero, suc, List, [], ◌∷◌, refl}
use Rattle.sg_algebra.specs.Ring.{Ring}
use Rattle.sg_algebra.specs.Coefficients.{zip_longest, coef}
use Rattle.sg_algebra.proofs.Ring.{nat, pow, O_add, mul_O, I_mul}
use Rattle.sg_algebra.proofs.Solver.{ring, by, scale, reads}
use Rattle.sg_algebra.proofs.PolynomialRing.{PolyR, coef-zip, coef-scale, cons-is, no_coefficient, X}

module _ (R : Ring) where
  open R use {A, ◌≈◌, ◌⊞◌, ◌⊠◌, ⊟, O, I, rfl, symm, trans, add_cong, mul_cong, neg_cong, add_O, distrib}
  open PolyR R use {◌≈◌ as ◌≋◌, ◌⊞◌ as ◌⊕◌, ◌⊠◌ as ◌⊗◌, ⊟ as ⊖}

  abbrev P : Ring
  P = PolyR R

  abbrev pub derivative : List A → List A
  derivative [] = []
  derivative (a ∷ p) = zip_longest ◌⊞◌ p (O ∷ derivative p)

  pub coef-derivative : (p : List A) (n : ℕ) → coef R (derivative p) n ≈ nat R (suc n) ⊠ coef R p (suc n)
  coef-derivative [] n = symm (mul_O R)
  coef-derivative (a ∷ p) zero = trans (coef-zip R p (O ∷ derivative p) 0) (trans add_O (symm (trans (mul_cong (O_add R) rfl) (I_mul R))))
  coef-derivative (a ∷ p) (suc n) = trans (coef-zip R p (O ∷ derivative p) (suc n)) (by R (coef R p (suc n) ∷ coef R (derivative p) n ∷ nat R n ∷ []) (coef-derivative p n) (search reads depth 16) refl)

  pub derivative_cong : (p q : List A) → p ≋ q → derivative p ≋ derivative q
  derivative_cong p q h = record { image = record { at = λ n. trans (coef-derivative p n) (trans (mul_cong rfl (h.image.at (suc n))) (symm (coef-derivative q n))) } }

  pub derivative-add : (p q : List A) → derivative (p ⊕ q) ≋ derivative p ⊕ derivative q
  derivative-add p q = record {
    image = record {
      at = λ n. trans (trans (coef-derivative (p ⊕ q) n) (trans (mul_cong rfl (coef-zip R p q (suc n))) distrib))
          (symm (trans (coef-zip R (derivative p) (derivative q) n) (add_cong (coef-derivative p n) (coef-derivative q n))));
    };
  }

  pub derivative-scale : (c : A) (p : List A) → derivative ((c ∷ []) ⊗ p) ≋ (c ∷ []) ⊗ derivative p
  derivative-scale c p = record {
    image = record {
      at = λ n. trans (trans (coef-derivative ((c ∷ []) ⊗ p) n) (mul_cong rfl (coef-scale R c p (suc n))))
          (symm (trans (coef-scale R c (derivative p) n) (by R (c ∷ nat R (suc n) ∷ coef R p (suc n) ∷ coef R (derivative p) n ∷ []) (scale R c (coef-derivative p n)) (search reads depth 16) refl)));
    };
  }

  pub derivative-constant : (c : A) → derivative (c ∷ []) ≋ []
  derivative-constant c = no_coefficient R

  shifted : (p : List A) → (O ∷ p) ≋ X R ⊗ p
  shifted p = P.trans (cons-is R O p) (P.trans (P.add_cong (no_coefficient R) P.rfl) (O_add P))

  pub derivative-mul : (p q : List A) → derivative (p ⊗ q) ≋ derivative p ⊗ q ⊕ p ⊗ derivative q
  derivative-mul [] q = P.rfl
  derivative-mul (a ∷ p) q =
      P.trans (derivative_cong ((a ∷ p) ⊗ q) ((a ∷ []) ⊗ q ⊕ (O ∷ (p ⊗ q))) split)
      (P.trans (derivative-add ((a ∷ []) ⊗ q) (O ∷ (p ⊗ q)))
      (P.trans (P.add_cong (derivative-scale a q) (P.add_cong {x = p ⊗ q} {y = p ⊗ q} P.rfl (P.trans (shifted (derivative (p ⊗ q))) (P.mul_cong {x = X R} {y = X R} P.rfl (derivative-mul p q)))))
      (P.trans (join (a ∷ []) (X R) p q (derivative p) (derivative q))
      (P.symm (P.add_cong (P.mul_cong (P.add_cong {x = p} {y = p} P.rfl (shifted (derivative p))) P.rfl) (P.mul_cong (cons-is R a p) P.rfl))))))
    where
      split : (a ∷ p) ⊗ q ≋ (a ∷ []) ⊗ q ⊕ (O ∷ (p ⊗ q))
      split = P.trans (P.mul_cong (cons-is R a p) P.rfl) (P.trans (three (a ∷ []) (X R) p q) (P.add_cong P.rfl (P.symm (shifted (p ⊗ q)))))
        where
          three : (c x p q : List A) → (c ⊕ x ⊗ p) ⊗ q ≋ c ⊗ q ⊕ x ⊗ (p ⊗ q)
          three c x p q = ring P (c ∷ x ∷ p ∷ q ∷ []) (search reads depth 16) refl

      join : (c x p q dp dq : List A) → c ⊗ dq ⊕ (p ⊗ q ⊕ x ⊗ (dp ⊗ q ⊕ p ⊗ dq)) ≋ (p ⊕ x ⊗ dp) ⊗ q ⊕ (c ⊕ x ⊗ p) ⊗ dq
      join c x p q dp dq = ring P (c ∷ x ∷ p ∷ q ∷ dp ∷ dq ∷ []) (search reads depth 16) refl

  pub derivative-pow : (p : List A) (n : ℕ) → derivative (pow P p (suc n)) ≋ nat P (suc n) ⊗ (pow P p n ⊗ derivative p)
  derivative-pow p zero = P.trans (derivative-mul (I ∷ []) p) (first p (derivative p) (derivative (I ∷ [])) (derivative-constant I))
    where
      first : (p d e : List A) → e ≋ [] → e ⊗ p ⊕ (I ∷ []) ⊗ d ≋ nat P 1 ⊗ ((I ∷ []) ⊗ d)
      first p d e h = by P (p ∷ d ∷ e ∷ []) (scale P p h) (search reads depth 16) refl
  derivative-pow p (suc n) = P.trans (derivative-mul (pow P p (suc n)) p) (step (pow P p n) p (derivative p) (nat P (suc n)) (derivative (pow P p (suc n))) (derivative-pow p n))
    where
      step : (w p d m e : List A) → e ≋ m ⊗ (w ⊗ d) → e ⊗ p ⊕ (w ⊗ p) ⊗ d ≋ (m ⊕ (I ∷ [])) ⊗ ((w ⊗ p) ⊗ d)
      step w p d m e h = by P (w ∷ p ∷ d ∷ m ∷ e ∷ []) (scale P p h) (search reads depth 16) refl
