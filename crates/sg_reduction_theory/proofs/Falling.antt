-- The degree falls, where the first term of a solution y of a y(k+1) - y = p is taken off p, for a constant a.
--   fall_other            a isn't 1: the term at n with a - 1 times its coefficient that of p
--   fall_one              a is 1: the term at n + 1 with n + 1 times its coefficient that of p at n
use Rattle.std.proofs.Common.{◌≡◌, ℕ, zero, suc, ◌+◌, ◌≤◌, ◌<◌, refl, sym, subst, List, [], ◌∷◌, ◌⊎◌, inl, inr, arith}
use Rattle.sg_algebra.specs.Ring.{Ring}
use Rattle.sg_algebra.specs.Coefficients.{coef}
use Rattle.sg_algebra.proofs.Ring.{nat, neg_O}
use Rattle.sg_algebra.proofs.Solver.{ring, by, scale, reads}
use Rattle.sg_algebra.proofs.PolynomialRing.{PolyR, coef-zip, coef-each}
use Rattle.sg_algebra.proofs.Degree.{Below}
use Rattle.sg_first_order_theory.proofs.Bounds.{Left, top-Left, second-Left}

module _ (R : Ring) where
  open R use {A, ◌≈◌, ◌⊞◌, ◌⊠◌, ⊟, O, I, rfl, symm, trans, add_cong, mul_cong, neg_cong}
  open PolyR R use {◌⊞◌ as ◌⊕◌, ⊟ as ⊖}

  none_past : (a : A) (i : ℕ) → 0 < i → coef R (a ∷ []) i ≈ O
  none_past a zero l = absurd (omega arith)
  none_past a (suc i) l = rfl

  abbrev pub without : A → List A → List A → List A
  without a p y = p ⊕ ⊖ (Left R (a ∷ []) (I ∷ []) y)

  coef-without : (a : A) (p y : List A) (t : ℕ) → coef R (without a p y) t ≈ coef R p t ⊞ ⊟ (coef R (Left R (a ∷ []) (I ∷ []) y) t)
  coef-without a p y t = trans (coef-zip R p (⊖ (Left R (a ∷ []) (I ∷ []) y)) t) (add_cong rfl (coef-each R ⊟ (neg_O R) (Left R (a ∷ []) (I ∷ []) y) t))

  top : (a : A) (y : List A) (t : ℕ) → ((i : ℕ) → t < i → coef R y i ≈ O) → coef R (Left R (a ∷ []) (I ∷ []) y) t ≈ (a ⊞ ⊟ I) ⊠ coef R y t
  top a y t h = subst (λ (s : ℕ). coef R (Left R (a ∷ []) (I ∷ []) y) s ≈ (a ⊞ ⊟ I) ⊠ coef R y t) {x = 0 + t} {y = t} (omega arith) (top-Left R 0 (a ∷ []) (I ∷ []) (none_past a) (none_past I) t y h)

  side : (n t : ℕ) → n ≤ t → (t ≡ n) ⊎ (n < t)
  side n t l = grind arith

  pub fall_other : (a : A) (p y : List A) (n : ℕ) → Below R (suc n) p → ((i : ℕ) → n < i → coef R y i ≈ O) → (a ⊞ ⊟ I) ⊠ coef R y n ≈ coef R p n → Below R n (without a p y)
  fall_other a p y n b h e = record { none_from = λ t l. trans (coef-without a p y t) (at t (side n t l)) }
    where
      at : (t : ℕ) → (t ≡ n) ⊎ (n < t) → coef R p t ⊞ ⊟ (coef R (Left R (a ∷ []) (I ∷ []) y) t) ≈ O
      at t (inl q) = subst (λ (s : ℕ). coef R p s ⊞ ⊟ (coef R (Left R (a ∷ []) (I ∷ []) y) s) ≈ O) (sym q)
          (by R (coef R p n ∷ coef R y n ∷ a ∷ coef R (Left R (a ∷ []) (I ∷ []) y) n ∷ []) (add_cong (symm e) (scale R (⊟ I) (top a y n h))) (search reads depth 16) refl)
      at t (inr q) = by R (coef R p t ∷ coef R y t ∷ a ∷ coef R (Left R (a ∷ []) (I ∷ []) y) t ∷ [])
          (add_cong (b.none_from t q) (add_cong (scale R (⊟ I) (top a y t (λ i l. h i (omega arith)))) (scale R (⊟ (a ⊞ ⊟ I)) (h t q)))) (search reads depth 20) refl

  pub fall_one : (p y : List A) (n : ℕ) → Below R (suc n) p → ((i : ℕ) → suc n < i → coef R y i ≈ O) → nat R (suc n) ⊠ coef R y (suc n) ≈ coef R p n → Below R n (without I p y)
  fall_one p y n b h e = record { none_from = λ t l. trans (coef-without I p y t) (at t (side n t l)) }
    where
      second : coef R (Left R (I ∷ []) (I ∷ []) y) n ≈ nat R (suc n) ⊠ coef R y (suc n)
      second = trans (second-Left R 0 (I ∷ []) (I ∷ []) (none_past I) (none_past I) (suc n) n y h (omega arith) rfl) (ring R (nat R n ∷ coef R y (suc n) ∷ []) (search reads depth 16) refl)

      at : (t : ℕ) → (t ≡ n) ⊎ (n < t) → coef R p t ⊞ ⊟ (coef R (Left R (I ∷ []) (I ∷ []) y) t) ≈ O
      at t (inl q) = subst (λ (s : ℕ). coef R p s ⊞ ⊟ (coef R (Left R (I ∷ []) (I ∷ []) y) s) ≈ O) (sym q)
          (by R (coef R p n ∷ coef R y (suc n) ∷ nat R (suc n) ∷ coef R (Left R (I ∷ []) (I ∷ []) y) n ∷ []) (add_cong (symm e) (scale R (⊟ I) second)) (search reads depth 16) refl)
      at t (inr q) = by R (coef R p t ∷ coef R y t ∷ coef R (Left R (I ∷ []) (I ∷ []) y) t ∷ [])
          (add_cong (b.none_from t q) (scale R (⊟ I) (top I y t (λ i l. h i (omega arith))))) (search reads depth 20) refl
