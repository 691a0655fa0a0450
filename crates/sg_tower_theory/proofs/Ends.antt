-- Where the coefficients of a list end.
--   coef-past        past the length there is none
--   below_length     so the length is a bound of the degree
--   lowered          a bound that can be lowered one by one, down to m
use Rattle.std.proofs.Common.{◌≡◌, ℕ, zero, suc, ◌≤◌, ◌<◌, sym, subst, List, [], ◌∷◌, ◌⊎◌, inl, inr, length, arith}
use Rattle.sg_algebra.specs.Ring.{Ring}
use Rattle.sg_algebra.specs.Coefficients.{coef}
use Rattle.sg_algebra.proofs.Degree.{Below}

module _ (R : Ring) where
  open R use {A, ◌≈◌, O, rfl}

  pub coef-past : (p : List A) (n : ℕ) → length p ≤ n → coef R p n ≈ O
  coef-past [] n l = rfl
  coef-past (a ∷ p) zero l = absurd (omega arith)
  coef-past (a ∷ p) (suc n) l = coef-past p n (omega arith)

  pub below_length : (p : List A) → Below R (length p) p
  below_length p = record { none_from = λ n l. coef-past p n l }

  pub lowered : (m : ℕ) (p : List A) → ((n : ℕ) → m ≤ n → ((i : ℕ) → n < i → coef R p i ≈ O) → coef R p n ≈ O) → (k : ℕ) → Below R k p → Below R m p
  lowered m p h zero b = record { none_from = λ n l. b.none_from n (omega arith) }
  lowered m p h (suc k) b = go (side m k) (lowered m p h k)
    where
      side : (m k : ℕ) → (m ≤ k) ⊎ (k < m)
      side m k = grind arith

      split : (n : ℕ) → k ≤ n → (n ≡ k) ⊎ (suc k ≤ n)
      split n q = grind arith

      go : (m ≤ k) ⊎ (k < m) → (Below R k p → Below R m p) → Below R m p
      go (inr l) again = record { none_from = λ n q. b.none_from n (omega arith) }
      go (inl l) again = again (record { none_from = λ n q. at n (split n q) })
        where
          at : (n : ℕ) → (n ≡ k) ⊎ (suc k ≤ n) → coef R p n ≈ O
          at n (inl e) = subst (λ (i : ℕ). coef R p i ≈ O) (sym e) (h k l (λ i q. b.none_from i q))
          at n (inr q) = b.none_from n q
