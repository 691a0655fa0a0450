-- How many roots a polynomial has.
--   tails R a p      the quotient of c + t p by t - a: the values at a of what is left of p from each place on
--   factor           x p(x) - a p(a) = (x - a) (tails a p)(x)
--   Distinct R xs    no two elements of the list are equal
--   roots_zero       over a domain, a polynomial of degree below the number of its distinct roots is zero
use Rattle.std.proofs.Common.{ℕ, zero, suc, ◌≤◌, refl, List, [], ◌∷◌, length, arith}
use Rattle.sg_algebra.specs.Ring.{Ring, Domain}
use Rattle.sg_algebra.specs.Coefficients.{coef, eval, Each}
use Rattle.sg_algebra.proofs.Ring.{mul_O}
use Rattle.sg_algebra.proofs.Solver.{ring, by, scale, reads}
use Rattle.sg_algebra.proofs.PolynomialRing.{PolyR}
use Rattle.sg_algebra.proofs.Evaluation.{eval-zero}
use Rattle.sg_algebra.proofs.Degree.{Below, below_zero}

module _ (R : Ring) where
  open R use {A, ◌≈◌, ◌⊞◌, ◌⊠◌, ⊟, O, I, rfl, trans, add_cong, mul_cong, add_O}
  open PolyR R use {◌≈◌ as ◌≋◌}

  abbrev pub tails : A → List A → List A
  tails a [] = []
  tails a (d ∷ p) = (d ⊞ a ⊠ eval R p a) ∷ tails a p

  pub factor : (a x : A) (p : List A) → x ⊠ eval R p x ⊞ ⊟ (a ⊠ eval R p a) ≈ (x ⊞ ⊟ a) ⊠ eval R (tails a p) x
  factor a x [] = ring R (a ∷ x ∷ []) (search reads depth 20) refl
  factor a x (d ∷ p) = by R (d ∷ x ∷ a ∷ eval R p x ∷ eval R p a ∷ eval R (tails a p) x ∷ []) (scale R x (factor a x p)) (search reads depth 20 fits 4000) refl

  tails-zero : (a : A) (p : List A) → ((n : ℕ) → coef R (tails a p) n ≈ O) → (n : ℕ) → coef R p n ≈ O
  tails-zero a [] h n = rfl
  tails-zero a (d ∷ p) h zero =
      by R (d ∷ a ∷ eval R p a ∷ []) (add_cong (h 0) (scale R (⊟ a) (eval-zero R p a (tails-zero a p (λ n. h (suc n)))))) (search reads depth 20) refl
  tails-zero a (d ∷ p) h (suc n) = tails-zero a p (λ n. h (suc n)) n

  tails-below : (m : ℕ) (a c : A) (p : List A) → Below R (suc m) (c ∷ p) → (n : ℕ) → m ≤ n → coef R (tails a p) n ≈ O
  tails-below m a c [] b n l = rfl
  tails-below m a c (d ∷ p) b zero l = trans (add_cong (b.none_from 1 (omega arith)) (trans (mul_cong rfl (eval-zero R p a (λ i. b.none_from (suc (suc i)) (omega arith)))) (mul_O R))) add_O
  tails-below zero a c (d ∷ p) b (suc n) l = tails-below zero a d p (record { none_from = λ i k. b.none_from (suc i) (omega arith) }) n (omega arith)
  tails-below (suc m) a c (d ∷ p) b (suc n) l = tails-below m a d p (record { none_from = λ i k. b.none_from (suc i) (omega arith) }) n (omega arith)

  root-zero : (a c : A) (p : List A) → eval R (c ∷ p) a ≈ O → tails a p ≋ [] → (c ∷ p) ≋ []
  root-zero a c p z h = record { image = record { at = go } }
    where
      go : (n : ℕ) → coef R (c ∷ p) n ≈ O
      go zero = by R (c ∷ a ∷ eval R p a ∷ []) (add_cong z (scale R (⊟ a) (eval-zero R p a (tails-zero a p h.image.at)))) (search reads depth 20) refl
      go (suc n) = tails-zero a p h.image.at n

  abbrev pub Distinct : List A → Type 0
  Distinct [] = Unit {0}
  Distinct (x ∷ xs) = Each (λ y. ¬ (y ≈ x)) xs × Distinct xs

module _ (D : Domain) where
  open D use {R, cancel_mul}
  open R use {A, ◌≈◌, ◌⊞◌, ◌⊠◌, ⊟, O, I, symm, add_cong}
  open PolyR R use {◌≈◌ as ◌≋◌}

  -- the roots but a are roots of the quotient by t - a
  rest : (a c : A) (p xs : List A) → eval R (c ∷ p) a ≈ O → Each (λ y. ¬ (y ≈ a)) xs → Each (λ y. eval R (c ∷ p) y ≈ O) xs → Each (λ y. eval R (tails R a p) y ≈ O) xs
  rest a c p [] h k z = tt
  rest a c p (y ∷ xs) h k z = (
    cancel_mul {c = y ⊞ ⊟ a} (λ e. k.0 (by R (y ∷ a ∷ []) e (search reads depth 12) refl))
        (by R (a ∷ y ∷ c ∷ eval R p a ∷ eval R p y ∷ eval R (tails R a p) y ∷ []) (add_cong (z.0) (add_cong (scale R (⊟ I) h) (symm (factor R a y p)))) (search reads depth 20 fits 4000) refl),
    rest a c p xs h k.1 z.1,
  )

  pub roots_zero : (xs p : List A) → Distinct R xs → Each (λ y. eval R p y ≈ O) xs → Below R (length xs) p → p ≋ []
  roots_zero xs [] d z b = (PolyR R).rfl
  roots_zero [] (c ∷ p) d z b = below_zero R (c ∷ p) b
  roots_zero (a ∷ xs) (c ∷ p) d z b =
      root-zero R a c p z.0 (roots_zero xs (tails R a p) d.1 (rest a c p xs z.0 d.0 z.1) (record { none_from = tails-below R (length xs) a c p b }))
