-- Polynomials at t + β: the shift by a constant, and the shift with the coefficients mapped.
--   moved R β p                   p at t + β
--   movedH                        it is a map of rings
--   moved-moved, moved-O, moved-back    two shifts add up; by 0 nothing moves; a shift is undone
--   moved-eval                    the value of the shifted p at x is that of p at x + β
--   twist R σ β p                 the coefficients mapped by σ, then t to t + β: the shift where σ is the identity, and the shift of a sum's polynomials
--   twistH                        it is a map of rings
--   twist-0, twist-suc            its coefficients, from those of the tail
--   twist-past, twist-top, twist-second    no coefficient past the degree n; the ones at n and at n - 1
--   shiftH, iter-shift            the shift by 1; n times it is the shift by n
use Rattle.std.proofs.Common.{ℕ, zero, suc, ◌<◌, refl, List, [], ◌∷◌, arith}
use Rattle.sg_algebra.specs.Ring.{Ring, Hom}
use Rattle.sg_algebra.specs.Coefficients.{coef, horner, eval}
use Rattle.sg_algebra.proofs.Ring.{nat, mul_O, O_add}
use Rattle.sg_algebra.proofs.Solver.{ring, by, scale, reads}
use Rattle.sg_algebra.proofs.Horner.{horner_cong}
use Rattle.sg_algebra.proofs.Divides.{identity, after, iter, on-O}
use Rattle.sg_algebra.proofs.PolynomialRing.{PolyR, constantH, cons_cong, coef-zip, coef-mul, one-series_mul}
use Rattle.sg_algebra.proofs.Evaluation.{evalH, compose, composeH, compose-X, compose_cong, compose-compose, compose-eval}

module _ (R : Ring) where
  open R use {A, ◌≈◌, ◌⊞◌, ◌⊠◌, ⊟, O, I, rfl, symm, trans, add_cong, mul_cong, add_O, add_comm}
  open PolyR R use {◌≈◌ as ◌≋◌, ◌⊞◌ as ◌⊕◌, ◌⊠◌ as ◌⊗◌}

  abbrev P : Ring
  P = PolyR R

  -- ---- The shift by a constant

  abbrev pub moved : A → List A → List A
  moved β p = compose R p (β ∷ I ∷ [])

  abbrev pub movedH : A → Hom P P
  movedH β = composeH R (β ∷ I ∷ [])

  moved_point : (β γ : A) → moved γ (β ∷ I ∷ []) ≋ ((β ⊞ γ) ∷ I ∷ [])
  moved_point β γ = record { image = record { at = go } }
    where
      later : (n : ℕ) → coef R ((I ⊠ O) ∷ []) n ≈ O
      later zero = mul_O R
      later (suc n) = rfl

      go : (n : ℕ) → coef R (moved γ (β ∷ I ∷ [])) n ≈ coef R ((β ⊞ γ) ∷ I ∷ []) n
      go zero = ring R (β ∷ γ ∷ []) (search reads depth 20) refl
      go (suc zero) = ring R (γ ∷ []) (search reads depth 20) refl
      go (suc (suc n)) = later n

  pub moved_cong : (β γ : A) (p q : List A) → β ≈ γ → p ≋ q → moved β p ≋ moved γ q
  moved_cong β γ p q h e = compose_cong R p q (β ∷ I ∷ []) (γ ∷ I ∷ []) e (cons_cong R β γ (I ∷ []) (I ∷ []) h P.rfl)

  pub moved-moved : (β γ : A) (p : List A) → moved γ (moved β p) ≋ moved (β ⊞ γ) p
  moved-moved β γ p =
      P.trans (compose-compose R p (β ∷ I ∷ []) (γ ∷ I ∷ []))
      (compose_cong R p p (moved γ (β ∷ I ∷ [])) ((β ⊞ γ) ∷ I ∷ []) P.rfl (moved_point β γ))

  pub moved-O : (p : List A) → moved O p ≋ p
  moved-O p = compose-X R p

  pub moved-back : (β : A) (p : List A) → moved (⊟ β) (moved β p) ≋ p
  moved-back β p = P.trans (moved-moved β (⊟ β) p) (P.trans (moved_cong (β ⊞ ⊟ β) O p p R.add_neg P.rfl) (moved-O p))

  pub moved-eval : (β x : A) (p : List A) → eval R (moved β p) x ≈ eval R p (x ⊞ β)
  moved-eval β x p = trans (compose-eval R p (β ∷ I ∷ []) x) (horner_cong R (λ a. a) (λ a. a) (eval R (β ∷ I ∷ []) x) (x ⊞ β) p (λ a. rfl) (ring R (β ∷ x ∷ []) (search reads depth 20) refl))

  -- ---- The shift with the coefficients mapped

  module _ (σ : Hom R R) (β : A) where
    abbrev pub point : List A
    point = β ∷ I ∷ []

    abbrev pub twist : List A → List A
    twist p = horner P (λ a. σ.on a ∷ []) point p

    abbrev pub twistH : Hom P P
    twistH = evalH R P (after R R P σ (constantH R)) point

    pub twist-0 : (a : A) (p : List A) → coef R (twist (a ∷ p)) 0 ≈ σ.on a ⊞ β ⊠ coef R (twist p) 0
    twist-0 a p = trans (coef-zip R (σ.on a ∷ []) (point ⊗ twist p) 0) (add_cong rfl (coef-mul R point (twist p) 0))

    pub twist-suc : (a : A) (p : List A) (n : ℕ) → coef R (twist (a ∷ p)) (suc n) ≈ β ⊠ coef R (twist p) (suc n) ⊞ coef R (twist p) n
    twist-suc a p n =
        trans (coef-zip R (σ.on a ∷ []) (point ⊗ twist p) (suc n))
        (trans (O_add R) (trans (coef-mul R point (twist p) (suc n)) (add_cong rfl (one-series_mul R (coef R (twist p)) n))))

    pub twist-zero : (p : List A) → ((n : ℕ) → coef R p n ≈ O) → (n : ℕ) → coef R (twist p) n ≈ O
    twist-zero p h = (twistH.on_cong p [] (record { image = record { at = h } })).image.at

    -- ---- The coefficients at the degree and one below

    later : (a : A) (p : List A) (i : ℕ) → coef R (twist p) (suc i) ≈ O → coef R (twist p) i ≈ O → coef R (twist (a ∷ p)) (suc i) ≈ O
    later a p i u w = trans (twist-suc a p i) (trans (add_cong (trans (mul_cong rfl u) (mul_O R)) w) add_O)

    pub twist-past : (n : ℕ) (p : List A) → ((i : ℕ) → n < i → coef R p i ≈ O) → (i : ℕ) → n < i → coef R (twist p) i ≈ O
    twist-past n [] h i l = rfl
    twist-past n (a ∷ p) h zero l = absurd (omega arith)
    twist-past zero (a ∷ p) h (suc i) l = later a p i (twist-zero p (λ j. h (suc j) (omega arith)) (suc i)) (twist-zero p (λ j. h (suc j) (omega arith)) i)
    twist-past (suc n) (a ∷ p) h (suc i) l =
        later a p i (twist-past n p (λ j q. h (suc j) (omega arith)) (suc i) (omega arith)) (twist-past n p (λ j q. h (suc j) (omega arith)) i (omega arith))

    pub twist-top : (n : ℕ) (p : List A) → ((i : ℕ) → n < i → coef R p i ≈ O) → coef R (twist p) n ≈ σ.on (coef R p n)
    twist-top n [] h = symm (on-O R R σ)
    twist-top zero (a ∷ p) h = trans (twist-0 a p) (trans (add_cong rfl (trans (mul_cong rfl (twist-zero p (λ j. h (suc j) (omega arith)) 0)) (mul_O R))) add_O)
    twist-top (suc n) (a ∷ p) h =
        trans (twist-suc a p n)
        (trans (add_cong (trans (mul_cong rfl (twist-past n p (λ j q. h (suc j) (omega arith)) (suc n) (omega arith))) (mul_O R)) (twist-top n p (λ j q. h (suc j) (omega arith)))) (O_add R))

    pub twist-second : (n : ℕ) (p : List A) → ((i : ℕ) → suc n < i → coef R p i ≈ O) → coef R (twist p) n ≈ σ.on (coef R p n) ⊞ β ⊠ (nat R (suc n) ⊠ σ.on (coef R p (suc n)))
    twist-second n [] h = symm (trans (add_cong (on-O R R σ) (trans (mul_cong rfl (trans (mul_cong rfl (on-O R R σ)) (mul_O R))) (mul_O R))) add_O)
    twist-second zero (a ∷ p) h =
        trans (twist-0 a p)
        (by R (σ.on a ∷ β ∷ coef R (twist p) 0 ∷ σ.on (coef R p 0) ∷ []) (scale R β (twist-top 0 p (λ j q. h (suc j) (omega arith)))) (search reads depth 16) refl)
    twist-second (suc n) (a ∷ p) h =
        trans (twist-suc a p n)
        (by R (σ.on (coef R p n) ∷ σ.on (coef R p (suc n)) ∷ β ∷ nat R n ∷ coef R (twist p) n ∷ coef R (twist p) (suc n) ∷ [])
        (add_cong (scale R β (twist-top (suc n) p (λ j q. h (suc j) (omega arith)))) (twist-second n p (λ j q. h (suc j) (omega arith)))) (search reads depth 20 fits 4000) refl)

  -- ---- The shift by 1

  abbrev pub shiftH : Hom P P
  shiftH = twistH (identity R) I

  pub iter-shift : (n : ℕ) (p : List A) → iter P shiftH n p ≋ moved (nat R n) p
  iter-shift zero p = P.symm (moved-O p)
  iter-shift (suc n) p = P.trans (shiftH.on_cong (iter P shiftH n p) (moved (nat R n) p) (iter-shift n p)) (moved-moved (nat R n) I p)
