-- Sums of fractions with denominators that are coprime, and no images of which have common divisors.
--   Piece R               a numerator `upper` over a denominator `lower`
--   product ws            the product of the elements
--   below ps, lowers ps   the denominators, and their product
--   joined ps             the numerator of the sum over that product
--   Separate ws           any two are coprime
--   Proper p              the denominator divides the numerator only where that is 0
--   vanish                a sum of such that is in the ring: each numerator is 0
--   joined_none           a sum with all numerators 0 is 0
--   Settled ws            each is free, and any two are apart; then their product is free (`product_free`)
use Rattle.std.proofs.Common.{refl, List, [], ◌∷◌}
use Rattle.sg_algebra.specs.Ring.{Ring, Domain, Hom}
use Rattle.sg_algebra.specs.Coefficients.{Each}
use Rattle.sg_algebra.proofs.Solver.{by, scale, reads}
use Rattle.sg_algebra.proofs.Field.{product_ne}
use Rattle.sg_algebra.proofs.Divides.{Divides}
use Rattle.sg_algebra.proofs.Coprime.{Coprime, coprime-mul, coprime_one, gauss}
use Rattle.sg_reduction_theory.proofs.Apart.{Free, Apart, apart_one, free_one, free-mul, apart-mul}

pub record Piece (R : Ring) : Type 0 where
  pub upper : R.A
  pub lower : R.A

module _ (R : Ring) where
  open R use {A, ◌≈◌, ◌⊞◌, ◌⊠◌, O, I, rfl, symm, trans, add_cong, mul_cong}

  abbrev pub product : List A → A
  product [] = I
  product (w ∷ ws) = w ⊠ product ws

  abbrev pub below : List (Piece R) → List A
  below [] = []
  below (p ∷ ps) = p.lower ∷ below ps

  abbrev pub lowers : List (Piece R) → A
  lowers ps = product (below ps)

  abbrev pub joined : List (Piece R) → A
  joined [] = O
  joined (p ∷ ps) = p.upper ⊠ lowers ps ⊞ p.lower ⊠ joined ps

  abbrev pub Separate : List A → Type 0
  Separate [] = Unit {0}
  Separate (w ∷ ws) = Each (λ v. Coprime R w v) ws × Separate ws

  abbrev pub Proper : Piece R → Type 0
  Proper p = Divides R p.lower p.upper → p.upper ≈ O

  pub coprime_product : (a : A) (ws : List A) → Each (λ w. Coprime R a w) ws → Coprime R a (product ws)
  coprime_product a [] h = coprime_one R a
  coprime_product a (w ∷ ws) h = coprime-mul R a w (product ws) h.0 (coprime_product a ws h.1)

  pub joined_none : (ps : List (Piece R)) → Each (λ p. p.upper ≈ O) ps → joined ps ≈ O
  joined_none [] h = rfl
  joined_none (p ∷ ps) h = by R (p.upper ∷ p.lower ∷ lowers ps ∷ joined ps ∷ []) (add_cong (scale R (lowers ps) h.0) (scale R p.lower (joined_none ps h.1))) (search reads depth 16) refl

module _ (D : Domain) where
  open D use {R, cancel_mul, one_ne}
  open R use {A, ◌≈◌, ◌⊞◌, ◌⊠◌, ⊟, O, I, rfl, symm, trans, add_cong, mul_cong}

  pub product_some : (ws : List A) → Each (λ w. ¬ (w ≈ O)) ws → ¬ (product R ws ≈ O)
  product_some [] h = one_ne
  product_some (w ∷ ws) h = product_ne D {x = w} {y = product R ws} h.0 (product_some ws h.1)

  pub vanish : (ps : List (Piece R)) → Each (λ w. ¬ (w ≈ O)) (below R ps) → Separate R (below R ps) → Each (Proper R) ps → (z : A) → lowers R ps ⊠ z ≈ joined R ps → Each (λ p. p.upper ≈ O) ps
  vanish [] ne s h z e = tt
  vanish (p ∷ ps) ne s h z e = (none, vanish ps ne.1 s.1 h.1 z rest)
    where
      divides : Divides R p.lower p.upper
      divides = gauss R p.lower (lowers R ps) p.upper (coprime_product R p.lower (below R ps) s.0)
          (record { cofactor = lowers R ps ⊠ z ⊞ ⊟ (joined R ps); is = by R (p.upper ∷ p.lower ∷ lowers R ps ∷ joined R ps ∷ z ∷ []) (symm e) (search reads depth 16 fits 4000) refl })

      none : p.upper ≈ O
      none = h.0 divides

      rest : lowers R ps ⊠ z ≈ joined R ps
      rest = cancel_mul {c = p.lower} ne.0 (by R (p.upper ∷ p.lower ∷ lowers R ps ∷ joined R ps ∷ z ∷ []) (add_cong e (scale R (lowers R ps) none)) (search reads depth 16 fits 4000) refl)

module _ (R : Ring) (σ : Hom R R) where
  open R use {A, I}

  abbrev pub Settled : List A → Type 0
  Settled [] = Unit {0}
  Settled (w ∷ ws) = Free R σ w × (Each (λ v. Apart R σ w v) ws × Settled ws)

  pub apart_product : (a : A) (ws : List A) → Each (λ w. Apart R σ a w) ws → Apart R σ a (product R ws)
  apart_product a [] h = apart_one R σ a
  apart_product a (w ∷ ws) h = apart-mul R σ a w (product R ws) h.0 (apart_product a ws h.1)

  pub product_free : (ws : List A) → Settled ws → Free R σ (product R ws)
  product_free [] h = free_one R σ
  product_free (w ∷ ws) h = free-mul R σ w (product R ws) h.0 (product_free ws h.1.1) (apart_product w ws h.1.0)

  pub settled_separate : (ws : List A) → Settled ws → Separate R ws
  settled_separate [] h = tt
  settled_separate (w ∷ ws) h = (now ws h.1.0, settled_separate ws h.1.1)
    where
      now : (vs : List A) → Each (λ v. Apart R σ w v) vs → Each (λ v. Coprime R w v) vs
      now [] k = tt
      now (v ∷ vs) k = (k.0.later 0, now vs k.1)
