-- There is a certificate, not all zero, of at most d e + 1 factors: of that many arrays of d e entries one combination is zero.
--   SomeCertificate F d e a b    the list of factors, with its bound and a factor that isn't zero
--   some_certificate             it is there for any a and b
use Rattle.std.proofs.Common.{◌≡◌, ℕ, zero, suc, ◌+◌, ◌*◌, ◌/◌, ◌%◌, ◌≤◌, ◌<◌, refl, ap, List, [], ◌∷◌, length, arith}
use Rattle.std.proofs.lemmas.Nat.{div-mul-add, mod-mul-add}
use Rattle.sg_algebra.specs.Ring.{Field}
use Rattle.sg_algebra.specs.Coefficients.{coef}
use Rattle.sg_algebra.proofs.Sums.{sum, sum-first}
use Rattle.sg_dispersion_theory.proofs.Dependence.{combination, Dependent, SomeNonzero, dependent}
use Rattle.sg_dispersion_theory.proofs.Step.{iterate}
use Rattle.sg_dispersion_theory.proofs.Certificate.{Certificate}
use Rattle.sg_dispersion_theory.proofs.RowPlaces.{place_below}

pub record SomeCertificate (F : Field) (d e : ℕ) (a b : List F.R.A) : Type 0 where
  pub D : List F.R.A
  pub short : length D ≤ d * e + 1
  pub some : SomeNonzero F D
  pub is : Certificate F.R d e a b D

module _ (F : Field) where
  open F use {R}
  open R use {A, ◌≈◌, ◌⊞◌, ◌⊠◌, O, rfl, symm, trans, add_cong}

  -- the first n of a sequence of vectors, as a list
  abbrev listed : (ℕ → ℕ → A) → ℕ → List (ℕ → A)
  listed w zero = []
  listed w (suc n) = w 0 ∷ listed (λ t. w (suc t)) n

  length_listed : (w : ℕ → ℕ → A) (n : ℕ) → length (listed w n) ≡ n
  length_listed w zero = refl
  length_listed w (suc n) = ap suc (length_listed (λ t. w (suc t)) n)

  combination-listed : (w : ℕ → ℕ → A) (n : ℕ) (D : List A) (p : ℕ) → length D ≤ n → combination F D (listed w n) p ≈ sum R (λ t. coef R D t ⊠ w t p) (length D)
  combination-listed w n [] p l = rfl
  combination-listed w zero (c ∷ D) p l = absurd (omega arith)
  combination-listed w (suc n) (c ∷ D) p l = trans (add_cong rfl (combination-listed (λ t. w (suc t)) n D p (omega arith))) (symm (sum-first R (λ t. coef R (c ∷ D) t ⊠ w t p) (length D)))

  pub some_certificate : (d e : ℕ) (a b : List A) → SomeCertificate F d e a b
  some_certificate d e a b = made (dependent F (d * e) (listed row (d * e + 1)) (rw (length_listed row (d * e + 1)) (omega arith)))
    where
      -- the array after t steps, as one row
      row : ℕ → ℕ → A
      row t p = iterate R d e a b t (p / d) (p % d)

      made : Dependent F (d * e) (listed row (d * e + 1)) → SomeCertificate F d e a b
      made c = record { D = c.factors; short = short; some = c.some; is = record { none = none } }
        where
          short : length c.factors ≤ d * e + 1
          short = rw (length_listed row (d * e + 1)) at c.short

          none : (l i : ℕ) → l < e → i < d → sum R (λ t. coef R c.factors t ⊠ iterate R d e a b t l i) (length c.factors) ≈ O
          none l i p q = rw (div-mul-add l d i q, mod-mul-add l d i q) at
              (trans (symm (combination-listed row (d * e + 1) c.factors (l * d + i) short)) (c.none (l * d + i) (place_below l i d e p q)))
