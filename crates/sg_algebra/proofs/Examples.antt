-- The solvers at work, each on an identity that it proves; and some data, their sums and their equality.
use Rattle.std.proofs.Common.{zero, suc, ◌≡◌, refl, [], ◌∷◌, ℤ, pos, negsuc, ◌+ℤ◌, ◌-ℤ◌, ◌*ℤ◌, ℕ}
use Rattle.sg_algebra.specs.Ring.{Ring, Field}
use Rattle.sg_algebra.specs.Datum.{Datum, zero_datum, one_datum, entry, operations, SameDatum, Valid}
use Rattle.sg_algebra.proofs.Ring.{nat, pow}
use Rattle.sg_algebra.proofs.Solver.{ring, by, scale, reads, Reads, r_num}
use Rattle.sg_algebra.proofs.Whole.{ℤR, readsℤ}
use Rattle.sg_algebra.proofs.FieldSolver.{field, freads, ne}

-- whole numbers, with numerals
whole : (a b : ℤ) → (a +ℤ b) *ℤ (a -ℤ b) +ℤ pos 3 *ℤ (b *ℤ b) ≡ a *ℤ a -ℤ negsuc 1 *ℤ (b *ℤ b)
whole a b = ring ℤR (a ∷ b ∷ []) (search readsℤ depth 16) refl

-- a linear combination of two hypotheses
combination : (a b c d : ℤ) → a ≡ b *ℤ c → b ≡ pos 2 *ℤ d → a ≡ pos 2 *ℤ (d *ℤ c)
combination a b c d h k = by ℤR (a ∷ b ∷ c ∷ d ∷ []) (ℤR.add_cong h (scale ℤR c k)) (search readsℤ depth 16) refl

module _ (R : Ring) where
  open R use {A, ◌≈◌, ◌⊞◌, ◌⊠◌, ⊟, O, I, rfl}

  -- the sum of three fractions, by cross products
  fractions : (a b c d e f : A) → (a ⊠ d ⊞ c ⊠ b) ⊠ f ⊞ e ⊠ (b ⊠ d) ≈ a ⊠ (d ⊠ f) ⊞ (c ⊠ f ⊞ e ⊠ d) ⊠ b
  fractions a b c d e f = ring R (a ∷ b ∷ c ∷ d ∷ e ∷ f ∷ []) (search reads depth 20) refl

  -- powers and numerals that are written out are computed
  cube : (x y : A) → pow R (x ⊞ y) 3 ≈ pow R x 3 ⊞ nat R 3 ⊠ pow R x 2 ⊠ y ⊞ nat R 3 ⊠ x ⊠ pow R y 2 ⊞ pow R y 3
  cube x y = ring R (x ∷ y ∷ []) (search reads depth 24 fits 5000) refl

  -- a numeral that isn't to be computed is read by a rule
  numeral : (x : A) → (nat R 12 ⊠ x ⊞ nat R 1000) ⊠ (x ⊞ ⊟ I) ≈ nat R 12 ⊠ (x ⊠ x) ⊞ nat R 988 ⊠ x ⊞ ⊟ (nat R 1000)
  numeral x = ring R (x ∷ []) (search (numerals, reads) depth 24 fits 5000) refl
    where
      numerals : (n : ℕ) → Reads R (x ∷ []) (nat R n)
      numerals n = r_num n rfl

module _ (F : Field) where
  open F use {R, inv}
  open R use {A, ◌≈◌, ◌⊞◌, ◌⊠◌, ⊟, O, I, trans}

  -- 1/k - 1/(k+1) = 1/(k (k+1))
  telescoped : (k : A) → ¬ (k ≈ O) → ¬ (k ⊞ I ≈ O) → inv k ⊞ ⊟ (inv (k ⊞ I)) ≈ inv (k ⊠ (k ⊞ I))
  telescoped k h j = field F (k ∷ []) (search freads depth 20) refl (search (ne F []))

  -- a divisor that is a product in another shape
  partial_fractions : (x y : A) → ¬ (x ⊞ y ≈ O) → ¬ (x ⊞ ⊟ y ≈ O) → inv (x ⊞ y) ⊞ inv (x ⊞ ⊟ y) ≈ (x ⊞ x) ⊠ inv (x ⊠ x ⊞ ⊟ (y ⊠ y))
  partial_fractions x y h i = field F (x ∷ y ∷ []) (search freads depth 20 fits 4000) refl (assumption square_ne)
    where
      square_ne : ¬ (x ⊠ x ⊞ ⊟ (y ⊠ y) ≈ O)
      square_ne z = ne F [] h i (trans (ring R (x ∷ y ∷ []) (search reads depth 12) refl) z)

-- ---- Data

half : Datum 0
half = record { num = pos 1; den = 2 }

two_quarters : SameDatum 0 half (record { num = pos 2; den = 4 })
unfolding half
two_quarters = refl

-- 1/k and k/k
one_over_k : Datum 1
one_over_k = (one_datum 0 ∷ [], zero_datum 0 ∷ one_datum 0 ∷ [])

k_over_k : Datum 1
k_over_k = (zero_datum 0 ∷ one_datum 0 ∷ [], zero_datum 0 ∷ one_datum 0 ∷ [])

k_over_k-same : SameDatum 1 k_over_k (one_datum 1)
unfolding k_over_k
k_over_k-same zero = refl
k_over_k-same (suc zero) = refl
k_over_k-same (suc (suc n)) = refl

-- 1/k + 1/k is 2k/k², and so 2/k
sum_over_k : SameDatum 1 ((operations 1).add one_over_k one_over_k) (record { num = pos 2; den = 1 } ∷ [], zero_datum 0 ∷ one_datum 0 ∷ [])
unfolding one_over_k
sum_over_k zero = refl
sum_over_k (suc zero) = refl
sum_over_k (suc (suc zero)) = refl
sum_over_k (suc (suc (suc zero))) = refl
sum_over_k (suc (suc (suc (suc n)))) = refl

-- 1/0 isn't valid, 1/k is
zero_below : ¬ Valid 1 (one_datum 0 ∷ [], zero_datum 0 ∷ [])
zero_below v = v.2.1 (at v.2.0)
  where
    at : (n : ℕ) → SameDatum 0 (entry 0 (zero_datum 0 ∷ []) n) (zero_datum 0)
    at zero = refl
    at (suc n) = refl
