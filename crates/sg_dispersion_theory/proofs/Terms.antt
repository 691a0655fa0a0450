-- The first terms of a power series: values of polynomials whose coefficients are given by a function.
--   earlier R f i               the entry before the one at i; before the first one stands 0
--   first_terms R f n x         f 0 + f 1 x + .. + f (n - 1) x^(n - 1)
--   earlier_cong                of equal entries
--   first_terms_cong, first_terms-zero    of equal entries; of zeros
--   first_terms-more, first_terms-combined    of f + c g; of f + p g + q h + r u
--   first_terms-earlier         where each entry goes one place up: x times the sum, but for the last entry
--   first_terms-first, first_terms-unit    the first term apart; where the first entry alone isn't zero
--   value-first_terms, value-monic    the value of a list of coefficients; of one with the leading coefficient 1
use Rattle.std.proofs.Common.{ℕ, zero, suc, ◌≤◌, ◌<◌, refl, List, [], ◌∷◌, arith}
use Rattle.sg_algebra.specs.Ring.{Ring, Hom}
use Rattle.sg_algebra.specs.Coefficients.{coef, horner}
use Rattle.sg_algebra.proofs.Ring.{pow, O_mul}
use Rattle.sg_algebra.proofs.Solver.{ring, by, reads}
use Rattle.sg_algebra.proofs.Sums.{sum, sum_cong, sum-zero, sum-first, sum-scale}
use Rattle.sg_algebra.proofs.Divides.{on-O}
use Rattle.sg_algebra.proofs.Degree.{Below, Monic}
use Rattle.sg_algebra.proofs.Evaluation.{value-zero}

module _ (R : Ring) where
  open R use {A, ◌≈◌, ◌⊞◌, ◌⊠◌, ⊟, O, I, rfl, symm, trans, add_cong, mul_cong, add_O, mul_I}

  abbrev pub earlier : (ℕ → A) → ℕ → A
  earlier f zero = O
  earlier f (suc i) = f i

  abbrev pub first_terms : (ℕ → A) → ℕ → A → A
  first_terms f n x = sum R (λ i. f i ⊠ pow R x i) n

  pub earlier_cong : (f g : ℕ → A) (i n : ℕ) → i ≤ n → ((m : ℕ) → m < n → f m ≈ g m) → earlier f i ≈ earlier g i
  earlier_cong f g zero n l h = rfl
  earlier_cong f g (suc i) n l h = h i (omega arith)

  pub first_terms_cong : (f g : ℕ → A) (n : ℕ) (x : A) → ((i : ℕ) → i < n → f i ≈ g i) → first_terms f n x ≈ first_terms g n x
  first_terms_cong f g n x h = sum_cong R (λ i. f i ⊠ pow R x i) (λ i. g i ⊠ pow R x i) n (λ i l. mul_cong (h i l) rfl)

  pub first_terms-zero : (f : ℕ → A) (n : ℕ) (x : A) → ((i : ℕ) → i < n → f i ≈ O) → first_terms f n x ≈ O
  first_terms-zero f n x h = sum-zero R (λ i. f i ⊠ pow R x i) n (λ i l. trans (mul_cong (h i l) rfl) (O_mul R))

  pub first_terms-more : (f g : ℕ → A) (c : A) (n : ℕ) (x : A) → first_terms (λ i. f i ⊞ c ⊠ g i) n x ≈ first_terms f n x ⊞ c ⊠ first_terms g n x
  first_terms-more f g c zero x = ring R (c ∷ []) (search reads depth 12) refl
  first_terms-more f g c (suc n) x =
      by R (f n ∷ g n ∷ c ∷ pow R x n ∷ first_terms f n x ∷ first_terms g n x ∷ first_terms (λ i. f i ⊞ c ⊠ g i) n x ∷ []) (first_terms-more f g c n x) (search reads depth 16) refl

  -- f + p g + q h + r u, with p, q, r constant
  pub first_terms-combined : (f g h u : ℕ → A) (p q r : A) (n : ℕ) (x : A)
      → first_terms (λ i. f i ⊞ p ⊠ g i ⊞ q ⊠ h i ⊞ r ⊠ u i) n x ≈ first_terms f n x ⊞ p ⊠ first_terms g n x ⊞ q ⊠ first_terms h n x ⊞ r ⊠ first_terms u n x
  first_terms-combined f g h u p q r zero x = ring R (p ∷ q ∷ r ∷ []) (search reads depth 16) refl
  first_terms-combined f g h u p q r (suc n) x =
      trans (add_cong (first_terms-combined f g h u p q r n x) rfl)
      (joined (first_terms f n x) (first_terms g n x) (first_terms h n x) (first_terms u n x) (f n) (g n) (h n) (u n) p q r (pow R x n))
    where
      joined : (a b c d a' b' c' d' p q r y : A)
          → (a ⊞ p ⊠ b ⊞ q ⊠ c ⊞ r ⊠ d) ⊞ (a' ⊞ p ⊠ b' ⊞ q ⊠ c' ⊞ r ⊠ d') ⊠ y ≈ (a ⊞ a' ⊠ y) ⊞ p ⊠ (b ⊞ b' ⊠ y) ⊞ q ⊠ (c ⊞ c' ⊠ y) ⊞ r ⊠ (d ⊞ d' ⊠ y)
      joined a b c d a' b' c' d' p q r y = ring R (a ∷ b ∷ c ∷ d ∷ a' ∷ b' ∷ c' ∷ d' ∷ p ∷ q ∷ r ∷ y ∷ []) (search reads depth 24 fits 8000) refl

  pub first_terms-earlier : (f : ℕ → A) (n : ℕ) (x : A) → first_terms (earlier f) n x ⊞ earlier f n ⊠ pow R x n ≈ x ⊠ first_terms f n x
  first_terms-earlier f zero x = ring R (x ∷ []) (search reads depth 16) refl
  first_terms-earlier f (suc n) x =
      by R (first_terms (earlier f) n x ∷ earlier f n ∷ f n ∷ pow R x n ∷ x ∷ first_terms f n x ∷ []) (first_terms-earlier f n x) (search reads depth 16) refl

  pub first_terms-unit : (f : ℕ → A) (n : ℕ) (x : A) → ((i : ℕ) → f (suc i) ≈ O) → first_terms f (suc n) x ≈ f 0
  first_terms-unit f n x h =
      trans (sum-first R (λ i. f i ⊠ pow R x i) n)
      (trans (add_cong mul_I (sum-zero R (λ i. f (suc i) ⊠ pow R x (suc i)) n (λ i l. trans (mul_cong (h i) rfl) (O_mul R)))) add_O)

  -- the first term apart
  pub first_terms-first : (f : ℕ → A) (n : ℕ) (x : A) → first_terms f (suc n) x ≈ f 0 ⊞ x ⊠ first_terms (λ i. f (suc i)) n x
  first_terms-first f n x =
      trans (sum-first R (λ i. f i ⊠ pow R x i) n)
      (add_cong mul_I (trans (sum_cong R (λ i. f (suc i) ⊠ pow R x (suc i)) (λ i. x ⊠ (f (suc i) ⊠ pow R x i)) n (λ i l. ring R (f (suc i) ∷ x ∷ pow R x i ∷ []) (search reads depth 16) refl))
      (sum-scale R x (λ i. f (suc i) ⊠ pow R x i) n)))

module _ (R S : Ring) (f : Hom R S) (x : S.A) where
  open S use {◌≈◌, ◌⊞◌, ◌⊠◌, rfl, symm, trans, add_cong, mul_cong}

  pub value-first_terms : (n : ℕ) (p : List R.A) → Below R n p → horner S f.on x p ≈ first_terms S (λ i. f.on (coef R p i)) n x
  value-first_terms n [] b = symm (first_terms-zero S (λ i. f.on (coef R [] i)) n x (λ i l. on-O R S f))
  value-first_terms zero (a ∷ p) b = value-zero R S f x (a ∷ p) (λ n. b.none_from n (omega arith))
  value-first_terms (suc n) (a ∷ p) b =
      trans (add_cong rfl (mul_cong rfl (value-first_terms n p (record { none_from = λ i l. b.none_from (suc i) (omega arith) }))))
      (symm (first_terms-first S (λ i. f.on (coef R (a ∷ p) i)) n x))

  pub value-monic : (n : ℕ) (p : List R.A) → Monic R n p → horner S f.on x p ≈ first_terms S (λ i. f.on (coef R p i)) n x ⊞ pow S x n
  value-monic n p m =
      trans (value-first_terms (suc n) p (record { none_from = λ i l. m.ends i (omega arith) }))
      (add_cong rfl (trans (mul_cong (trans (f.on_cong (coef R p n) R.I m.top) f.on-one) rfl) (trans S.mul_comm S.mul_I)))
