-- Horner's scheme for the powers of j - k modulo a(k) and b(j): the combination of the first powers with the factors of a list, from the last factor on.
--   step-more                 the step of w + c u is that of w and c times that of u
--   powers R d e a b D        D₀ w₀ + D₁ w₁ + .. over all factors, entry by entry, where w_t is the start after t steps
--   powers-none               without factors it is zero
--   powers-first              with one more factor in front it is the step of the one before, and this factor times the start
--   none_stands, first_stands     the rows that stand for them: a row of zeros, and one that comes of the row before it
--   vanishing                 where all items of the row are 0, the factors are a certificate
use Rattle.std.proofs.Common.{◌≡◌, ℕ, zero, suc, ◌+◌, ◌*◌, ◌/◌, ◌%◌, ◌<◌, refl, sym, List, [], ◌∷◌, length, arith}
use Rattle.sg_algebra.specs.Ring.{Ring}
use Rattle.sg_algebra.specs.Coefficients.{coef}
use Rattle.sg_algebra.proofs.Ring.{mul_O}
use Rattle.sg_algebra.proofs.Solver.{ring, reads}
use Rattle.sg_algebra.proofs.Sums.{sum, sum-first}
use Rattle.sg_dispersion_theory.proofs.Terms.{earlier}
use Rattle.sg_dispersion_theory.proofs.RowPlaces.{line_below, column_below, place_is}
use Rattle.sg_dispersion_theory.proofs.Step.{start, step, step_cong, iterate}
use Rattle.sg_dispersion_theory.proofs.StepRow.{Stands, entries, step_at, stands_by}
use Rattle.sg_dispersion_theory.proofs.Certificate.{weighted, Certificate}

module _ (R : Ring) where
  open R use {A, ◌≈◌, ◌⊞◌, ◌⊠◌, ⊟, O, rfl, symm, trans, add_cong, mul_cong, neg_cong, mul_I}

  earlier-more : (f g : ℕ → A) (c : A) (i : ℕ) → earlier R (λ n. f n ⊞ c ⊠ g n) i ≈ earlier R f i ⊞ c ⊠ earlier R g i
  earlier-more f g c zero = ring R (c ∷ []) (search reads depth 12) refl
  earlier-more f g c (suc i) = rfl

  earlier-zero : (i : ℕ) → earlier R (λ n. O) i ≈ O
  earlier-zero zero = rfl
  earlier-zero (suc i) = rfl

  module _ (d e : ℕ) (a b : List A) where
    pub step-more : (w u : ℕ → ℕ → A) (c : A) (l i : ℕ) → step R d e a b (λ l i. w l i ⊞ c ⊠ u l i) l i ≈ step R d e a b w l i ⊞ c ⊠ step R d e a b u l i
    step-more w u c l i =
        trans (add_cong (add_cong (add_cong (earlier-more (λ n. w n i) (λ n. u n i) c l) (neg_cong (mul_cong rfl (earlier-more (λ n. w n i) (λ n. u n i) c e))))
        (neg_cong (earlier-more (w l) (u l) c i))) (mul_cong rfl (earlier-more (w l) (u l) c d)))
        (joined (earlier R (λ n. w n i) l) (earlier R (λ n. u n i) l) (earlier R (λ n. w n i) e) (earlier R (λ n. u n i) e) (earlier R (w l) i) (earlier R (u l) i) (earlier R (w l) d) (earlier R (u l) d) (coef R b l) (coef R a i) c)
      where
        joined : (x y z t p q r s g f c : A)
            → ((x ⊞ c ⊠ y) ⊞ ⊟ (g ⊠ (z ⊞ c ⊠ t)) ⊞ ⊟ (p ⊞ c ⊠ q) ⊞ f ⊠ (r ⊞ c ⊠ s)) ≈ (x ⊞ ⊟ (g ⊠ z) ⊞ ⊟ p ⊞ f ⊠ r) ⊞ c ⊠ (y ⊞ ⊟ (g ⊠ t) ⊞ ⊟ q ⊞ f ⊠ s)
        joined x y z t p q r s g f c = ring R (x ∷ y ∷ z ∷ t ∷ p ∷ q ∷ r ∷ s ∷ g ∷ f ∷ c ∷ []) (search reads depth 24 fits 8000) refl

    step-zero : (l i : ℕ) → step R d e a b (λ l i. O) l i ≈ O
    step-zero l i =
        trans (add_cong (add_cong (add_cong (earlier-zero l) (neg_cong (mul_cong rfl (earlier-zero e)))) (neg_cong (earlier-zero i))) (mul_cong rfl (earlier-zero d)))
        (none (coef R b l) (coef R a i))
      where
        none : (g f : A) → (O ⊞ ⊟ (g ⊠ O) ⊞ ⊟ O ⊞ f ⊠ O) ≈ O
        none g f = ring R (g ∷ f ∷ []) (search reads depth 16) refl

    step-sum : (c : ℕ → A) (w : ℕ → ℕ → ℕ → A) (n l i : ℕ)
        → step R d e a b (λ l i. sum R (λ t. c t ⊠ w t l i) n) l i ≈ sum R (λ t. c t ⊠ step R d e a b (w t) l i) n
    step-sum c w zero l i = step-zero l i
    step-sum c w (suc n) l i = trans (step-more (λ l i. sum R (λ t. c t ⊠ w t l i) n) (w n) (c n) l i) (add_cong (step-sum c w n l i) rfl)

    abbrev pub powers : List A → ℕ → ℕ → A
    powers D = weighted R d e a b D (length D)

    pub powers-none : (l i : ℕ) → powers [] l i ≈ O
    powers-none l i = rfl

    pub powers-first : (c : A) (D : List A) (l i : ℕ) → powers (c ∷ D) l i ≈ step R d e a b (powers D) l i ⊞ c ⊠ start R l i
    powers-first c D l i =
        trans (sum-first R (λ t. coef R (c ∷ D) t ⊠ iterate R d e a b t l i) (length D))
        (trans (add_cong rfl (symm (step-sum (coef R D) (iterate R d e a b) (length D) l i)))
        (swapped (c ⊠ start R l i) (step R d e a b (powers D) l i)))
      where
        swapped : (x y : A) → x ⊞ y ≈ y ⊞ x
        swapped x y = ring R (x ∷ y ∷ []) (search reads depth 12) refl

    -- ---- Rows

    -- a constant, at its place and in its array
    start_at : (x : A) (l i p : ℕ) → p ≡ l * d + i → i < d → coef R (x ∷ []) p ≈ x ⊠ start R l i
    start_at x zero zero zero h q = symm mul_I
    start_at x zero zero (suc p) h q = absurd (omega (arith, h))
    start_at x zero (suc i) zero h q = absurd (omega (arith, h))
    start_at x zero (suc i) (suc p) h q = symm (mul_O R)
    start_at x (suc l) i zero h q = absurd (omega (arith, h, q))
    start_at x (suc l) i (suc p) h q = symm (mul_O R)

    pub none_stands : (row : List A) → length row ≡ d * e → ((p : ℕ) → p < d * e → coef R row p ≈ O) → Stands R d e row (powers [])
    none_stands row s h = stands_by R d e row (powers []) s h

    pub first_stands : (row new : List A) (c : A) (D : List A) → Stands R d e row (powers D) → length new ≡ d * e
        → ((p : ℕ) → p < d * e → coef R new p ≈ step_at R d e a b row p ⊞ coef R (c ∷ []) p) → Stands R d e new (powers (c ∷ D))
    first_stands row new c D s size h =
        stands_by R d e new (powers (c ∷ D)) size
        (λ p q. trans (h p q) (trans (add_cong (step_cong R d e a b (entries R d e row) (powers D) s.entry (p / d) (p % d) (line_below p d e q) (column_below p d e q))
        (start_at c (p / d) (p % d) p (sym (place_is p d)) (column_below p d e q))) (symm (powers-first c D (p / d) (p % d)))))

    pub vanishing : (row D : List A) → Stands R d e row (powers D) → ((p : ℕ) → coef R row p ≈ O) → Certificate R d e a b D
    vanishing row D s h = record { none = λ l i p q. trans (symm (s.entry l i p q)) (h (l * d + i)) }
