-- Arrays of e lines with d entries each: the array w stands for the polynomial Σ_l Σ_i w l i k^i j^l in k and j.
-- a and b are monic polynomials of degrees d and e, of which only the coefficients below d and below e are used: by functions f and g, or by lists a and b.
--   start R                    the array of the polynomial 1: the entry 1 at (0, 0), and 0 elsewhere
--   step_by R d e f g w        (j - k) times the polynomial of w, where k^d is replaced by -(f 0 + .. + f (d - 1) k^(d - 1)), and j^e by -(g 0 + .. + g (e - 1) j^(e - 1))
--   step R d e a b w           the same for lists of coefficients: (j - k) times w, modulo a(k) and b(j)
--   iterate R d e a b t        the start after t steps: (j - k)^t modulo a(k) and b(j)
--   array_value R d e w k j    the value of the polynomial of w
--   monic_value R f n x        the value at x of the monic polynomial of degree n with the lower coefficients f
--   Agree R d e w u            the arrays have equal entries
--   step_cong                  the step of equal arrays
--   array_value_cong, array_value-more, array_value-zero    the value of equal arrays, of w + c u, of zeros
--   step-on                    a map of rings goes inside
--   step-value                 the value after a step is (j - k) times the one before, and a multiple of a(k) and one of b(j)
--   start-value                the value of the start is 1
use Rattle.std.proofs.Common.{ℕ, zero, suc, ◌<◌, refl, List, [], ◌∷◌, arith}
use Rattle.sg_algebra.specs.Ring.{Ring, Hom}
use Rattle.sg_algebra.specs.Coefficients.{coef}
use Rattle.sg_algebra.proofs.Ring.{pow}
use Rattle.sg_algebra.proofs.Solver.{ring, by, scale, reads}
use Rattle.sg_algebra.proofs.Divides.{on-O, on-neg}
use Rattle.sg_dispersion_theory.proofs.Terms.{earlier, earlier_cong, first_terms, first_terms_cong, first_terms-zero, first_terms-more, first_terms-combined, first_terms-earlier, first_terms-unit}

module _ (R : Ring) where
  open R use {A, ◌≈◌, ◌⊞◌, ◌⊠◌, ⊟, O, I, rfl, symm, trans, add_cong, mul_cong, neg_cong}

  abbrev pub start : ℕ → ℕ → A
  start zero zero = I
  start zero (suc i) = O
  start (suc l) i = O

  -- Times j: each entry is the one of the line before, and what would come into the line e is taken away, times g l, in each line l.
  -- Times -k: each entry is the opposite of the one before it in its line, and what would come to the place d of the line is added, times f i, at each place i.
  -- Before the first line, and before the start of a line, stands 0. `earlier` at e is the entry of the last line, and at d the entry at the end of the line.
  abbrev pub step_by : (d e : ℕ) (f g : ℕ → A) → (ℕ → ℕ → A) → ℕ → ℕ → A
  step_by d e f g w l i = earlier R (λ n. w n i) l ⊞ ⊟ (g l ⊠ earlier R (λ n. w n i) e) ⊞ ⊟ (earlier R (w l) i) ⊞ f i ⊠ earlier R (w l) d

  abbrev pub step : (d e : ℕ) (a b : List A) → (ℕ → ℕ → A) → ℕ → ℕ → A
  step d e a b = step_by d e (coef R a) (coef R b)

  abbrev pub iterate : (d e : ℕ) (a b : List A) → ℕ → ℕ → ℕ → A
  iterate d e a b zero = start
  iterate d e a b (suc t) = step d e a b (iterate d e a b t)

  abbrev pub array_value : (d e : ℕ) → (ℕ → ℕ → A) → A → A → A
  array_value d e w k j = first_terms R (λ l. first_terms R (w l) d k) e j

  abbrev pub monic_value : (ℕ → A) → ℕ → A → A
  monic_value f n x = first_terms R f n x ⊞ pow R x n

  -- ---- Equal arrays, and sums of arrays

  -- equal within the e lines of d entries
  abbrev pub Agree : (d e : ℕ) → (ℕ → ℕ → A) → (ℕ → ℕ → A) → Type 0
  Agree d e w u = (l i : ℕ) → l < e → i < d → w l i ≈ u l i

  pub step_cong : (d e : ℕ) (a b : List A) (w u : ℕ → ℕ → A) → Agree d e w u → Agree d e (step d e a b w) (step d e a b u)
  step_cong d e a b w u h l i p q =
      add_cong (add_cong (add_cong (earlier_cong R (λ n. w n i) (λ n. u n i) l e (omega arith) (λ n s. h n i s q))
      (neg_cong (mul_cong rfl (earlier_cong R (λ n. w n i) (λ n. u n i) e e (omega arith) (λ n s. h n i s q)))))
      (neg_cong (earlier_cong R (w l) (u l) i d (omega arith) (λ n s. h l n p s)))) (mul_cong rfl (earlier_cong R (w l) (u l) d d (omega arith) (λ n s. h l n p s)))

  pub array_value-more : (d e : ℕ) (w u : ℕ → ℕ → A) (c k j : A) → array_value d e (λ l i. w l i ⊞ c ⊠ u l i) k j ≈ array_value d e w k j ⊞ c ⊠ array_value d e u k j
  array_value-more d e w u c k j =
      trans (first_terms_cong R (λ l. first_terms R (λ i. w l i ⊞ c ⊠ u l i) d k) (λ l. first_terms R (w l) d k ⊞ c ⊠ first_terms R (u l) d k) e j (λ l h. first_terms-more R (w l) (u l) c d k))
      (first_terms-more R (λ l. first_terms R (w l) d k) (λ l. first_terms R (u l) d k) c e j)

  pub array_value-zero : (d e : ℕ) (w : ℕ → ℕ → A) (k j : A) → Agree d e w (λ l i. O) → array_value d e w k j ≈ O
  array_value-zero d e w k j h = first_terms-zero R (λ l. first_terms R (w l) d k) e j (λ l p. first_terms-zero R (w l) d k (λ i q. h l i p q))

  pub array_value_cong : (d e : ℕ) (w u : ℕ → ℕ → A) (k j : A) → Agree d e w u → array_value d e w k j ≈ array_value d e u k j
  array_value_cong d e w u k j h = first_terms_cong R (λ l. first_terms R (w l) d k) (λ l. first_terms R (u l) d k) e j (λ l p. first_terms_cong R (w l) (u l) d k (λ i q. h l i p q))

  -- ---- The value of a step

  earlier-line : (d : ℕ) (w : ℕ → ℕ → A) (k : A) (l : ℕ) → first_terms R (λ i. earlier R (λ n. w n i) l) d k ≈ earlier R (λ n. first_terms R (w n) d k) l
  earlier-line d w k zero = first_terms-zero R (λ i. O) d k (λ i h. rfl)
  earlier-line d w k (suc l) = rfl

  module _ (d e : ℕ) (f g : ℕ → A) (w : ℕ → ℕ → A) (k j : A) where
    -- the values of the lines, and their last entries
    abbrev line : ℕ → A
    line l = first_terms R (w l) d k

    abbrev last : ℕ → A
    last l = earlier R (w l) d

    line-step : (l : ℕ) → first_terms R (step_by d e f g w l) d k ≈ earlier R line l ⊞ ⊟ (earlier R line e) ⊠ g l ⊞ ⊟ k ⊠ line l ⊞ monic_value f d k ⊠ last l
    line-step l =
        trans (first_terms_cong R (step_by d e f g w l) (λ i. earlier R (λ n. w n i) l ⊞ ⊟ (g l) ⊠ earlier R (λ n. w n i) e ⊞ ⊟ I ⊠ earlier R (w l) i ⊞ last l ⊠ f i) d k
        (λ i h. same (earlier R (λ n. w n i) l) (g l) (earlier R (λ n. w n i) e) (earlier R (w l) i) (f i) (last l)))
        (trans (first_terms-combined R (λ i. earlier R (λ n. w n i) l) (λ i. earlier R (λ n. w n i) e) (earlier R (w l)) f (⊟ (g l)) (⊟ I) (last l) d k)
        (joined (first_terms R (λ i. earlier R (λ n. w n i) l) d k) (earlier R line l) (first_terms R (λ i. earlier R (λ n. w n i) e) d k) (earlier R line e)
        (first_terms R (earlier R (w l)) d k) (last l) (pow R k d) (line l) (first_terms R f d k) (g l) (earlier-line d w k l) (earlier-line d w k e) (first_terms-earlier R (w l) d k)))
      where
        same : (x c y z s q : A) → x ⊞ ⊟ (c ⊠ y) ⊞ ⊟ z ⊞ s ⊠ q ≈ x ⊞ ⊟ c ⊠ y ⊞ ⊟ I ⊠ z ⊞ q ⊠ s
        same x c y z s q = ring R (x ∷ c ∷ y ∷ z ∷ s ∷ q ∷ []) (search reads depth 16) refl

        joined : (x x' y y' z q p t r c : A) → x ≈ x' → y ≈ y' → z ⊞ q ⊠ p ≈ k ⊠ t → x ⊞ ⊟ c ⊠ y ⊞ ⊟ I ⊠ z ⊞ q ⊠ r ≈ x' ⊞ ⊟ y' ⊠ c ⊞ ⊟ k ⊠ t ⊞ (r ⊞ p) ⊠ q
        joined x x' y y' z q p t r c h h' s =
            by R (x ∷ x' ∷ y ∷ y' ∷ z ∷ q ∷ p ∷ t ∷ r ∷ c ∷ k ∷ []) (add_cong h (add_cong (scale R (⊟ c) h') (neg_cong s))) (search reads depth 20 fits 5000) refl

    pub step-value : array_value d e (step_by d e f g w) k j ≈ (j ⊞ ⊟ k) ⊠ array_value d e w k j ⊞ monic_value f d k ⊠ first_terms R last e j ⊞ ⊟ (earlier R line e) ⊠ monic_value g e j
    step-value =
        trans (first_terms_cong R (λ l. first_terms R (step_by d e f g w l) d k) (λ l. earlier R line l ⊞ ⊟ (earlier R line e) ⊠ g l ⊞ ⊟ k ⊠ line l ⊞ monic_value f d k ⊠ last l) e j (λ l h. line-step l))
        (trans (first_terms-combined R (earlier R line) g line last (⊟ (earlier R line e)) (⊟ k) (monic_value f d k) e j)
        (joined (first_terms R (earlier R line) e j) (earlier R line e) (first_terms R g e j) (first_terms R line e j) (first_terms R last e j) (monic_value f d k) (pow R j e) (first_terms-earlier R line e j)))
      where
        joined : (x y r t q m p : A) → x ⊞ y ⊠ p ≈ j ⊠ t → x ⊞ ⊟ y ⊠ r ⊞ ⊟ k ⊠ t ⊞ m ⊠ q ≈ (j ⊞ ⊟ k) ⊠ t ⊞ m ⊠ q ⊞ ⊟ y ⊠ (r ⊞ p)
        joined x y r t q m p h = by R (x ∷ y ∷ r ∷ t ∷ q ∷ m ∷ p ∷ j ∷ k ∷ []) h (search reads depth 20 fits 5000) refl

  pub start-value : (d e : ℕ) (k j : A) → array_value (suc d) (suc e) start k j ≈ I
  start-value d e k j =
      trans (first_terms-unit R (λ l. first_terms R (start l) (suc d) k) e j (λ l. first_terms-zero R (start (suc l)) (suc d) k (λ i h. rfl)))
      (first_terms-unit R (start 0) d k (λ i. rfl))

-- ---- Maps of rings

module _ (R S : Ring) (σ : Hom R S) where
  open S use {◌≈◌, symm, trans, add_cong, mul_cong, neg_cong, rfl}

  earlier-on : (f : ℕ → R.A) (i : ℕ) → σ.on (earlier R f i) ≈ earlier S (λ n. σ.on (f n)) i
  earlier-on f zero = on-O R S σ
  earlier-on f (suc i) = rfl

  pub step-on : (d e : ℕ) (f g : ℕ → R.A) (w : ℕ → ℕ → R.A) (l i : ℕ)
      → σ.on (step_by R d e f g w l i) ≈ step_by S d e (λ n. σ.on (f n)) (λ n. σ.on (g n)) (λ l i. σ.on (w l i)) l i
  step-on d e f g w l i =
      trans (σ.on-add _ _) (add_cong (trans (σ.on-add _ _) (add_cong (trans (σ.on-add _ _) (add_cong (earlier-on (λ n. w n i) l)
      (trans (on-neg R S σ _) (neg_cong (trans (σ.on-mul _ _) (mul_cong rfl (earlier-on (λ n. w n i) e)))))))
      (trans (on-neg R S σ _) (neg_cong (earlier-on (w l) i)))))
      (trans (σ.on-mul _ _) (mul_cong rfl (earlier-on (w l) d))))
