-- The degree of a polynomial y, from the right side of A y(k + 1) - B y = C.
--   Left R a b y           a y(k + 1) - b y
--   top-Left               its coefficient at m + n, where a and b have none past m and y none past n
--   indicial R m a b n     n a_m + a_(m - 1) - b_(m - 1)
--   second-Left            its coefficient at m + n - 1, where a and b have the same coefficient at m: the indicial value at n times that of y at n
--   bound_first, bound_second    what bounds the degree of y in both cases
use Rattle.std.proofs.Common.{◌≡◌, ℕ, zero, suc, ◌+◌, ◌≤◌, ◌<◌, refl, sym, subst, List, [], ◌∷◌, ◌⊎◌, inl, inr, length, arith}
use Rattle.sg_algebra.specs.Ring.{Ring, Field}
use Rattle.sg_algebra.specs.Coefficients.{coef}
use Rattle.sg_algebra.proofs.Ring.{nat, neg_O}
use Rattle.sg_algebra.proofs.Solver.{ring, by, scale, reads}
use Rattle.sg_algebra.proofs.Series.{series_mul, series_mul_cong, O-series_mul, product_top}
use Rattle.sg_algebra.proofs.PolynomialRing.{PolyR, coef-mul, coef-zip, coef-each}
use Rattle.sg_algebra.proofs.Field.{product_ne, domain}
use Rattle.sg_algebra.proofs.Divides.{identity}
use Rattle.sg_algebra.proofs.Degree.{Below}
use Rattle.sg_algebra.proofs.Shift.{twist-top, twist-past, twist-second, shiftH}
use Rattle.sg_dispersion_theory.proofs.Terms.{earlier}

module _ (R : Ring) where
  open R use {A, ◌≈◌, ◌⊞◌, ◌⊠◌, ⊟, O, I, rfl, symm, trans, add_cong, mul_cong, neg_cong, add_O}
  open PolyR R use {◌≈◌ as ◌≋◌, ◌⊞◌ as ◌⊕◌, ◌⊠◌ as ◌⊗◌, ⊟ as ⊖}

  only_first : (f g : ℕ → A) → ((i : ℕ) → 0 < i → f i ≈ O) → (t : ℕ) → series_mul R f g t ≈ f 0 ⊠ g t
  only_first f g h zero = rfl
  only_first f g h (suc t) = trans (add_cong rfl (trans (series_mul_cong R (λ i. f (suc i)) (λ i. O) g g (λ i. h (suc i) (omega arith)) (λ i. rfl) t) (O-series_mul R g t))) add_O

  -- the coefficient below the degree of a product
  product_second : (m n t : ℕ) (f g : ℕ → A) → ((i : ℕ) → m < i → f i ≈ O) → ((i : ℕ) → n < i → g i ≈ O) → m + n ≡ suc t → series_mul R f g t ≈ f m ⊠ earlier R g n ⊞ earlier R f m ⊠ g n
  product_second zero n t f g h k e = trans (only_first f g h t) (go n e)
    where
      go : (n : ℕ) → zero + n ≡ suc t → f 0 ⊠ g t ≈ f 0 ⊠ earlier R g n ⊞ O ⊠ g n
      go zero e = absurd (omega arith)
      go (suc n) e = let q : t ≡ n = omega arith in subst (λ (j : ℕ). f 0 ⊠ g t ≈ f 0 ⊠ g j ⊞ O ⊠ g (suc j)) q (ring R (f 0 ∷ g t ∷ g (suc t) ∷ []) (search reads depth 16) refl)
  product_second (suc m) n zero f g h k e = go m n h k (omega arith) (omega arith)
    where
      go : (m n : ℕ) → ((i : ℕ) → suc m < i → f i ≈ O) → ((i : ℕ) → n < i → g i ≈ O) → m ≡ 0 → n ≡ 0 → series_mul R f g 0 ≈ f (suc m) ⊠ earlier R g n ⊞ f m ⊠ g n
      go zero zero h k p q = ring R (f 0 ∷ f 1 ∷ g 0 ∷ []) (search reads depth 16) refl
      go (suc m) n h k p q = absurd (omega arith)
      go zero (suc n) h k p q = absurd (omega arith)
  product_second (suc m) n (suc t) f g h k e = trans (add_cong rfl (product_second m n t (λ i. f (suc i)) g (λ i l. h (suc i) (omega arith)) k (omega arith))) (go m e)
    where
      go : (m : ℕ) → suc m + n ≡ suc (suc t) → f 0 ⊠ g (suc t) ⊞ (f (suc m) ⊠ earlier R g n ⊞ earlier R (λ i. f (suc i)) m ⊠ g n) ≈ f (suc m) ⊠ earlier R g n ⊞ f m ⊠ g n
      go zero e = let q : suc t ≡ n = omega arith in subst (λ (j : ℕ). f 0 ⊠ g (suc t) ⊞ (f 1 ⊠ earlier R g j ⊞ O ⊠ g j) ≈ f 1 ⊠ earlier R g j ⊞ f 0 ⊠ g j) q (ring R (f 0 ∷ f 1 ∷ g t ∷ g (suc t) ∷ []) (search reads depth 16) refl)
      go (suc m) e = by R (f 0 ∷ f (suc m) ∷ f (suc (suc m)) ∷ g (suc t) ∷ earlier R g n ∷ g n ∷ []) (scale R (f 0) (k (suc t) (omega arith))) (search reads depth 16) refl

  coef_past : (p : List A) (i : ℕ) → length p ≤ i → coef R p i ≈ O
  coef_past [] i l = rfl
  coef_past (a ∷ p) zero l = absurd (omega arith)
  coef_past (a ∷ p) (suc i) l = coef_past p i (omega arith)

  -- a coefficient that the degree rule makes zero takes the degree down
  lowered : (u : ℕ) (y : List A) → ((n : ℕ) → u ≤ n → ((i : ℕ) → n < i → coef R y i ≈ O) → coef R y n ≈ O) → (N : ℕ) → Below R N y → Below R u y
  lowered u y h zero b = record { none_from = λ n l. b.none_from n (omega arith) }
  lowered u y h (suc N) b = go (split u N) (λ c. lowered u y h N c)
    where
      split : (u N : ℕ) → (u ≤ N) ⊎ (suc N ≤ u)
      split u N = grind arith

      past : (n : ℕ) → N ≤ n → (n ≡ N) ⊎ (suc N ≤ n)
      past n l = grind arith

      go : (u ≤ N) ⊎ (suc N ≤ u) → (Below R N y → Below R u y) → Below R u y
      go (inr l) ih = record { none_from = λ n k. b.none_from n (omega arith) }
      go (inl l) ih = ih (record { none_from = λ n k. at n (past n k) })
        where
          at : (n : ℕ) → (n ≡ N) ⊎ (suc N ≤ n) → coef R y n ≈ O
          at n (inl e) = subst (λ (j : ℕ). coef R y j ≈ O) (sym e) (h N l (λ i q. b.none_from i q))
          at n (inr q) = b.none_from n q

  abbrev pub Left : List A → List A → List A → List A
  Left a b y = a ⊗ (shiftH R).on y ⊕ ⊖ (b ⊗ y)

  coef-Left : (a b y : List A) (t : ℕ) → coef R (Left a b y) t ≈ series_mul R (coef R a) (coef R ((shiftH R).on y)) t ⊞ ⊟ (series_mul R (coef R b) (coef R y) t)
  coef-Left a b y t = trans (coef-zip R (a ⊗ (shiftH R).on y) (⊖ (b ⊗ y)) t) (add_cong (coef-mul R a ((shiftH R).on y) t) (trans (coef-each R ⊟ (neg_O R) (b ⊗ y) t) (neg_cong (coef-mul R b y t))))

  abbrev pub indicial : ℕ → List A → List A → ℕ → A
  indicial m a b n = nat R n ⊠ coef R a m ⊞ (earlier R (coef R a) m ⊞ ⊟ (earlier R (coef R b) m))

  module _ (m : ℕ) (a b : List A) (end_a : (i : ℕ) → m < i → coef R a i ≈ O) (end_b : (i : ℕ) → m < i → coef R b i ≈ O) where
    pub top-Left : (n : ℕ) (y : List A) → ((i : ℕ) → n < i → coef R y i ≈ O) → coef R (Left a b y) (m + n) ≈ (coef R a m ⊞ ⊟ (coef R b m)) ⊠ coef R y n
    top-Left n y h = trans (coef-Left a b y (m + n)) (trans (add_cong (trans (product_top R m n (coef R a) (coef R ((shiftH R).on y)) end_a (twist-past R (identity R) I n y h)) (mul_cong rfl (twist-top R (identity R) I n y h)))
        (neg_cong (product_top R m n (coef R b) (coef R y) end_b h))) (ring R (coef R a m ∷ coef R b m ∷ coef R y n ∷ []) (search reads depth 16) refl))

    second_shift : (n : ℕ) (y : List A) → ((i : ℕ) → n < i → coef R y i ≈ O) → earlier R (coef R ((shiftH R).on y)) n ≈ earlier R (coef R y) n ⊞ nat R n ⊠ coef R y n
    second_shift zero y h = ring R (coef R y 0 ∷ []) (search reads depth 16) refl
    second_shift (suc n) y h = trans (twist-second R (identity R) I n y h) (ring R (coef R y n ∷ coef R y (suc n) ∷ nat R n ∷ []) (search reads depth 16) refl)

    pub second-Left : (n t : ℕ) (y : List A) → ((i : ℕ) → n < i → coef R y i ≈ O) → m + n ≡ suc t → coef R a m ≈ coef R b m → coef R (Left a b y) t ≈ indicial m a b n ⊠ coef R y n
    second-Left n t y h e same = trans (coef-Left a b y t) (trans (add_cong
        (trans (product_second m n t (coef R a) (coef R ((shiftH R).on y)) end_a (twist-past R (identity R) I n y h) e) (add_cong (mul_cong rfl (second_shift n y h)) (mul_cong rfl (twist-top R (identity R) I n y h))))
        (neg_cong (product_second m n t (coef R b) (coef R y) end_b h e)))
        (by R (coef R a m ∷ coef R b m ∷ earlier R (coef R a) m ∷ earlier R (coef R b) m ∷ coef R y n ∷ earlier R (coef R y) n ∷ nat R n ∷ []) (scale R (earlier R (coef R y) n) same) (search reads depth 20 fits 5000) refl))

module _ (F : Field) where
  open F use {R, is_zero}
  open R use {A, ◌≈◌, ◌⊞◌, ◌⊠◌, ⊟, O, symm, trans}

  factor_zero : (c x z : A) → ¬ (c ≈ O) → z ≈ O → z ≈ c ⊠ x → x ≈ O
  factor_zero c x z h k e = go (is_zero x)
    where
      go : Dec (x ≈ O) → x ≈ O
      go (yes q) = q
      go (no q) = absurd (product_ne (domain F) h q (trans (symm e) k))

  module _ (m : ℕ) (a b : List A) (end_a : (i : ℕ) → m < i → coef R a i ≈ O) (end_b : (i : ℕ) → m < i → coef R b i ≈ O) (c u : ℕ) (y : List A) (right : Below R c (Left R a b y)) where
    -- the coefficients at m differ
    pub bound_first : ¬ (coef R a m ⊞ ⊟ (coef R b m) ≈ O) → c ≤ m + u → Below R u y
    bound_first ne l = lowered R u y (λ n k h. factor_zero (coef R a m ⊞ ⊟ (coef R b m)) (coef R y n) (coef R (Left R a b y) (m + n)) ne (right.none_from (m + n) (omega arith)) (top-Left R m a b end_a end_b n y h)) (length y)
        (record { none_from = coef_past R y })

    -- they are equal
    pub bound_second : coef R a m ≈ coef R b m → suc c ≤ m + u → ((n : ℕ) → indicial R m a b n ≈ O → n < u) → Below R u y
    bound_second same l roots = lowered R u y one_down (length y) (record { none_from = coef_past R y })
      where
        one_down : (n : ℕ) → u ≤ n → ((i : ℕ) → n < i → coef R y i ≈ O) → coef R y n ≈ O
        one_down n k h = go (m + n) refl
          where
            go : (s : ℕ) → m + n ≡ s → coef R y n ≈ O
            go zero e = absurd (omega arith)
            go (suc t) e = factor_zero (indicial R m a b n) (coef R y n) (coef R (Left R a b y) t) (λ z. clash (roots n z)) (right.none_from t (omega arith)) (second-Left R m a b end_a end_b n t y h e same)
              where
                clash : n < u → ⊥
                clash q = omega arith
