-- Finite sums over a ring, telescoping, and dot products.
--   sum R f n          f 0 + .. + f (n - 1)
--   sum_cong, sum-add, sum-neg, sum-scale, sum-zero    equal terms; of sums, negatives, multiples, zeros
--   sum-first, sum-split    the first term apart; the first m terms apart
--   sum-swap           two sums in the other order
--   telescope          the sum of g (i + 1) - g i is g n - g 0
--   sum_of_differences the same for terms that are equal to such differences
--   sum_unit           the sum of terms of which one alone isn't zero
--   dot R xs ys        x₀ y₀ + x₁ y₁ + ..
--   dot_comm, dot-add, dot-scale, dot-neg    its laws
use Rattle.std.proofs.Common.{◌≡◌, ◌≢◌, ℕ, zero, suc, ◌+◌, ◌<◌, refl, List, [], ◌∷◌, ◌⊎◌, inl, inr, arith, map, add-zero, add-suc}
use Rattle.sg_algebra.specs.Ring.{Ring}
use Rattle.sg_algebra.specs.Coefficients.{zip_longest}
use Rattle.sg_algebra.proofs.Ring.{add4, mul_O, O_add, mul_swap, neg_O, neg_add, mul_neg}
use Rattle.sg_algebra.proofs.Solver.{by, reads}

module _ (R : Ring) where
  open R use {A, ◌≈◌, ◌⊞◌, ◌⊠◌, ⊟, O, I, rfl, symm, trans, add_cong, mul_cong, neg_cong, add_assoc, add_comm, add_O, add_neg, mul_comm, distrib}

  abbrev pub sum : (ℕ → A) → ℕ → A
  sum f zero = O
  sum f (suc n) = sum f n ⊞ f n

  pub sum_cong : (f g : ℕ → A) (n : ℕ) → ((i : ℕ) → i < n → f i ≈ g i) → sum f n ≈ sum g n
  sum_cong f g zero h = rfl
  sum_cong f g (suc n) h = add_cong (sum_cong f g n (λ i l. h i (omega arith))) (h n (omega arith))

  pub sum-add : (f g : ℕ → A) (n : ℕ) → sum (λ i. f i ⊞ g i) n ≈ sum f n ⊞ sum g n
  sum-add f g zero = symm add_O
  sum-add f g (suc n) = trans (add_cong (sum-add f g n) rfl) (add4 R)

  pub sum-neg : (f : ℕ → A) (n : ℕ) → sum (λ i. ⊟ (f i)) n ≈ ⊟ (sum f n)
  sum-neg f zero = symm (neg_O R)
  sum-neg f (suc n) = trans (add_cong (sum-neg f n) rfl) (symm (neg_add R))

  pub sum-scale : (c : A) (f : ℕ → A) (n : ℕ) → sum (λ i. c ⊠ f i) n ≈ c ⊠ sum f n
  sum-scale c f zero = symm (mul_O R)
  sum-scale c f (suc n) = trans (add_cong (sum-scale c f n) rfl) (symm distrib)

  pub sum-zero : (f : ℕ → A) (n : ℕ) → ((i : ℕ) → i < n → f i ≈ O) → sum f n ≈ O
  sum-zero f zero h = rfl
  sum-zero f (suc n) h = trans (add_cong (sum-zero f n (λ i l. h i (omega arith))) (h n (omega arith))) add_O

  pub sum-first : (f : ℕ → A) (n : ℕ) → sum f (suc n) ≈ f 0 ⊞ sum (λ i. f (suc i)) n
  sum-first f zero = add_comm
  sum-first f (suc n) = trans (add_cong (sum-first f n) rfl) add_assoc

  pub sum-split : (f : ℕ → A) (m n : ℕ) → sum f (m + n) ≈ sum f m ⊞ sum (λ i. f (m + i)) n
  sum-split f m zero = rw add-zero (symm add_O)
  sum-split f m (suc n) = rw add-suc (trans (add_cong (sum-split f m n) rfl) add_assoc)

  pub sum-swap : (f : ℕ → ℕ → A) (m n : ℕ) → sum (λ i. sum (f i) n) m ≈ sum (λ j. sum (λ i. f i j) m) n
  sum-swap f m zero = sum-zero (λ i. O) m (λ i l. rfl)
  sum-swap f m (suc n) = trans (sum-add (λ i. sum (f i) n) (λ i. f i n) m) (add_cong (sum-swap f m n) rfl)

  -- one term alone isn't zero
  pub sum_unit : (f : ℕ → A) (n k : ℕ) → k < n → ((i : ℕ) → i ≢ k → f i ≈ O) → sum f n ≈ f k
  sum_unit f zero k l h = absurd (omega arith)
  sum_unit f (suc n) k l h = elim (last_or_less k n l) [
    | inl e ↦ rw e (trans (add_cong (sum-zero f n (λ i j. h i (λ s. omega arith))) rfl) (O_add R))
    | inr j ↦ trans (add_cong (sum_unit f n k j h) (h n (λ s. omega arith))) add_O
  ]
    where
      last_or_less : (k n : ℕ) → k < suc n → (k ≡ n) ⊎ (k < n)
      last_or_less k n l = grind arith

  -- ---- Telescoping

  pub telescope : (g : ℕ → A) (n : ℕ) → sum (λ i. g (suc i) ⊞ ⊟ (g i)) n ≈ g n ⊞ ⊟ (g 0)
  telescope g zero = symm add_neg
  telescope g (suc n) = by R (sum (λ i. g (suc i) ⊞ ⊟ (g i)) n ∷ g n ∷ g (suc n) ∷ g 0 ∷ []) (telescope g n) (search reads depth 12) refl

  pub sum_of_differences : (f g : ℕ → A) (n : ℕ) → ((i : ℕ) → i < n → g (suc i) ⊞ ⊟ (g i) ≈ f i) → sum f n ≈ g n ⊞ ⊟ (g 0)
  sum_of_differences f g n h = trans (symm (sum_cong (λ i. g (suc i) ⊞ ⊟ (g i)) f n h)) (telescope g n)

  -- ---- Dot products

  abbrev pub dot : List A → List A → A
  dot [] ys = O
  dot (x ∷ xs) [] = O
  dot (x ∷ xs) (y ∷ ys) = x ⊠ y ⊞ dot xs ys

  pub dot_comm : (xs ys : List A) → dot xs ys ≈ dot ys xs
  dot_comm [] [] = rfl
  dot_comm [] (y ∷ ys) = rfl
  dot_comm (x ∷ xs) [] = rfl
  dot_comm (x ∷ xs) (y ∷ ys) = add_cong mul_comm (dot_comm xs ys)

  pub dot-add : (xs ys zs : List A) → dot xs (zip_longest ◌⊞◌ ys zs) ≈ dot xs ys ⊞ dot xs zs
  dot-add [] ys zs = symm add_O
  dot-add (x ∷ xs) [] zs = symm (O_add R)
  dot-add (x ∷ xs) (y ∷ ys) [] = symm add_O
  dot-add (x ∷ xs) (y ∷ ys) (z ∷ zs) = trans (add_cong distrib (dot-add xs ys zs)) (add4 R)

  pub dot-scale : (c : A) (xs ys : List A) → dot xs (map (λ y. c ⊠ y) ys) ≈ c ⊠ dot xs ys
  dot-scale c [] ys = symm (mul_O R)
  dot-scale c (x ∷ xs) [] = symm (mul_O R)
  dot-scale c (x ∷ xs) (y ∷ ys) = trans (add_cong (mul_swap R) (dot-scale c xs ys)) (symm distrib)

  pub dot-neg : (xs ys : List A) → dot xs (map ⊟ ys) ≈ ⊟ (dot xs ys)
  dot-neg [] ys = symm (neg_O R)
  dot-neg (x ∷ xs) [] = symm (neg_O R)
  dot-neg (x ∷ xs) (y ∷ ys) = trans (add_cong (mul_neg R) (dot-neg xs ys)) (symm (neg_add R))
