-- Three ways to keep a polynomial in the variable and the parameter, and their values.
--   scaled-value       what has, times g, the coefficients of another, has, times g, its value
--   turned p           the rows over the powers of the parameter as rows over those of the variable; turned-coefficient, turned-value
--   lowest_first p     the highest first as the lowest first; lowest-value
use Rattle.std.proofs.Common.{◌≡◌, ℕ, zero, suc, refl, sym, ap, ap₂, ◌∙◌, List, [], ◌∷◌, ◌++◌, map, get_or, length, ℤ, pos, ◌+ℤ◌, ◌*ℤ◌}
use Rattle.sg_algebra.specs.Coefficients.{eval, horner, zip_longest}
use Rattle.sg_algebra.proofs.Ring.{pow}
use Rattle.sg_algebra.proofs.Whole.{ℤR, readsℤ}
use Rattle.sg_algebra.proofs.Solver.{ring, by}
use Rattle.sg_algebra.proofs.Horner.{horner-zip}
use Rattle.sg_spec.specs.Parts.{Plane, plane_add}
use Rattle.sg_answers_theory.specs.Recurrences.{coefficient}
use Rattle.sg_recurrence_theory.specs.Planes.{value_at}
use Rattle.sg_recurrence_theory.specs.Listing.{turned}

-- ---- A common factor

module _ (g : ℤ) where
  zero_step : (c v x : ℤ) → c ≡ pos 0 → v ≡ pos 0 → c +ℤ x *ℤ v ≡ pos 0
  zero_step c v x e f = by ℤR (c ∷ v ∷ x ∷ []) (ℤR.add_cong e (ℤR.mul_cong (ℤR.rfl {x = x}) f)) (search readsℤ depth 16) refl

  row_none : (p : List ℤ) (x : ℤ) → ((j : ℕ) → get_or p j (pos 0) ≡ pos 0) → eval ℤR p x ≡ pos 0
  row_none [] x h = refl
  row_none (c ∷ p) x h = zero_step c (eval ℤR p x) x (h 0) (row_none p x (λ j. h (suc j)))

  nothing : pos 0 *ℤ g ≡ pos 0
  nothing = ring ℤR (g ∷ []) (search readsℤ depth 12) refl

  cancel : (c v x w : ℤ) → c *ℤ g ≡ w → w ≡ w
  cancel c v x w e = refl

  scaled_step : (c d v w x : ℤ) → d *ℤ g ≡ c → v ≡ g *ℤ w → c +ℤ x *ℤ v ≡ g *ℤ (d +ℤ x *ℤ w)
  scaled_step c d v w x e f = by ℤR (c ∷ d ∷ v ∷ w ∷ x ∷ g ∷ []) (ℤR.add_cong (sym e) (ℤR.mul_cong (ℤR.rfl {x = x}) f)) (search readsℤ depth 20) refl

  row-scaled : (p q : List ℤ) (x : ℤ) → ((j : ℕ) → get_or q j (pos 0) *ℤ g ≡ get_or p j (pos 0)) → eval ℤR p x ≡ g *ℤ eval ℤR q x
  row-scaled [] [] x h = ring ℤR (g ∷ []) (search readsℤ depth 12) refl
  row-scaled (c ∷ p) [] x h = row_none (c ∷ p) x (λ j. sym (h j) ∙ nothing) ∙ ring ℤR (g ∷ []) (search readsℤ depth 12) refl
  row-scaled [] (d ∷ q) x h = ring ℤR (x ∷ []) (search readsℤ depth 12) refl ∙ scaled_step (pos 0) d (pos 0) (eval ℤR q x) x (h 0) (row-scaled [] q x (λ j. h (suc j)))
  row-scaled (c ∷ p) (d ∷ q) x h = scaled_step c d (eval ℤR p x) (eval ℤR q x) x (h 0) (row-scaled p q x (λ j. h (suc j)))

  pub scaled-value : (p q : Plane) (n k : ℤ) → ((i j : ℕ) → coefficient q i j *ℤ g ≡ coefficient p i j) → value_at p n k ≡ g *ℤ value_at q n k
  scaled-value [] [] n k h = ring ℤR (g ∷ []) (search readsℤ depth 12) refl
  scaled-value (row ∷ p) [] n k h = scaled_step (eval ℤR row n) (pos 0) (value_at p n k) (pos 0) k (nothing ∙ sym (row_none row n (λ j. sym (h 0 j) ∙ nothing))) (scaled-value p [] n k (λ i j. h (suc i) j)) ∙ ring ℤR (g ∷ k ∷ []) (search readsℤ depth 16) refl
  scaled-value [] (r ∷ q) n k h = ring ℤR (k ∷ []) (search readsℤ depth 12) refl ∙ scaled_step (pos 0) (eval ℤR r n) (pos 0) (value_at q n k) k (back (eval ℤR r n) (row-scaled [] r n (λ j. h 0 j))) (scaled-value [] q n k (λ i j. h (suc i) j))
    where
      back : (w : ℤ) → pos 0 ≡ g *ℤ w → w *ℤ g ≡ pos 0
      back w e = by ℤR (w ∷ g ∷ []) (sym e) (search readsℤ depth 16) refl
  scaled-value (row ∷ p) (r ∷ q) n k h = scaled_step (eval ℤR row n) (eval ℤR r n) (value_at p n k) (value_at q n k) k (back (eval ℤR row n) (eval ℤR r n) (row-scaled row r n (λ j. h 0 j))) (scaled-value p q n k (λ i j. h (suc i) j))
    where
      back : (v w : ℤ) → v ≡ g *ℤ w → w *ℤ g ≡ v
      back v w e = by ℤR (v ∷ w ∷ g ∷ []) (sym e) (search readsℤ depth 16) refl

-- ---- Turned

-- each number a row of its own
abbrev pub column : List ℤ → Plane
column row = map (λ c. c ∷ []) row

module _ (n k : ℤ) where
  row-add : (p q : List ℤ) → eval ℤR (zip_longest ◌+ℤ◌ p q) n ≡ eval ℤR p n +ℤ eval ℤR q n
  row-add p q = horner-zip ℤR (λ a. a) n ◌+ℤ◌ (λ a b. refl) p q

  column-value : (row : List ℤ) → value_at (column row) n k ≡ eval ℤR row k
  column-value [] = refl
  column-value (c ∷ row) = single c (value_at (column row) n k) (eval ℤR row k) (column-value row)
    where
      single : (c v w : ℤ) → v ≡ w → (c +ℤ n *ℤ pos 0) +ℤ k *ℤ v ≡ c +ℤ k *ℤ w
      single c v w e = by ℤR (c ∷ v ∷ w ∷ n ∷ k ∷ []) (ℤR.mul_cong (ℤR.rfl {x = k}) e) (search readsℤ depth 20) refl

  below-value : (p : Plane) → value_at (map (λ r. pos 0 ∷ r) p) n k ≡ n *ℤ value_at p n k
  below-value [] = ring ℤR (n ∷ []) (search readsℤ depth 12) refl
  below-value (r ∷ p) = one (eval ℤR r n) (value_at (map (λ r. pos 0 ∷ r) p) n k) (value_at p n k) (below-value p)
    where
      one : (c v w : ℤ) → v ≡ n *ℤ w → (pos 0 +ℤ n *ℤ c) +ℤ k *ℤ v ≡ n *ℤ (c +ℤ k *ℤ w)
      one c v w e = by ℤR (c ∷ v ∷ w ∷ n ∷ k ∷ []) (ℤR.mul_cong (ℤR.rfl {x = k}) e) (search readsℤ depth 20) refl

  pub turned-value : (p : Plane) → value_at (turned p) n k ≡ horner ℤR (λ row. eval ℤR row k) n p
  turned-value [] = refl
  turned-value (row ∷ p) =
      horner-zip ℤR (λ r. eval ℤR r n) k (zip_longest ◌+ℤ◌) row-add (column row) (map (λ r. pos 0 ∷ r) (turned p))
      ∙ ap₂ ◌+ℤ◌ (column-value row) (below-value (turned p) ∙ ap (λ z. n *ℤ z) (turned-value p))

-- ---- Coefficients of what is turned

entry-add : (p q : List ℤ) (j : ℕ) → get_or (zip_longest ◌+ℤ◌ p q) j (pos 0) ≡ get_or p j (pos 0) +ℤ get_or q j (pos 0)
entry-add [] q j = zero_left (get_or q j (pos 0))
  where
    zero_left : (z : ℤ) → z ≡ pos 0 +ℤ z
    zero_left z = ring ℤR (z ∷ []) (search readsℤ depth 12) refl
entry-add (c ∷ p) [] j = zero_right (get_or (c ∷ p) j (pos 0))
  where
    zero_right : (z : ℤ) → z ≡ z +ℤ pos 0
    zero_right z = ring ℤR (z ∷ []) (search readsℤ depth 12) refl
entry-add (c ∷ p) (d ∷ q) zero = refl
entry-add (c ∷ p) (d ∷ q) (suc j) = entry-add p q j

coefficient-add : (p q : Plane) (i j : ℕ) → coefficient (plane_add p q) i j ≡ coefficient p i j +ℤ coefficient q i j
coefficient-add [] q i j = zero_left (coefficient q i j)
  where
    zero_left : (z : ℤ) → z ≡ pos 0 +ℤ z
    zero_left z = ring ℤR (z ∷ []) (search readsℤ depth 12) refl
coefficient-add (r ∷ p) [] i j = zero_right (coefficient (r ∷ p) i j)
  where
    zero_right : (z : ℤ) → z ≡ z +ℤ pos 0
    zero_right z = ring ℤR (z ∷ []) (search readsℤ depth 12) refl
coefficient-add (r ∷ p) (s ∷ q) zero j = entry-add r s j
coefficient-add (r ∷ p) (s ∷ q) (suc i) j = coefficient-add p q i j

column-first : (row : List ℤ) (i : ℕ) → coefficient (column row) i 0 ≡ get_or row i (pos 0)
column-first [] i = refl
column-first (c ∷ row) zero = refl
column-first (c ∷ row) (suc i) = column-first row i

column-later : (row : List ℤ) (i j : ℕ) → coefficient (column row) i (suc j) ≡ pos 0
column-later [] i j = refl
column-later (c ∷ row) zero j = refl
column-later (c ∷ row) (suc i) j = column-later row i j

below-first : (p : Plane) (i : ℕ) → coefficient (map (λ r. pos 0 ∷ r) p) i 0 ≡ pos 0
below-first [] i = refl
below-first (r ∷ p) zero = refl
below-first (r ∷ p) (suc i) = below-first p i

below-later : (p : Plane) (i j : ℕ) → coefficient (map (λ r. pos 0 ∷ r) p) i (suc j) ≡ coefficient p i j
below-later [] i j = refl
below-later (r ∷ p) zero j = refl
below-later (r ∷ p) (suc i) j = below-later p i j

pub turned-coefficient : (p : Plane) (i j : ℕ) → coefficient (turned p) i j ≡ coefficient p j i
turned-coefficient [] i j = refl
turned-coefficient (row ∷ p) i zero =
    coefficient-add (column row) (map (λ r. pos 0 ∷ r) (turned p)) i 0 ∙ ap₂ ◌+ℤ◌ (column-first row i) (below-first (turned p) i) ∙ right (get_or row i (pos 0))
  where
    right : (z : ℤ) → z +ℤ pos 0 ≡ z
    right z = ring ℤR (z ∷ []) (search readsℤ depth 12) refl
turned-coefficient (row ∷ p) i (suc j) =
    coefficient-add (column row) (map (λ r. pos 0 ∷ r) (turned p)) i (suc j) ∙ ap₂ ◌+ℤ◌ (column-later row i j) (below-later (turned p) i j ∙ turned-coefficient p i j) ∙ left (coefficient p j i)
  where
    left : (z : ℤ) → pos 0 +ℤ z ≡ z
    left z = ring ℤR (z ∷ []) (search readsℤ depth 12) refl

-- turned twice
pub turned_back : (p : Plane) (n k : ℤ) → value_at (turned (turned p)) n k ≡ value_at p n k
turned_back p n k = turned-value n k (turned p) ∙ turned-value k n p

-- ---- The highest first

power_next : (x : ℤ) (n : ℕ) → pow ℤR x n *ℤ x ≡ x *ℤ pow ℤR x n
power_next x n = ring ℤR (x ∷ pow ℤR x n ∷ []) (search readsℤ depth 12) refl

module _ {C : Type 0} (f : C → ℤ) (x : ℤ) where
  pub append-value : (xs : List C) (c : C) → horner ℤR f x (xs ++ (c ∷ [])) ≡ horner ℤR f x xs +ℤ f c *ℤ pow ℤR x (length xs)
  append-value [] c = ring ℤR (f c ∷ x ∷ []) (search readsℤ depth 16) refl
  append-value (a ∷ xs) c = go (horner ℤR f x (xs ++ (c ∷ []))) (append-value xs c)
    where
      go : (v : ℤ) → v ≡ horner ℤR f x xs +ℤ f c *ℤ pow ℤR x (length xs)
          → f a +ℤ x *ℤ v ≡ (f a +ℤ x *ℤ horner ℤR f x xs) +ℤ f c *ℤ (pow ℤR x (length xs) *ℤ x)
      go v e = by ℤR (v ∷ f a ∷ f c ∷ x ∷ horner ℤR f x xs ∷ pow ℤR x (length xs) ∷ []) (ℤR.mul_cong (ℤR.rfl {x = x}) e) (search readsℤ depth 20) refl
