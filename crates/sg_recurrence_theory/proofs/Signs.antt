-- What the range of a recurrence says: where its divisors aren't 0.
--   put-value        the value of a polynomial with polynomials in place of its letters
--   some_value       a polynomial of one sign isn't 0 at numbers from 0 on
--   kept_all         a divisor that keeps all is 0 nowhere from its limit on, at any parameter from 0 on
--   kept_below       one that keeps below is 0 nowhere from its limit to the parameter
--   all-spared, below-spared     so for all divisors
use Rattle.std.proofs.Common.{◌≡◌, ◌≢◌, refl, ap, ap₂, ◌∙◌, List, [], ◌∷◌, inl, inr, ℤ, pos, ◌+ℤ◌, ◌-ℤ◌, ◌*ℤ◌, ◌≤ℤ◌, ◌<ℤ◌, arith}
use Rattle.std.proofs.lemmas.Int.{ints}
use Rattle.sg_algebra.specs.Coefficients.{Each, zip_longest, conv, eval}
use Rattle.sg_algebra.proofs.Whole.{ℤR, readsℤ, mul_nonneg}
use Rattle.sg_algebra.proofs.Solver.{ring}
use Rattle.sg_algebra.proofs.Horner.{horner-zip, horner-conv}
use Rattle.sg_spec.specs.Parts.{Plane, plane_add, plane_mul}
use Rattle.sg_limits.specs.declared.divisors.Divisor.{Divisor}
use Rattle.sg_answers_theory.specs.Recurrences.{coefficient}
use Rattle.sg_recurrence_theory.specs.Planes.{value_at}
use Rattle.sg_recurrence_theory.specs.Ranges.{put_row, put, IsOneSign, from_limit, beyond, second, KeepsAll, KeepsBelow}
use Rattle.sg_recurrence_theory.specs.Recurrences.{Spares}

-- ---- Values of sums and products

module _ (w u : ℤ) where
  row-add : (p q : List ℤ) → eval ℤR (zip_longest ◌+ℤ◌ p q) w ≡ eval ℤR p w +ℤ eval ℤR q w
  row-add p q = horner-zip ℤR (λ a. a) w ◌+ℤ◌ (λ a b. refl) p q

  row-mul : (p q : List ℤ) → eval ℤR (conv ◌+ℤ◌ ◌*ℤ◌ (pos 0) p q) w ≡ eval ℤR p w *ℤ eval ℤR q w
  row-mul p q = horner-conv ℤR (λ a. a) w ◌+ℤ◌ ◌*ℤ◌ (pos 0) (λ a b. refl) (λ a b. refl) refl p q

  value-add : (p q : Plane) → value_at (plane_add p q) w u ≡ value_at p w u +ℤ value_at q w u
  value-add p q = horner-zip ℤR (λ row. eval ℤR row w) u (zip_longest ◌+ℤ◌) row-add p q

  value-mul : (p q : Plane) → value_at (plane_mul p q) w u ≡ value_at p w u *ℤ value_at q w u
  value-mul p q = horner-conv ℤR (λ row. eval ℤR row w) u (zip_longest ◌+ℤ◌) (conv ◌+ℤ◌ ◌*ℤ◌ (pos 0)) [] row-add row-mul refl p q

  value-number : (c : ℤ) → value_at ((c ∷ []) ∷ []) w u ≡ c
  value-number c = ring ℤR (c ∷ w ∷ u ∷ []) (search readsℤ depth 16) refl

  value-from_limit : (l : ℤ) → value_at (from_limit l) w u ≡ l +ℤ u
  value-from_limit l = ring ℤR (l ∷ w ∷ u ∷ []) (search readsℤ depth 20) refl

  value-beyond : (l : ℤ) → value_at (beyond l) w u ≡ (l +ℤ u) +ℤ w
  value-beyond l = ring ℤR (l ∷ w ∷ u ∷ []) (search readsℤ depth 20) refl

  value-second : value_at second w u ≡ w
  value-second = ring ℤR (w ∷ u ∷ []) (search readsℤ depth 20) refl

  put_row-value : (y : Plane) (row : List ℤ) → value_at (put_row y row) w u ≡ eval ℤR row (value_at y w u)
  put_row-value y [] = refl
  put_row-value y (c ∷ row) =
      value-add ((c ∷ []) ∷ []) (plane_mul y (put_row y row)) ∙ ap₂ ◌+ℤ◌ (value-number c) (value-mul y (put_row y row) ∙ ap (λ z. value_at y w u *ℤ z) (put_row-value y row))

  pub put-value : (x y p : Plane) → value_at (put x y p) w u ≡ value_at p (value_at y w u) (value_at x w u)
  put-value x y [] = refl
  put-value x y (row ∷ p) =
      value-add (put_row y row) (plane_mul x (put x y p)) ∙ ap₂ ◌+ℤ◌ (put_row-value y row) (value-mul x (put x y p) ∙ ap (λ z. value_at x w u *ℤ z) (put-value x y p))

-- ---- Polynomials of one sign

nonneg_nonpos : (a b : ℤ) → pos 0 ≤ℤ a → b ≤ℤ pos 0 → (a *ℤ b) ≤ℤ pos 0
nonneg_nonpos a b h k = let m : pos 0 ≤ℤ (a *ℤ (pos 0 -ℤ b)) = mul_nonneg a (pos 0 -ℤ b) h (omega (arith, ints)) in let e : a *ℤ (pos 0 -ℤ b) ≡ pos 0 -ℤ a *ℤ b = flip a b in omega (arith, ints)
  where
    flip : (a b : ℤ) → a *ℤ (pos 0 -ℤ b) ≡ pos 0 -ℤ a *ℤ b
    flip a b = ring ℤR (a ∷ b ∷ []) (search readsℤ depth 16) refl

row_up : (row : List ℤ) (w : ℤ) → pos 0 ≤ℤ w → Each (λ c. pos 0 ≤ℤ c) row → pos 0 ≤ℤ eval ℤR row w
row_up [] w h e = omega (arith, ints)
row_up (c ∷ row) w h e = let m : pos 0 ≤ℤ (w *ℤ eval ℤR row w) = mul_nonneg w (eval ℤR row w) h (row_up row w h e.1) in let c0 : pos 0 ≤ℤ c = e.0 in omega (arith, ints)

row_down : (row : List ℤ) (w : ℤ) → pos 0 ≤ℤ w → Each (λ c. c ≤ℤ pos 0) row → eval ℤR row w ≤ℤ pos 0
row_down [] w h e = omega (arith, ints)
row_down (c ∷ row) w h e = let m : (w *ℤ eval ℤR row w) ≤ℤ pos 0 = nonneg_nonpos w (eval ℤR row w) h (row_down row w h e.1) in let c0 : c ≤ℤ pos 0 = e.0 in omega (arith, ints)

plane_up : (p : Plane) (w u : ℤ) → pos 0 ≤ℤ w → pos 0 ≤ℤ u → Each (λ row. Each (λ c. pos 0 ≤ℤ c) row) p → pos 0 ≤ℤ value_at p w u
plane_up [] w u h k e = omega (arith, ints)
plane_up (row ∷ p) w u h k e = let m : pos 0 ≤ℤ (u *ℤ value_at p w u) = mul_nonneg u (value_at p w u) k (plane_up p w u h k e.1) in let r : pos 0 ≤ℤ eval ℤR row w = row_up row w h e.0 in omega (arith, ints)

plane_down : (p : Plane) (w u : ℤ) → pos 0 ≤ℤ w → pos 0 ≤ℤ u → Each (λ row. Each (λ c. c ≤ℤ pos 0) row) p → value_at p w u ≤ℤ pos 0
plane_down [] w u h k e = omega (arith, ints)
plane_down (row ∷ p) w u h k e = let m : (u *ℤ value_at p w u) ≤ℤ pos 0 = nonneg_nonpos u (value_at p w u) k (plane_down p w u h k e.1) in let r : eval ℤR row w ≤ℤ pos 0 = row_down row w h e.0 in omega (arith, ints)

above : (p : Plane) (w u : ℤ) → pos 0 ≤ℤ w → pos 0 ≤ℤ u → Each (λ row. Each (λ c. pos 0 ≤ℤ c) row) p → pos 0 <ℤ coefficient p 0 0 → pos 0 <ℤ value_at p w u
above [] w u h k e f = absurd (omega (arith, ints, f))
above ([] ∷ p) w u h k e f = absurd (omega (arith, ints, f))
above ((c ∷ row) ∷ p) w u h k e f =
    let m : pos 0 ≤ℤ (u *ℤ value_at p w u) = mul_nonneg u (value_at p w u) k (plane_up p w u h k e.1) in
    let r : pos 0 ≤ℤ (w *ℤ eval ℤR row w) = mul_nonneg w (eval ℤR row w) h (row_up row w h e.0.1) in
    let g : pos 0 <ℤ c = f in omega (arith, ints)

beneath : (p : Plane) (w u : ℤ) → pos 0 ≤ℤ w → pos 0 ≤ℤ u → Each (λ row. Each (λ c. c ≤ℤ pos 0) row) p → coefficient p 0 0 <ℤ pos 0 → value_at p w u <ℤ pos 0
beneath [] w u h k e f = absurd (omega (arith, ints, f))
beneath ([] ∷ p) w u h k e f = absurd (omega (arith, ints, f))
beneath ((c ∷ row) ∷ p) w u h k e f =
    let m : (u *ℤ value_at p w u) ≤ℤ pos 0 = nonneg_nonpos u (value_at p w u) k (plane_down p w u h k e.1) in
    let r : (w *ℤ eval ℤR row w) ≤ℤ pos 0 = nonneg_nonpos w (eval ℤR row w) h (row_down row w h e.0.1) in
    let g : c <ℤ pos 0 = f in omega (arith, ints)

pub some_value : (p : Plane) (w u : ℤ) → IsOneSign p → pos 0 ≤ℤ w → pos 0 ≤ℤ u → value_at p w u ≢ pos 0
some_value p w u (inl o) h k z = let m : pos 0 <ℤ value_at p w u = above p w u h k o.0 o.1 in omega (arith, ints)
some_value p w u (inr o) h k z = let m : value_at p w u <ℤ pos 0 = beneath p w u h k o.0 o.1 in omega (arith, ints)

-- ---- Divisors

pub kept_all : (d : Divisor) → KeepsAll d → (n k : ℤ) → pos 0 ≤ℤ n → d.limit ≤ℤ k → value_at d.poly n k ≢ pos 0
kept_all d keeps n k hn hk z =
    some_value (put (from_limit d.limit) second d.poly) n (k -ℤ d.limit) keeps hn (omega (arith, ints))
    (put-value n (k -ℤ d.limit) (from_limit d.limit) second d.poly ∙ ap₂ (value_at d.poly) (value-second n (k -ℤ d.limit)) (value-from_limit n (k -ℤ d.limit) d.limit ∙ back) ∙ z)
  where
    back : d.limit +ℤ (k -ℤ d.limit) ≡ k
    back = omega (arith, ints)

pub kept_below : (d : Divisor) → KeepsBelow d → (n k : ℤ) → k ≤ℤ n → d.limit ≤ℤ k → value_at d.poly n k ≢ pos 0
kept_below d keeps n k hn hk z =
    some_value (put (from_limit d.limit) (beyond d.limit) d.poly) (n -ℤ k) (k -ℤ d.limit) keeps (omega (arith, ints)) (omega (arith, ints))
    (put-value (n -ℤ k) (k -ℤ d.limit) (from_limit d.limit) (beyond d.limit) d.poly
    ∙ ap₂ (value_at d.poly) (value-beyond (n -ℤ k) (k -ℤ d.limit) d.limit ∙ whole) (value-from_limit (n -ℤ k) (k -ℤ d.limit) d.limit ∙ back) ∙ z)
  where
    back : d.limit +ℤ (k -ℤ d.limit) ≡ k
    back = omega (arith, ints)

    whole : (d.limit +ℤ (k -ℤ d.limit)) +ℤ (n -ℤ k) ≡ n
    whole = omega (arith, ints)

pub all-spared : (V : List Divisor) → Each KeepsAll V → (n N : ℤ) → pos 0 ≤ℤ n → Spares V n N
all-spared [] h n N hn = tt
all-spared (d ∷ V) h n N hn = (λ k l m. kept_all d h.0 n k hn l, all-spared V h.1 n N hn)

pub below-spared : (V : List Divisor) → Each KeepsBelow V → (n N : ℤ) → N <ℤ n → Spares V n N
below-spared [] h n N l = tt
below-spared (d ∷ V) h n N l = (λ k a b. kept_below d h.0 n k (omega (arith, ints)) a, below-spared V h.1 n N l)
