-- The coefficient of the highest power of the parameter, found from the end.
--   trimmed_take          without the zeros at its end a list is its front, up to the last coefficient other than 0
--   leading_take          rows without coefficients at the end don't count
--   greatest              the greatest size among the first n
--   cauchy_take           Cauchy's bound of a front
use Rattle.std.proofs.Common.{◌≡◌, ◌≢◌, ℕ, zero, suc, ◌+◌, ◌-◌, ◌*◌, ◌/◌, ◌<◌, ◌≤◌, max, refl, sym, ap, ap₂, subst, ◌∙◌, List, [], ◌∷◌, take, drop, get_or, length, ℤ, pos, negsuc, unsigned_abs, arith}
use Rattle.std.proofs.lemmas.Int.{ints}
use Rattle.sg_spec.specs.Parts.{Plane, before, trimmed, later_or, leading, ceiling, cauchy_from, cauchy}
use Rattle.sg_parts.specs.Planes.{greatest}

before_some : (c : ℤ) (q : List ℤ) → q ≢ [] → before c q ≡ c ∷ q
before_some c [] h = absurd (h refl)
before_some (pos zero) (d ∷ q) h = refl
before_some (pos (suc n)) (d ∷ q) h = refl
before_some (negsuc n) (d ∷ q) h = refl

before_alone : (c : ℤ) → c ≢ pos 0 → before c [] ≡ c ∷ []
before_alone (pos zero) h = absurd (h refl)
before_alone (pos (suc n)) h = refl
before_alone (negsuc n) h = refl

pub trimmed_none : (p : List ℤ) → ((k : ℕ) → get_or p k (pos 0) ≡ pos 0) → trimmed p ≡ []
trimmed_none [] h = refl
trimmed_none (c ∷ p) h = ap₂ before (h 0) (trimmed_none p (λ k. h (suc k)))

cons_ne : (c : ℤ) (p : List ℤ) → c ∷ p ≢ []
cons_ne c p e = cc

take_some : (p : List ℤ) (n : ℕ) → n < length p → take (suc n) p ≢ []
take_some [] n h = absurd (omega arith)
take_some (c ∷ p) n h = cons_ne c (take n p)

pub trimmed_take : (p : List ℤ) (n : ℕ) → n < length p → get_or p n (pos 0) ≢ pos 0 → ((k : ℕ) → suc n ≤ k → get_or p k (pos 0) ≡ pos 0) → trimmed p ≡ take (suc n) p
trimmed_take [] n h ne z = absurd (omega arith)
trimmed_take (c ∷ p) zero h ne z = ap (before c) (trimmed_none p (λ k. z (suc k) (omega arith))) ∙ before_alone c ne
trimmed_take (c ∷ p) (suc n) h ne z =
    ap (before c) (trimmed_take p n (omega arith) ne (λ k le. z (suc k) (omega (arith, le)))) ∙ before_some c (take (suc n) p) (take_some p n (omega arith))

-- ---- Cauchy's bound of a front

max_swap : (m a b : ℕ) → max (max m a) b ≡ max m (max a b)
max_swap m a b = omega arith

cauchy_front : (p : List ℤ) (n m : ℕ) → n < length p → cauchy_from m (take (suc n) p) ≡ 1 + ceiling (max m (greatest (take n p))) (unsigned_abs (get_or p n (pos 0)))
cauchy_front [] n m h = absurd (omega arith)
cauchy_front (c ∷ p) zero m h = let e : max m 0 ≡ m = omega arith in ap (λ m. 1 + ceiling m (unsigned_abs c)) (sym e)
cauchy_front (c ∷ []) (suc n) m h = absurd (omega arith)
cauchy_front (c ∷ (d ∷ p)) (suc n) m h = cauchy_front (d ∷ p) n (max m (unsigned_abs c)) (omega arith) ∙ ap (λ m. 1 + ceiling m (unsigned_abs (get_or (d ∷ p) n (pos 0)))) (max_swap m (unsigned_abs c) (greatest (take n (d ∷ p))))

pub cauchy_take : (p : List ℤ) (n : ℕ) → n < length p → cauchy (take (suc n) p) ≡ 1 + ceiling (greatest (take n p)) (unsigned_abs (get_or p n (pos 0)))
cauchy_take p n h = cauchy_front p n 0 h ∙ ap (λ m. 1 + ceiling m (unsigned_abs (get_or p n (pos 0)))) (nothing (greatest (take n p)))
  where
    nothing : (m : ℕ) → max 0 m ≡ m
    nothing m = omega arith

-- ---- The test

above : (x l : ℕ) → 0 < l → x < (x / l + 1) * l
above x l h = grind arith

within : (x l : ℕ) → 0 < l → (x / l) * l ≤ x
within x l h = grind arith

-- the bound is above 4,096 exactly where the greatest size is above 4,095 times that of the last coefficient
pub far_is : (m l : ℕ) → 0 < l → l * 4095 < m → 4096 < 1 + ceiling m l
far_is m l h lt = grind (arith, above (m + l - 1) l h)

pub near_is : (m l : ℕ) → 0 < l → m ≤ l * 4095 → 1 + ceiling m l ≤ 4096
near_is m l h le = grind (arith, within (m + l - 1) l h)

-- ---- The highest row with a coefficient

later_some : (row later : List ℤ) → later ≢ [] → later_or row later ≡ later
later_some row [] h = absurd (h refl)
later_some row (c ∷ later) h = refl

pub leading_none : (p : Plane) → ((k : ℕ) → trimmed (get_or p k []) ≡ []) → leading p ≡ []
leading_none [] h = refl
leading_none (row ∷ p) h = ap (λ q. later_or (trimmed row) q) (leading_none p (λ k. h (suc k))) ∙ h 0

pub leading_at : (p : Plane) (i : ℕ) → i < length p → trimmed (get_or p i []) ≢ [] → ((k : ℕ) → suc i ≤ k → trimmed (get_or p k []) ≡ []) → leading p ≡ trimmed (get_or p i [])
leading_at [] i h ne z = absurd (omega arith)
leading_at (row ∷ p) zero h ne z = ap (λ q. later_or (trimmed row) q) (leading_none p (λ k. z (suc k) (omega arith)))
leading_at (row ∷ p) (suc i) h ne z =
    let rest = leading_at p i (omega arith) ne (λ k le. z (suc k) (omega (arith, le))) in
    ap (λ q. later_or (trimmed row) q) rest ∙ later_some (trimmed row) (trimmed (get_or p i [])) ne

-- the front up to the last coefficient other than 0 is some
pub trimmed_some : (p : List ℤ) (n : ℕ) → 0 < n → n ≤ length p → get_or p (n - 1) (pos 0) ≢ pos 0 → ((k : ℕ) → n ≤ k → get_or p k (pos 0) ≡ pos 0) → (trimmed p ≡ take n p) × (trimmed p ≢ [])
trimmed_some p zero h le ne z = absurd (omega arith)
trimmed_some p (suc n) h le ne z =
    let back : suc n - 1 ≡ n = omega arith in
    let e = trimmed_take p n (omega arith) (subst (λ k. get_or p k (pos 0) ≢ pos 0) back ne) z in
    (e, λ f. take_some p n (omega arith) (sym e ∙ f))

pub far_row : (p : List ℤ) (n g l : ℕ) → 0 < n → n ≤ length p → get_or p (n - 1) (pos 0) ≢ pos 0 → ((k : ℕ) → n ≤ k → get_or p k (pos 0) ≡ pos 0) → g ≡ greatest (take (n - 1) p) → l ≡ unsigned_abs (get_or p (n - 1) (pos 0))
    → cauchy (trimmed p) ≡ 1 + ceiling g l
far_row p zero g l h le ne z e f = absurd (omega arith)
far_row p (suc n) g l h le ne z e f =
    let back : suc n - 1 ≡ n = omega arith in
    ap cauchy (trimmed_take p n (omega arith) (subst (λ k. get_or p k (pos 0) ≢ pos 0) back ne) z) ∙ cauchy_take p n (omega arith)
    ∙ ap₂ (λ m k. 1 + ceiling m k) (sym (e ∙ ap (λ k. greatest (take k p)) back)) (sym (f ∙ ap (λ k. unsigned_abs (get_or p k (pos 0))) back))

pub size_some : (c : ℤ) → c ≢ pos 0 → 0 < unsigned_abs c
size_some (pos zero) h = absurd (h refl)
size_some (pos (suc n)) h = omega (arith, ints)
size_some (negsuc n) h = omega (arith, ints)

-- ---- The greatest size, from the end

drop_front : (p : List ℤ) (n i : ℕ) → i < n → n ≤ length p → drop i (take n p) ≡ get_or p i (pos 0) ∷ drop (suc i) (take n p)
drop_front [] n i h le = absurd (omega arith)
drop_front (c ∷ p) zero i h le = absurd (omega arith)
drop_front (c ∷ p) (suc n) zero h le = refl
drop_front (c ∷ p) (suc n) (suc i) h le = drop_front p n i (omega arith) (omega arith)

pub greatest_more : (p : List ℤ) (n i j : ℕ) → j ≡ suc i → i < n → n ≤ length p → greatest (drop i (take n p)) ≡ max (unsigned_abs (get_or p i (pos 0))) (greatest (drop j (take n p)))
greatest_more p n i j e h le = rw e (ap greatest (drop_front p n i h le))

pub greatest_none : (p : List ℤ) (n : ℕ) → n ≤ length p → greatest (drop n (take n p)) ≡ 0
greatest_none p zero le = refl
greatest_none [] (suc n) le = absurd (omega arith)
greatest_none (c ∷ p) (suc n) le = greatest_none p n (omega arith)
