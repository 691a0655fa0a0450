-- Where polynomials with whole coefficients vanish.
--   EndsWell             a list doesn't end in 0
--   beyond_cauchy        no whole number from Cauchy's bound on is a root
--   ends_trimmed, eval_trimmed, none_trimmed     a list without the zeros at its end
--   vanishes_each        a polynomial that is 0 at every whole number has no coefficient other than 0
--   zero_always, vanishes_always    that is so exactly where the value is 0 for every parameter
--   ends_leading, none_leading, leading_vanishes    the coefficient of the highest power of the parameter
--   vanishes_near        where a polynomial isn't far and isn't 0, it vanishes only below 4,096 in size
use Rattle.std.proofs.Common.{◌≡◌, ◌≢◌, ℕ, zero, suc, ◌+◌, ◌-◌, ◌*◌, ◌/◌, ◌≤◌, ◌<◌, max, refl, sym, ap, ◌∙◌, List, [], ◌∷◌, map, ℤ, pos, negsuc, ◌+ℤ◌, ◌*ℤ◌, unsigned_abs, ◌⊎◌, inl, inr, arith}
use Rattle.std.proofs.lemmas.Int.{ints, unsigned_abs-mul}
use Rattle.std.proofs.lemmas.Nat.{mul-le}
use Rattle.sg_algebra.specs.Coefficients.{eval, Each}
use Rattle.sg_algebra.proofs.Whole.{ℤR, readsℤ}
use Rattle.sg_algebra.proofs.Solver.{ring}
use Rattle.sg_algebra.proofs.Horner.{horner-zero}
use Rattle.sg_spec.specs.Parts.{Plane, before, trimmed, later_or, leading, ceiling, cauchy_from, cauchy}
use Rattle.sg_parts.specs.Planes.{VanishesAt}
use Rattle.sg_parts.proofs.PlaneValues.{plane_value}

abbrev pub EndsWell : List ℤ → Type 0
EndsWell [] = Unit {0}
EndsWell (c ∷ []) = c ≢ pos 0
EndsWell (c ∷ (d ∷ p)) = EndsWell (d ∷ p)

-- ---- Cauchy's bound

pub ceiling_bound : (m l b : ℕ) → 0 < l → ceiling m l ≤ b → m ≤ b * l
ceiling_bound m l b h k =
    let q : m + l - 1 < (ceiling m l + 1) * l = above (m + l - 1) l h in
    let e : (ceiling m l + 1) * l ≡ ceiling m l * l + l = grind arith in
    let f : ceiling m l * l ≤ b * l = mul-le (ceiling m l) l b l k (omega arith) in
    omega (arith, q, e, f)
  where
    above : (x l : ℕ) → 0 < l → x < (x / l + 1) * l
    above x l h = grind arith

size_positive : (c : ℤ) → c ≢ pos 0 → 0 < unsigned_abs c
size_positive (pos zero) h = absurd (h refl)
size_positive (pos (suc n)) h = omega (arith, ints)
size_positive (negsuc n) h = omega (arith, ints)

alone : (c k : ℤ) → c +ℤ k *ℤ pos 0 ≡ c
alone c k = ring ℤR (c ∷ k ∷ []) (search readsℤ depth 16) refl

farther : (x y : ℤ) → unsigned_abs y ≤ unsigned_abs (x +ℤ y) + unsigned_abs x
farther x y = omega (arith, ints)

pub beyond_cauchy : (m b : ℕ) (c : ℤ) (p : List ℤ) (k : ℤ) → EndsWell (c ∷ p) → cauchy_from m (c ∷ p) ≤ b + 1 → b + 1 ≤ unsigned_abs k
    → (l : ℕ) × (0 < l) × (m ≤ b * l) × (l ≤ unsigned_abs (eval ℤR (c ∷ p) k))
beyond_cauchy m b c [] k ends near big =
    (unsigned_abs c, size_positive c ends, ceiling_bound m (unsigned_abs c) b (size_positive c ends) (omega arith), rw (alone c k) (omega arith))
beyond_cauchy m b c (d ∷ p) k ends near big =
    let (l, some, most, away) = beyond_cauchy (max m (unsigned_abs c)) b d p k ends near big in
    let v = eval ℤR (d ∷ p) k in
    let size : unsigned_abs (k *ℤ v) ≡ unsigned_abs k * unsigned_abs v = unsigned_abs-mul k v in
    let product : (b + 1) * l ≤ unsigned_abs k * unsigned_abs v = mul-le (b + 1) l (unsigned_abs k) (unsigned_abs v) big away in
    let e : (b + 1) * l ≡ b * l + l = grind arith in
    let f = farther c (k *ℤ v) in
    (l, some, omega (arith, most), omega (arith, most, size, product, e, f))

-- ---- A list without the zeros at its end

ends_before : (c : ℤ) (q : List ℤ) → EndsWell q → EndsWell (before c q)
ends_before (pos zero) [] h = tt
ends_before (pos (suc n)) [] h = λ e. absurd (omega (arith, ints))
ends_before (negsuc n) [] h = λ e. absurd (omega (arith, ints))
ends_before c (d ∷ q) h = h

pub ends_trimmed : (p : List ℤ) → EndsWell (trimmed p)
ends_trimmed [] = tt
ends_trimmed (c ∷ p) = ends_before c (trimmed p) (ends_trimmed p)

eval_before : (c : ℤ) (q : List ℤ) (k : ℤ) → eval ℤR (before c q) k ≡ c +ℤ k *ℤ eval ℤR q k
eval_before (pos zero) [] k = sym (alone (pos zero) k)
eval_before (pos (suc n)) [] k = refl
eval_before (negsuc n) [] k = refl
eval_before c (d ∷ q) k = refl

pub eval_trimmed : (p : List ℤ) (k : ℤ) → eval ℤR (trimmed p) k ≡ eval ℤR p k
eval_trimmed [] k = refl
eval_trimmed (c ∷ p) k = eval_before c (trimmed p) k ∙ ap (λ v. c +ℤ k *ℤ v) (eval_trimmed p k)

none_before : (c : ℤ) (q : List ℤ) → before c q ≡ [] → (c ≡ pos 0) × (q ≡ [])
none_before (pos zero) [] e = (refl, refl)
none_before (pos (suc n)) [] e = cc
none_before (negsuc n) [] e = cc
none_before c (d ∷ q) e = cc

pub none_trimmed : (p : List ℤ) → trimmed p ≡ [] → Each (λ c. c ≡ pos 0) p
none_trimmed [] e = tt
none_trimmed (c ∷ p) e = let (here, rest) = none_before c (trimmed p) e in (here, none_trimmed p rest)

-- a list that ends well isn't 0 at a number past its bound
far_point : (p : List ℤ) → EndsWell p → ((n : ℤ) → eval ℤR p n ≡ pos 0) → p ≡ []
far_point [] ends z = refl
far_point (c ∷ p) ends z =
    let b = cauchy (c ∷ p) in
    let (l, some, most, away) = beyond_cauchy 0 b c p (pos (b + 1)) ends (omega arith) (omega (arith, ints)) in
    let e : unsigned_abs (eval ℤR (c ∷ p) (pos (b + 1))) ≡ 0 = ap unsigned_abs (z (pos (b + 1))) in
    absurd (omega (arith, some, away, e))

pub vanishes_each : (p : List ℤ) → ((n : ℤ) → eval ℤR p n ≡ pos 0) → Each (λ c. c ≡ pos 0) p
vanishes_each p z = none_trimmed p (far_point (trimmed p) (ends_trimmed p) (λ n. eval_trimmed p n ∙ z n))

-- ---- For every parameter

pub zero_always : (p : Plane) (k n : ℤ) → VanishesAt p k → plane_value p n k ≡ pos 0
zero_always p k n h = horner-zero ℤR (λ row. eval ℤR row k) n p h

rows_value : (p : Plane) (n k : ℤ) → plane_value p n k ≡ eval ℤR (map (λ row. eval ℤR row k) p) n
rows_value [] n k = refl
rows_value (row ∷ p) n k = ap (λ v. eval ℤR row k +ℤ n *ℤ v) (rows_value p n k)

each_row : (p : Plane) (k : ℤ) → Each (λ c. c ≡ pos 0) (map (λ row. eval ℤR row k) p) → VanishesAt p k
each_row [] k h = tt
each_row (row ∷ p) k h = (h.0, each_row p k h.1)

pub vanishes_always : (p : Plane) (k : ℤ) → ((n : ℤ) → plane_value p n k ≡ pos 0) → VanishesAt p k
vanishes_always p k z = each_row p k (vanishes_each (map (λ row. eval ℤR row k) p) (λ n. sym (rows_value p n k) ∙ z n))

-- ---- The coefficient of the highest power of the parameter

ends_later : (row later : List ℤ) → EndsWell row → EndsWell later → EndsWell (later_or row later)
ends_later row [] h k = h
ends_later row (c ∷ later) h k = k

pub ends_leading : (p : Plane) → EndsWell (leading p)
ends_leading [] = tt
ends_leading (row ∷ p) = ends_later (trimmed row) (leading p) (ends_trimmed row) (ends_leading p)

later_vanishes : (row later : List ℤ) (k : ℤ) → eval ℤR row k ≡ pos 0 → eval ℤR later k ≡ pos 0 → eval ℤR (later_or row later) k ≡ pos 0
later_vanishes row [] k h e = h
later_vanishes row (c ∷ later) k h e = e

pub leading_vanishes : (p : Plane) (k : ℤ) → VanishesAt p k → eval ℤR (leading p) k ≡ pos 0
leading_vanishes [] k h = refl
leading_vanishes (row ∷ p) k h = later_vanishes (trimmed row) (leading p) k (eval_trimmed row k ∙ h.0) (leading_vanishes p k h.1)

none_later : (row later : List ℤ) → later_or row later ≡ [] → (row ≡ []) × (later ≡ [])
none_later row [] e = (e, refl)
none_later row (c ∷ later) e = cc

zeros : (p : List ℤ) (k : ℤ) → Each (λ c. c ≡ pos 0) p → eval ℤR p k ≡ pos 0
zeros p k h = horner-zero ℤR (λ c. c) k p h

-- the zero polynomial is 0 everywhere
pub none_leading : (p : Plane) (k : ℤ) → leading p ≡ [] → VanishesAt p k
none_leading [] k e = tt
none_leading (row ∷ p) k e = let (here, rest) = none_later (trimmed row) (leading p) e in (zeros row k (none_trimmed row here), none_leading p k rest)

either : (a b : ℕ) → (a ≤ b) ⊎ (b < a)
either a b = grind arith

near_root : (p : List ℤ) (k : ℤ) → EndsWell p → p ≢ [] → cauchy p ≤ 4096 → eval ℤR p k ≡ pos 0 → unsigned_abs k < 4096
near_root [] k ends some near z = absurd (some refl)
near_root (c ∷ p) k ends some near z = below (either 4096 (unsigned_abs k))
  where
    below : (4096 ≤ unsigned_abs k) ⊎ (unsigned_abs k < 4096) → unsigned_abs k < 4096
    below (inl big) =
        let (l, positive, most, away) = beyond_cauchy 0 4095 c p k ends near big in
        let e : unsigned_abs (eval ℤR (c ∷ p) k) ≡ 0 = ap unsigned_abs z in
        absurd (omega (arith, positive, away, e))
    below (inr h) = h

pub vanishes_near : (p : Plane) (k : ℤ) → leading p ≢ [] → cauchy (leading p) ≤ 4096 → VanishesAt p k → unsigned_abs k < 4096
vanishes_near p k some near h = near_root (leading p) k (ends_leading p) some near (leading_vanishes p k h)
