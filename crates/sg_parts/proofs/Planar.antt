-- Polynomials that are built row by row.
--   next_row, row_in           the rows from a place on; a row is no heavier than all together
--   moved_row-zip, moved_row-next, moved_row_none      the rows of a sum and of a list from its second place on, moved up
--   moved_row-each             those of a list times a row
--   row_next, row_last         the product with one factor's first row taken out
--   plane_size_next            its size
--   more_rows, past_rows       what holds of the rows so far, and of one more; past the last one all coefficients are 0
--   SamePlane's laws           same_ring, ring_same: equal coefficients are equality in the ring of polynomials over polynomials
--   same_sum, same_product, same_power     sums, products and powers of equal polynomials are equal
--   same_size                  equal polynomials have equal sizes
--   power_on, power_next       one product more in a power
use Rattle.std.proofs.Common.{◌≡◌, ℕ, zero, suc, ◌+◌, ◌-◌, ◌*◌, ◌^◌, ◌<◌, ◌≤◌, max, refl, sym, ap, ap₂, subst, ◌∙◌, ◌⊎◌, inl, inr, List, [], ◌∷◌, ◌++◌, drop, get_or, length, map, ℤ, pos, ◌+ℤ◌, ◌*ℤ◌, unsigned_abs, arith, add-zero, add-suc}
use Rattle.std.proofs.lemmas.Int.{ints}
use Rattle.std.proofs.lemmas.Nat.{mul-le}
use Rattle.std.proofs.Math.Nat.{pow-succ'}
use Rattle.sg_algebra.specs.Ring.{Ring}
use Rattle.sg_algebra.proofs.PolynomialRing.{PolyR}
use Rattle.sg_algebra.proofs.Whole.{ℤR, readsℤ}
use Rattle.sg_algebra.proofs.Solver.{ring}
use Rattle.sg_spec.specs.Parts.{Plane, plane_add, plane_mul, plane_power}
use Rattle.sg_parts.specs.Planes.{row_size, plane_size, entry, coefficient, moved_row, row_product, SamePlane}
use Rattle.sg_parts.proofs.Adding.{moved-zip}
use Rattle.sg_parts.proofs.Sizes.{plane-power}

-- ---- Rows

drop_next : (p : Plane) (i : ℕ) → i < length p → drop i p ≡ get_or p i [] ∷ drop (suc i) p
drop_next [] i h = absurd (omega arith)
drop_next (row ∷ p) zero h = refl
drop_next (row ∷ p) (suc i) h = drop_next p i (omega arith)

none_left : (p : Plane) (i : ℕ) → length p ≤ i → drop i p ≡ []
none_left [] zero h = refl
none_left [] (suc i) h = refl
none_left (row ∷ p) zero h = absurd (omega arith)
none_left (row ∷ p) (suc i) h = none_left p i (omega arith)

pub row_past : (p : Plane) (i : ℕ) → length p ≤ i → get_or p i [] ≡ []
row_past [] i h = refl
row_past (row ∷ p) zero h = absurd (omega arith)
row_past (row ∷ p) (suc i) h = row_past p i (omega arith)

pub row_size_in : (p : Plane) (i : ℕ) → row_size (get_or p i []) ≤ plane_size p
row_size_in [] i = omega arith
row_size_in (row ∷ p) zero = omega arith
row_size_in (row ∷ p) (suc i) = let e = row_size_in p i in omega (arith, e)

zero_plus : (a : ℤ) → pos 0 +ℤ a ≡ a
zero_plus a = omega (arith, ints)

plus_zero : (a : ℤ) → a +ℤ pos 0 ≡ a
plus_zero a = omega (arith, ints)

moved_row_none : (m i : ℕ) → moved_row m [] i ≡ []
moved_row_none zero i = refl
moved_row_none (suc m) zero = refl
moved_row_none (suc m) (suc i) = moved_row_none m i

moved_row-zip : (m : ℕ) (p q : Plane) (i j : ℕ) → entry (moved_row m (plane_add p q) i) j ≡ entry (moved_row m p i) j +ℤ entry (moved_row m q i) j
moved_row-zip zero [] q i j = sym (zero_plus (entry (get_or q i []) j))
moved_row-zip zero (a ∷ p) [] i j = sym (plus_zero (entry (get_or (a ∷ p) i []) j))
moved_row-zip zero (a ∷ p) (b ∷ q) zero j = moved-zip 0 a b j
moved_row-zip zero (a ∷ p) (b ∷ q) (suc i) j = moved_row-zip zero p q i j
moved_row-zip (suc m) p q zero j = refl
moved_row-zip (suc m) p q (suc i) j = moved_row-zip m p q i j

moved_row-next : (m : ℕ) (p : Plane) (i : ℕ) → moved_row m ([] ∷ p) i ≡ moved_row (suc m) p i
moved_row-next zero p zero = refl
moved_row-next zero p (suc i) = refl
moved_row-next (suc m) p zero = refl
moved_row-next (suc m) p (suc i) = moved_row-next m p i

nothing_times : (p : List ℤ) (j : ℕ) → entry (row_product p []) j ≡ pos 0
nothing_times [] j = refl
nothing_times (a ∷ p) zero = refl
nothing_times (a ∷ p) (suc j) = nothing_times p j

each_row : (p : List ℤ) (q : Plane) (i j : ℕ) → entry (row_product p (get_or q i [])) j ≡ entry (get_or (map (row_product p) q) i []) j
each_row p [] i j = nothing_times p j
each_row p (row ∷ q) zero j = refl
each_row p (row ∷ q) (suc i) j = each_row p q i j

-- the row of a list times a row, moved up to a place that isn't past
pub moved_row-each : (p : List ℤ) (m : ℕ) (q : Plane) (i j : ℕ) → m ≤ i → entry (row_product p (get_or q (i - m) [])) j ≡ entry (moved_row m (map (row_product p) q) i) j
moved_row-each p zero q i j h = let e : i - 0 ≡ i = omega arith in ap (λ i. entry (row_product p (get_or q i [])) j) e ∙ each_row p q i j
moved_row-each p (suc m) q zero j h = absurd (omega arith)
moved_row-each p (suc m) q (suc i) j h = let e : suc i - suc m ≡ i - m = omega arith in ap (λ i. entry (row_product p (get_or q i [])) j) e ∙ moved_row-each p m q i j (omega arith)

pub moved_row_before : (m : ℕ) (q : Plane) (i j : ℕ) → i < m → entry (moved_row m q i) j ≡ pos 0
moved_row_before zero q i j h = absurd (omega arith)
moved_row_before (suc m) q zero j h = refl
moved_row_before (suc m) q (suc i) j h = moved_row_before m q i j (omega arith)

pub row_next : (p q : Plane) (i k place j : ℕ) → i < length p → k ≡ suc i
    → entry (moved_row i (plane_mul (drop i p) q) place) j ≡ entry (moved_row i (map (row_product (get_or p i [])) q) place) j +ℤ entry (moved_row k (plane_mul (drop k p) q) place) j
row_next p q i k place j h e =
    ap (λ l. entry (moved_row i (plane_mul l q) place) j) (drop_next p i h)
    ∙ moved_row-zip i (map (row_product (get_or p i [])) q) ([] ∷ plane_mul (drop (suc i) p) q) place j
    ∙ ap (λ row. entry (moved_row i (map (row_product (get_or p i [])) q) place) j +ℤ entry row j) (moved_row-next i (plane_mul (drop (suc i) p) q) place ∙ ap (λ n. moved_row n (plane_mul (drop n p) q) place) (sym e))

pub row_last : (p q : Plane) (i place j : ℕ) → length p ≤ i → entry (moved_row i (plane_mul (drop i p) q) place) j ≡ pos 0
row_last p q i place j h = ap (λ l. entry (moved_row i (plane_mul l q) place) j) (none_left p i h) ∙ ap (λ row. entry row j) (moved_row_none i place)

plane_size_next : (p q : Plane) (i k : ℕ) → i < length p → k ≡ suc i → plane_size (drop i p) * plane_size q ≡ row_size (get_or p i []) * plane_size q + plane_size (drop k p) * plane_size q
plane_size_next p q i k h e = ap (λ l. plane_size l * plane_size q) (drop_next p i h) ∙ sums (row_size (get_or p i [])) (plane_size (drop (suc i) p)) (plane_size q) ∙ ap (λ k. row_size (get_or p i []) * plane_size q + plane_size (drop k p) * plane_size q) (sym e)
  where
    sums : (a b d : ℕ) → (a + b) * d ≡ a * d + b * d
    sums a b d = grind arith

pub light_row : (p q : Plane) (i row bound : ℕ) → i < length p → row + plane_size (drop i p) * plane_size q ≤ bound → bound < 2 ^ 127 → row + row_size (get_or p i []) * plane_size q < 2 ^ 127
light_row p q i row bound h k b = let s = plane_size_next p q i (suc i) h refl in omega (arith, s, k, b)

pub light_on : (p q : Plane) (i k new row bound : ℕ) → i < length p → k ≡ suc i → new ≤ row + row_size (get_or p i []) * plane_size q → row + plane_size (drop i p) * plane_size q ≤ bound
    → new + plane_size (drop k p) * plane_size q ≤ bound
light_on p q i k new row bound h n f g = let s = plane_size_next p q i k h n in omega (arith, s, f, g)

pub light_pair : (p : List ℤ) (q : Plane) (j row : ℕ) → row + row_size p * plane_size q < 2 ^ 127 → row + row_size p * row_size (get_or q j []) < 2 ^ 127
light_pair p q j row h = let s = mul-le (row_size p) (row_size (get_or q j [])) (row_size p) (plane_size q) (omega arith) (row_size_in q j) in omega (arith, s, h)

pub pair_most : (p : List ℤ) (q : Plane) (j new row : ℕ) → new ≤ row + row_size p * row_size (get_or q j []) → new ≤ row + row_size p * plane_size q
pair_most p q j new row h = let s = mul-le (row_size p) (row_size (get_or q j [])) (row_size p) (plane_size q) (omega arith) (row_size_in q j) in omega (arith, s, h)

pub light_rows : (p q : Plane) (i : ℕ) (c : ℤ) → plane_size p + unsigned_abs c * plane_size q < 2 ^ 127 → row_size (get_or p i []) + unsigned_abs c * row_size (get_or q i []) < 2 ^ 127
light_rows p q i c h =
    let s = mul-le (unsigned_abs c) (row_size (get_or q i [])) (unsigned_abs c) (plane_size q) (omega arith) (row_size_in q i) in
    let t = row_size_in p i in
    omega (arith, s, t, h)

-- ---- Heights

height-zip : (p q : Plane) → length (plane_add p q) ≡ max (length p) (length q)
height-zip [] q = omega arith
height-zip (a ∷ p) [] = omega arith
height-zip (a ∷ p) (b ∷ q) = let e = height-zip p q in omega (arith, e)

height-map : (f : List ℤ → List ℤ) (q : Plane) → length (map f q) ≡ length q
height-map f [] = refl
height-map f (b ∷ q) = ap (λ n. suc n) (height-map f q)

height-cons : (a : List ℤ) (p : Plane) (b : List ℤ) (q : Plane) → length (plane_mul (a ∷ p) (b ∷ q)) ≤ length p + length q + 1
height-cons a [] b q = let e = height-zip (map (row_product a) (b ∷ q)) ([] ∷ []) in let f = height-map (row_product a) (b ∷ q) in omega (arith, e, f)
height-cons a (c ∷ p) b q =
    let rest = height-cons c p b q in
    let e = height-zip (map (row_product a) (b ∷ q)) ([] ∷ plane_mul (c ∷ p) (b ∷ q)) in
    let f = height-map (row_product a) (b ∷ q) in
    omega (arith, e, f, rest)

nothing-right : (p : Plane) (i j : ℕ) → coefficient (plane_mul p []) i j ≡ pos 0
nothing-right [] i j = refl
nothing-right (a ∷ p) zero j = refl
nothing-right (a ∷ p) (suc i) j = nothing-right p i j

-- ---- One row more

pub row_pushed : (rows : Plane) (row : List ℤ) → get_or (rows ++ row ∷ []) (length rows) [] ≡ row
row_pushed [] row = refl
row_pushed (a ∷ rows) row = row_pushed rows row

pub row_kept : (rows : Plane) (row : List ℤ) (i : ℕ) → i < length rows → get_or (rows ++ row ∷ []) i [] ≡ get_or rows i []
row_kept [] row i h = absurd (omega arith)
row_kept (a ∷ rows) row zero h = refl
row_kept (a ∷ rows) row (suc i) h = row_kept rows row i (omega arith)

split : (i n : ℕ) → i < suc n → (i < n) ⊎ (i ≡ n)
split i n h = grind arith

-- what holds of the rows so far holds of one more
pub more_rows : (value : ℕ → ℕ → ℤ) (rows new : Plane) (row : List ℤ) (n k : ℕ) → length rows ≡ n → new ≡ rows ++ row ∷ [] → k ≡ suc n → ((i j : ℕ) → i < n → coefficient rows i j ≡ value i j)
    → ((j : ℕ) → entry row j ≡ value n j) → (i j : ℕ) → i < k → coefficient new i j ≡ value i j
more_rows value rows new row n k size e next before here i j h = elim (split i n (rw (sym next) h)) [ inl lt ↦ inside lt | inr same ↦ last same ]
  where
    inside : i < n → coefficient new i j ≡ value i j
    inside lt = ap (λ l. coefficient l i j) e ∙ ap (λ r. entry r j) (row_kept rows row i (rw size lt)) ∙ before i j lt

    last : i ≡ n → coefficient new i j ≡ value i j
    last same = ap (λ l. coefficient l i j) e ∙ ap (λ i. entry (get_or (rows ++ row ∷ []) i []) j) (same ∙ sym size) ∙ ap (λ r. entry r j) (row_pushed rows row) ∙ here j ∙ ap (λ i. value i j) (sym same)

pub height-pushed : (rows new : Plane) (row : List ℤ) (n k : ℕ) → length rows ≡ n → new ≡ rows ++ row ∷ [] → k ≡ suc n → length new ≡ k
height-pushed rows new row n k size e next = ap length e ∙ count rows ∙ ap (λ n. suc n) size ∙ sym next
  where
    count : (rows : Plane) → length (rows ++ row ∷ []) ≡ suc (length rows)
    count [] = refl
    count (a ∷ rows) = ap (λ n. suc n) (count rows)

either : (i n : ℕ) → (i < n) ⊎ (n ≤ i)
either i n = grind arith

-- past the rows that were made both are 0
pub all_rows : (value : ℕ → ℕ → ℤ) (rows : Plane) (n m : ℕ) → length rows ≡ n → m ≤ n → ((i j : ℕ) → i < n → coefficient rows i j ≡ value i j) → ((i j : ℕ) → m ≤ i → value i j ≡ pos 0) → (i j : ℕ) → coefficient rows i j ≡ value i j
all_rows value rows n m size most before after i j = elim (either i n) [ inl lt ↦ before i j lt | inr le ↦ past le ]
  where
    past : n ≤ i → coefficient rows i j ≡ value i j
    past le = ap (λ r. entry r j) (row_past rows i (rw size le)) ∙ sym (after i j (omega (arith, most, le)))

pub sum_past : (p q : Plane) (c : ℤ) (i j : ℕ) → max (length p) (length q) ≤ i → coefficient p i j +ℤ c *ℤ coefficient q i j ≡ pos 0
sum_past p q c i j h = ap₂ (λ a b. entry a j +ℤ c *ℤ entry b j) (row_past p i (omega (arith, h))) (row_past q i (omega (arith, h))) ∙ nothing c
  where
    nothing : (c : ℤ) → pos 0 +ℤ c *ℤ pos 0 ≡ pos 0
    nothing c = ring ℤR (c ∷ []) (search readsℤ depth 16) refl

pub product_past : (p q : Plane) (i j : ℕ) → length p + length q - 1 ≤ i → coefficient (plane_mul p q) i j ≡ pos 0
product_past [] q i j le = refl
product_past (a ∷ p) [] i j le = nothing-right (a ∷ p) i j
product_past (a ∷ p) (b ∷ q) i j le = ap (λ r. entry r j) (row_past (plane_mul (a ∷ p) (b ∷ q)) i (let e = height-cons a p b q in omega (arith, e, le)))

-- ---- Equal coefficients

abbrev pub PlaneR : Ring
PlaneR = PolyR (PolyR ℤR)

pub same_ring : (p q : Plane) → SamePlane p q → PlaneR.◌≈◌ p q
same_ring p q h = record { image = record { at = λ i. record { image = record { at = λ j. h i j } } } }

pub ring_same : (p q : Plane) → PlaneR.◌≈◌ p q → SamePlane p q
ring_same p q h i j = (h.image.at i).image.at j

pub same_trans : (p q r : Plane) → SamePlane p q → SamePlane q r → SamePlane p r
same_trans p q r h k i j = h i j ∙ k i j

pub same_sum : (p q u v : Plane) → SamePlane p u → SamePlane q v → SamePlane (plane_add p q) (plane_add u v)
same_sum p q u v h k = ring_same (plane_add p q) (plane_add u v) (PlaneR.add_cong (same_ring p u h) (same_ring q v k))

pub same_product : (p q u v : Plane) → SamePlane p u → SamePlane q v → SamePlane (plane_mul p q) (plane_mul u v)
same_product p q u v h k = ring_same (plane_mul p q) (plane_mul u v) (PlaneR.mul_cong (same_ring p u h) (same_ring q v k))

pub same_power : (p u : Plane) (e : ℕ) → SamePlane p u → SamePlane (plane_power p e) (plane_power u e)
same_power p u zero h = λ i j. refl
same_power p u (suc e) h = same_product p (plane_power p e) u (plane_power u e) h (same_power p u e h)

one_times : (c : ℤ) → pos 1 *ℤ c ≡ c
one_times c = ring ℤR (c ∷ []) (search readsℤ depth 16) refl

-- p + 1 q is the sum, and - 1 p is the opposite
pub sum_is : (r p q : Plane) → ((i j : ℕ) → coefficient r i j ≡ coefficient p i j +ℤ pos 1 *ℤ coefficient q i j) → SamePlane r (plane_add p q)
sum_is r p q h i j = h i j ∙ ap (λ c. coefficient p i j +ℤ c) (one_times (coefficient q i j)) ∙ sym (moved_row-zip 0 p q i j)

-- ---- Sizes

empty_size : (p : List ℤ) → ((j : ℕ) → entry p j ≡ pos 0) → row_size p ≡ 0
empty_size [] h = refl
empty_size (c ∷ p) h = ap₂ ◌+◌ (ap unsigned_abs (h 0)) (empty_size p (λ j. h (suc j)))

pub same_row_size : (p q : List ℤ) → ((j : ℕ) → entry p j ≡ entry q j) → row_size p ≡ row_size q
same_row_size [] q h = sym (empty_size q (λ j. sym (h j)))
same_row_size (a ∷ p) [] h = empty_size (a ∷ p) h
same_row_size (a ∷ p) (b ∷ q) h = ap₂ ◌+◌ (ap unsigned_abs (h 0)) (same_row_size p q (λ j. h (suc j)))

empty_plane : (p : Plane) → ((i j : ℕ) → coefficient p i j ≡ pos 0) → plane_size p ≡ 0
empty_plane [] h = refl
empty_plane (row ∷ p) h = ap₂ ◌+◌ (empty_size row (h 0)) (empty_plane p (λ i. h (suc i)))

pub same_size : (p q : Plane) → SamePlane p q → plane_size p ≡ plane_size q
same_size [] q h = sym (empty_plane q (λ i j. sym (h i j)))
same_size (a ∷ p) [] h = empty_plane (a ∷ p) h
same_size (a ∷ p) (b ∷ q) h = ap₂ ◌+◌ (same_row_size a b (h 0)) (same_size p q (λ i. h (suc i)))

more_power : (w i d : ℕ) → 1 ≤ w → w ^ i ≤ w ^ (i + d)
more_power w i zero h = rw add-zero (omega arith)
more_power w i (suc d) h =
    let rest = more_power w i d h in
    let e : w ^ (i + suc d) ≡ w * w ^ (i + d) = rw add-suc (pow-succ' w (i + d)) in
    let m : 1 * w ^ (i + d) ≤ w * w ^ (i + d) = mul-le 1 (w ^ (i + d)) w (w ^ (i + d)) h (omega arith) in
    omega (arith, rest, e, m)

pub power_most : (w i e : ℕ) → 1 ≤ w → i ≤ e → w ^ i ≤ w ^ e
power_most w i e h le = let s : i + (e - i) ≡ e = omega arith in subst (λ n. w ^ i ≤ w ^ n) s (more_power w i (e - i) h)

-- the base times a power that isn't the last one yet
pub power_on : (base power : Plane) (i e : ℕ) → SamePlane power (plane_power base i) → i < e → max 1 (plane_size base) ^ e < 2 ^ 127 → plane_size base * plane_size power < 2 ^ 127
power_on base power i e same lt light =
    let w = max 1 (plane_size base) in
    let size = same_size power (plane_power base i) same in
    let most : plane_size (plane_power base i) ≤ w ^ i = plane-power base w i (omega arith) in
    let product : plane_size base * plane_size power ≤ w * w ^ i = mul-le (plane_size base) (plane_size power) w (w ^ i) (omega arith) (omega (arith, size, most)) in
    let next : w ^ suc i ≡ w * w ^ i = pow-succ' w i in
    let all : w ^ suc i ≤ w ^ e = power_most w (suc i) e (omega arith) (omega arith) in
    omega (arith, product, next, all, light)

pub power_next : (base power slice next : Plane) (i k : ℕ) → slice ≡ power → SamePlane power (plane_power base i) → SamePlane next (plane_mul base slice) → k ≡ suc i → SamePlane next (plane_power base k)
power_next base power slice next i k e same made n =
    subst (λ k. SamePlane next (plane_power base k)) (sym n)
    (same_trans next (plane_mul base slice) (plane_mul base (plane_power base i)) made
    (same_product base slice base (plane_power base i) (λ i j. refl) (subst (λ s. SamePlane s (plane_power base i)) (sym e) same)))

same_row : (p : Plane) (i : ℕ) (d e : List ℤ) → i < length p → get_or p i d ≡ get_or p i e
same_row [] i d e h = absurd (omega arith)
same_row (row ∷ p) zero d e h = refl
same_row (row ∷ p) (suc i) d e h = same_row p i d e (omega arith)

pub row_read : (p : Plane) (i : ℕ) (v : List ℤ) → i < length p → v ≡ get_or p i v → v ≡ get_or p i []
row_read p i v h e = e ∙ same_row p i v [] h

pub kept_entry : (a v : ℤ) → v ≡ pos 0 → a ≡ a +ℤ v
kept_entry a v e = omega (arith, ints, e)
