-- The polynomials of numerators and denominators.
--   size_is                     a polynomial of a tree is no heavier than the tree
--   product_light, product_is   of products
--   sum_light, sum_is           of the numerators of sums
--   sum_sizes                   of both products that are added
--   opposite_is, neg_is         of opposites
--   power_light, power_is       of powers
use Rattle.std.proofs.Common.{◌≡◌, ℕ, zero, suc, ◌+◌, ◌*◌, ◌^◌, ◌<◌, ◌≤◌, max, refl, sym, subst, ◌∙◌, List, [], ◌∷◌, map, ℤ, pos, negsuc, neg_ℤ, ◌+ℤ◌, ◌*ℤ◌, unsigned_abs, arith}
use Rattle.std.proofs.lemmas.Nat.{mul-le}
use Rattle.std.proofs.Math.Nat.{pow-zero, pow-succ'}
use Rattle.sg_algebra.proofs.Whole.{ℤR, readsℤ}
use Rattle.sg_algebra.proofs.Solver.{ring}
use Rattle.sg_spec.specs.Tree.{Tree, mul, add, neg, power}
use Rattle.sg_spec.specs.Polynomials.{weight}
use Rattle.sg_spec.specs.Parts.{Plane, Ratio, ratio_sum, ratio_product, turned, coefficients, plane_add, plane_mul, plane_neg, plane_power}
use Rattle.sg_parts.specs.Planes.{plane_size, entry, coefficient, SamePlane}
use Rattle.sg_parts.specs.Weights.{AreRatio, IsOppositeRatio, IsSumRatio, IsProductRatio, IsPowerRatio}
use Rattle.sg_parts.proofs.Sizes.{size_of_tree, plane-mul}
use Rattle.sg_parts.proofs.Planar.{PlaneR, same_ring, ring_same, same_trans, same_product, same_sum, same_power, same_size}
use Rattle.sg_parts.proofs.Weighing.{weight_positive, over_left, over_right, alone_left, alone_right, over_some, under_some, more_left, more_right, more_power}

pub size_is : (p : Plane) (t : Tree) → SamePlane p (coefficients t) → plane_size p ≤ weight t
size_is p t h = let e = same_size p (coefficients t) h in let s = size_of_tree t in omega (arith, e, s)

pub product_light : (p q : Plane) (s t : Tree) → SamePlane p (coefficients s) → SamePlane q (coefficients t) → weight s * weight t < 2 ^ 127 → plane_size p * plane_size q < 2 ^ 127
product_light p q s t h k lt = let m = mul-le (plane_size p) (plane_size q) (weight s) (weight t) (size_is p s h) (size_is q t k) in omega (arith, m, lt)

pub product_is : (r p q : Plane) (s t : Tree) → SamePlane p (coefficients s) → SamePlane q (coefficients t) → SamePlane r (plane_mul p q) → SamePlane r (coefficients (mul s t))
product_is r p q s t h k made = same_trans r (plane_mul p q) (plane_mul (coefficients s) (coefficients t)) made (same_product p q (coefficients s) (coefficients t) h k)

module _ (p q u v : Plane) (s t a b : Tree) (hs : SamePlane p (coefficients s)) (ht : SamePlane q (coefficients t)) (ha : SamePlane u (coefficients a)) (hb : SamePlane v (coefficients b)) where
  pub sum_light : weight s * weight t + weight a * weight b < 2 ^ 127 → plane_size p * plane_size q + plane_size u * plane_size v < 2 ^ 127
  sum_light lt =
      let m = mul-le (plane_size p) (plane_size q) (weight s) (weight t) (size_is p s hs) (size_is q t ht) in
      let n = mul-le (plane_size u) (plane_size v) (weight a) (weight b) (size_is u a ha) (size_is v b hb) in
      omega (arith, m, n, lt)

  pub sum_is : (r : Plane) → SamePlane r (plane_add (plane_mul p q) (plane_mul u v)) → SamePlane r (coefficients (add (mul s t) (mul a b)))
  sum_is r made =
      same_trans r (plane_add (plane_mul p q) (plane_mul u v)) (plane_add (coefficients (mul s t)) (coefficients (mul a b))) made
      (same_sum (plane_mul p q) (plane_mul u v) (coefficients (mul s t)) (coefficients (mul a b)) (same_product p q (coefficients s) (coefficients t) hs ht) (same_product u v (coefficients a) (coefficients b) ha hb))

pub sum_sizes : (p q u v left right : Plane) → SamePlane left (plane_mul p q) → SamePlane right (plane_mul u v) → plane_size p * plane_size q + plane_size u * plane_size v < 2 ^ 127 → plane_size left + unsigned_abs (pos 1) * plane_size right < 2 ^ 127
sum_sizes p q u v left right h k lt =
    let e = same_size left (plane_mul p q) h in
    let f = same_size right (plane_mul u v) k in
    let m = plane-mul p q in
    let n = plane-mul u v in
    omega (arith, e, f, m, n, lt)

pub sum_made : (r left right p q : Plane) → SamePlane r (plane_add left right) → SamePlane left p → SamePlane right q → SamePlane r (plane_add p q)
sum_made r left right p q made h k = same_trans r (plane_add left right) (plane_add p q) made (same_sum left right p q h k)

row_neg : (p : List ℤ) (j : ℕ) → entry (map neg_ℤ p) j ≡ neg_ℤ (entry p j)
row_neg [] j = refl
row_neg (c ∷ p) zero = refl
row_neg (c ∷ p) (suc j) = row_neg p j

opposite_entry : (p : Plane) (i j : ℕ) → coefficient (plane_neg p) i j ≡ neg_ℤ (coefficient p i j)
opposite_entry [] i j = refl
opposite_entry (row ∷ p) zero j = row_neg row j
opposite_entry (row ∷ p) (suc i) j = opposite_entry p i j

minus : (c : ℤ) → pos 0 +ℤ negsuc 0 *ℤ c ≡ neg_ℤ c
minus c = ring ℤR (c ∷ []) (search readsℤ depth 16) refl

pub opposite_is : (r p : Plane) → ((i j : ℕ) → coefficient r i j ≡ pos 0 +ℤ negsuc 0 *ℤ coefficient p i j) → SamePlane r (plane_neg p)
opposite_is r p h i j = h i j ∙ minus (coefficient p i j) ∙ sym (opposite_entry p i j)

pub neg_is : (r p : Plane) (s : Tree) → SamePlane p (coefficients s) → SamePlane r (plane_neg p) → SamePlane r (coefficients (neg s))
neg_is r p s h made = same_trans r (plane_neg p) (plane_neg (coefficients s)) made (ring_same (plane_neg p) (plane_neg (coefficients s)) (PlaneR.neg_cong (same_ring p (coefficients s) h)))

power_le : (a b e : ℕ) → a ≤ b → a ^ e ≤ b ^ e
power_le a b zero h = rw (pow-zero a) (rw (pow-zero b) (omega arith))
power_le a b (suc e) h = rw (pow-succ' a e) (rw (pow-succ' b e) (mul-le a (a ^ e) b (b ^ e) h (power_le a b e h)))

pub power_light : (p : Plane) (s : Tree) (e : ℕ) → SamePlane p (coefficients s) → weight s ^ e < 2 ^ 127 → max 1 (plane_size p) ^ e < 2 ^ 127
power_light p s e h lt =
    let size = size_is p s h in
    let some = weight_positive s in
    let most : max 1 (plane_size p) ≤ weight s = omega (arith, size, some) in
    let m = power_le (max 1 (plane_size p)) (weight s) e most in
    omega (arith, m, lt)

pub power_is : (r p : Plane) (s : Tree) (e : ℕ) → SamePlane p (coefficients s) → SamePlane r (plane_power p e) → SamePlane r (coefficients (power s e))
power_is r p s e h made = same_trans r (plane_power p e) (plane_power (coefficients s) e) made (same_power p (coefficients s) e h)

-- ---- Fractions of trees

abbrev pub Fits : Ratio → Type 0
Fits r = (weight r.over < 2 ^ 127) × (weight r.under < 2 ^ 127)

module _ (r s : Ratio) where
  pub fits_left : Fits (ratio_sum r s) → Fits r
  fits_left h = let m = over_left r s in (omega (arith, m, h.0, h.1), omega (arith, m, h.0, h.1))

  pub fits_right : Fits (ratio_sum r s) → Fits s
  fits_right h = let m = over_right r s in (omega (arith, m, h.0, h.1), omega (arith, m, h.0, h.1))

  pub alone_fits_left : weight (ratio_sum r s).over < 2 ^ 127 → Fits r
  alone_fits_left h = let m = alone_left r s in (omega (arith, m, h), omega (arith, m, h))

  pub alone_fits_right : weight (ratio_sum r s).over < 2 ^ 127 → Fits s
  alone_fits_right h = let m = alone_right r s in (omega (arith, m, h), omega (arith, m, h))

  pub product_fits_left : Fits (ratio_product r s) → Fits r
  product_fits_left h =
      let l = more_left (weight r.over) (weight s.over) (over_some s) in
      let m = more_left (weight r.under) (weight s.under) (under_some s) in
      (omega (arith, l, h.0), omega (arith, m, h.1))

  pub product_fits_right : Fits (ratio_product r s) → Fits s
  product_fits_right h =
      let l = more_right (weight r.over) (weight s.over) (over_some r) in
      let m = more_right (weight r.under) (weight s.under) (under_some r) in
      (omega (arith, l, h.0), omega (arith, m, h.1))

pub turned_fits : (r : Ratio) → Fits (turned r) → Fits r
turned_fits r h = (h.1, h.0)

pub power_fits : (r : Ratio) (e : ℕ) → 1 ≤ e → Fits (record { over = power r.over e; under = power r.under e }) → Fits r
power_fits r e k h =
    let l = more_power (weight r.over) e (over_some r) k in
    let m = more_power (weight r.under) e (under_some r) k in
    (omega (arith, l, h.0), omega (arith, m, h.1))

module _ (a b c d : Plane) (r s : Ratio) (h : AreRatio a b r) (k : AreRatio c d s) where
  pub sum_over_light : weight (ratio_sum r s).over < 2 ^ 127 → plane_size a * plane_size d + plane_size c * plane_size b < 2 ^ 127
  sum_over_light lt = sum_light a d c b r.over s.under s.over r.under h.over k.under k.over h.under lt

  pub sum_under_light : weight (ratio_sum r s).under < 2 ^ 127 → plane_size b * plane_size d < 2 ^ 127
  sum_under_light lt = product_light b d r.under s.under h.under k.under lt

  pub sum_over_is : (o : Plane) → SamePlane o (plane_add (plane_mul a d) (plane_mul c b)) → SamePlane o (coefficients (ratio_sum r s).over)
  sum_over_is o made = sum_is a d c b r.over s.under s.over r.under h.over k.under k.over h.under o made

  pub sum_ratio : (o u : Plane) → IsSumRatio o u a b c d → AreRatio o u (ratio_sum r s)
  sum_ratio o u made = record { over = sum_over_is o made.over; under = product_is u b d r.under s.under h.under k.under made.under }

  pub product_over_light : weight (ratio_product r s).over < 2 ^ 127 → plane_size a * plane_size c < 2 ^ 127
  product_over_light lt = product_light a c r.over s.over h.over k.over lt

  pub product_ratio : (o u : Plane) → IsProductRatio o u a b c d → AreRatio o u (ratio_product r s)
  product_ratio o u made = record { over = product_is o a c r.over s.over h.over k.over made.over; under = product_is u b d r.under s.under h.under k.under made.under }

pub turned_ratio : (a b : Plane) (r : Ratio) → AreRatio a b r → AreRatio b a (turned r)
turned_ratio a b r h = record { over = h.under; under = h.over }

module _ (a b o u : Plane) (r : Ratio) (h : AreRatio a b r) where
  pub opposite_ratio : IsOppositeRatio o u a b → AreRatio o u (record { over = neg r.over; under = r.under })
  opposite_ratio made = record { over = neg_is o a r.over h.over made.over; under = same_trans u b (coefficients r.under) made.under h.under }

  pub power_ratio : (e : ℕ) → IsPowerRatio o u a b e → AreRatio o u (record { over = power r.over e; under = power r.under e })
  power_ratio e made = record { over = power_is o a r.over e h.over made.over; under = power_is u b r.under e h.under made.under }

pub ratio_light : (a : Plane) (t : Tree) → SamePlane a (coefficients t) → weight t < 2 ^ 127 → plane_size a < 2 ^ 127
ratio_light a t h lt = let s = size_is a t h in omega (arith, s, lt)

pub left_light : (a b c d : ℕ) → a * b + c * d < 2 ^ 127 → a * b < 2 ^ 127
left_light a b c d h = omega (arith, h)

pub right_light : (a b c d : ℕ) → a * b + c * d < 2 ^ 127 → c * d < 2 ^ 127
right_light a b c d h = omega (arith, h)

pub named_product : (r u v p q : Plane) → u ≡ p → v ≡ q → SamePlane r (plane_mul u v) → SamePlane r (plane_mul p q)
named_product r u v p q e f h = subst (λ p. SamePlane r (plane_mul p q)) e (subst (λ q. SamePlane r (plane_mul u q)) f h)

pub named_sum : (r u v p q : Plane) → u ≡ p → v ≡ q → SamePlane r (plane_add u v) → SamePlane r (plane_add p q)
named_sum r u v p q e f h = subst (λ p. SamePlane r (plane_add p q)) e (subst (λ q. SamePlane r (plane_add u q)) f h)
