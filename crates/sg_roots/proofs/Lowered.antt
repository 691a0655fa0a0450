-- One step of Horner's rule, with a number that stands for another.
--   stands_on     where the product and the sum fit, or are replaced by the greatest or least number that does
use Rattle.std.proofs.Common.{◌≡◌, ℕ, ◌<◌, ◌≤◌, refl, ◌∙◌, ap, subst, [], ◌∷◌, ℤ, pos, negsuc, neg_ℤ, ◌+ℤ◌, ◌*ℤ◌, ◌≤ℤ◌, ◌<ℤ◌, unsigned_abs, ◌⊎◌, inl, inr, arith}
use Rattle.std.proofs.lemmas.Int.{ints, clamps}
use Rattle.std.specs.Int.{saturate_to_bits}
use Rattle.sg_algebra.proofs.Solver.{ring}
use Rattle.sg_algebra.proofs.Whole.{ℤR, readsℤ, mul_le}
use Rattle.sg_roots.specs.Signs.{reach}

side : (x : ℤ) → 2 ≤ unsigned_abs x → (pos 2 ≤ℤ x) ⊎ (x ≤ℤ negsuc 1)
side x h = grind (arith, ints)

-- products with a number of size 2 or more
up_up : (x v b : ℤ) → pos 2 ≤ℤ x → pos 0 ≤ℤ b → b ≤ℤ v → (b +ℤ b) ≤ℤ (x *ℤ v)
up_up x v b h n k = let p = mul_le (pos 2) x v h (omega (arith, ints)) in omega (arith, ints, p)

down_up : (x v b : ℤ) → x ≤ℤ negsuc 1 → pos 0 ≤ℤ b → b ≤ℤ v → (x *ℤ v) ≤ℤ neg_ℤ (b +ℤ b)
down_up x v b h n k = let p = mul_le x (negsuc 1) v h (omega (arith, ints)) in omega (arith, ints, p)

opposite : (x v : ℤ) → x *ℤ neg_ℤ v ≡ neg_ℤ (x *ℤ v)
opposite x v = ring ℤR (x ∷ v ∷ []) (search readsℤ depth 16) refl

up_down : (x v b : ℤ) → pos 2 ≤ℤ x → pos 0 ≤ℤ b → v ≤ℤ neg_ℤ b → (x *ℤ v) ≤ℤ neg_ℤ (b +ℤ b)
up_down x v b h n k = let p = up_up x (neg_ℤ v) b h n (omega (arith, ints)) in let e = opposite x v in omega (arith, ints, p, e)

down_down : (x v b : ℤ) → x ≤ℤ negsuc 1 → pos 0 ≤ℤ b → v ≤ℤ neg_ℤ b → (b +ℤ b) ≤ℤ (x *ℤ v)
down_down x v b h n k = let p = down_up x (neg_ℤ v) b h n (omega (arith, ints)) in let e = opposite x v in omega (arith, ints, p, e)

-- what is z, or the greatest or least number that fits
pub data Clamped (b z r : ℤ) : Type 0 where
  fits : r ≡ z → Clamped b z r
  high : (b +ℤ b +ℤ b +ℤ b) ≤ℤ z → r ≡ b +ℤ b +ℤ b +ℤ b +ℤ negsuc 0 → Clamped b z r
  low : z <ℤ neg_ℤ (b +ℤ b +ℤ b +ℤ b) → r ≡ neg_ℤ (b +ℤ b +ℤ b +ℤ b) → Clamped b z r

kept_up : (b l z r : ℤ) → l ≤ℤ (b +ℤ b +ℤ b) → pos 1 ≤ℤ b → pos 0 ≤ℤ l → l ≤ℤ z → Clamped b z r → l ≤ℤ r
kept_up b l z r m o n h (fits e) = omega (arith, ints)
kept_up b l z r m o n h (high g e) = omega (arith, ints)
kept_up b l z r m o n h (low g e) = absurd (omega (arith, ints))

kept_down : (b l z r : ℤ) → l ≤ℤ (b +ℤ b +ℤ b) → pos 1 ≤ℤ b → pos 0 ≤ℤ l → z ≤ℤ neg_ℤ l → Clamped b z r → r ≤ℤ neg_ℤ l
kept_down b l z r m o n h (fits e) = omega (arith, ints)
kept_down b l z r m o n h (high g e) = absurd (omega (arith, ints))
kept_down b l z r m o n h (low g e) = omega (arith, ints)

abbrev pub Stands : ℤ → ℤ → ℤ → Type 0
Stands b h v = (h ≡ v) ⊎ (((b ≤ℤ h) × (b ≤ℤ v)) ⊎ ((h ≤ℤ neg_ℤ b) × (v ≤ℤ neg_ℤ b)))

module _ (b c : ℤ) (some : pos 1 ≤ℤ b) (above : neg_ℤ b ≤ℤ (c +ℤ c)) (below : (c +ℤ c) ≤ℤ b) where
  -- from the product z = h x to p, and from p + c to r, where w = x v
  raised : (z w p r : ℤ) → (b +ℤ b) ≤ℤ z → (b +ℤ b) ≤ℤ w → Clamped b z p → Clamped b (p +ℤ c) r → Stands b r (c +ℤ w)
  raised z w p r h k f g =
      let q : (b +ℤ b) ≤ℤ p = kept_up b (b +ℤ b) z p (omega (arith, ints)) some (omega (arith, ints)) h f in
      let s : b ≤ℤ r = kept_up b b (p +ℤ c) r (omega (arith, ints)) some (omega (arith, ints)) (omega (arith, ints)) g in
      inr (inl (s, omega (arith, ints)))

  dropped : (z w p r : ℤ) → z ≤ℤ neg_ℤ (b +ℤ b) → w ≤ℤ neg_ℤ (b +ℤ b) → Clamped b z p → Clamped b (p +ℤ c) r → Stands b r (c +ℤ w)
  dropped z w p r h k f g =
      let q : p ≤ℤ neg_ℤ (b +ℤ b) = kept_down b (b +ℤ b) z p (omega (arith, ints)) some (omega (arith, ints)) h f in
      let s : r ≤ℤ neg_ℤ b = kept_down b b (p +ℤ c) r (omega (arith, ints)) some (omega (arith, ints)) (omega (arith, ints)) g in
      inr (inr (s, omega (arith, ints)))

  exact_sum : (w p r : ℤ) → p ≡ w → Clamped b (p +ℤ c) r → Stands b r (c +ℤ w)
  exact_sum w p r e (fits g) = inl (omega (arith, ints))
  exact_sum w p r e (high g h) = inr (inl (omega (arith, ints), omega (arith, ints)))
  exact_sum w p r e (low g h) = inr (inr (omega (arith, ints), omega (arith, ints)))

  exact : (z w p r : ℤ) → z ≡ w → Clamped b z p → Clamped b (p +ℤ c) r → Stands b r (c +ℤ w)
  exact z w p r e (fits f) g = exact_sum w p r (f ∙ e) g
  exact z w p r e (high f k) g = raised z w p r (omega (arith, ints)) (omega (arith, ints)) (high f k) g
  exact z w p r e (low f k) g = dropped z w p r (omega (arith, ints)) (omega (arith, ints)) (low f k) g

  turned : (x y : ℤ) → x *ℤ y ≡ y *ℤ x
  turned x y = ring ℤR (x ∷ y ∷ []) (search readsℤ depth 16) refl

  positive : pos 0 ≤ℤ b
  positive = omega (arith, ints)

  pub stands_on : (h v x p r : ℤ) → 2 ≤ unsigned_abs x → Clamped b (h *ℤ x) p → Clamped b (p +ℤ c) r → Stands b h v → Stands b r (c +ℤ x *ℤ v)
  stands_on h v x p r far f g (inl e) = exact (h *ℤ x) (x *ℤ v) p r (turned h x ∙ ap (λ y. x *ℤ y) e) f g
  stands_on h v x p r far f g (inr (inl k)) = elim (side x far) [
    | inl s ↦ raised (h *ℤ x) (x *ℤ v) p r (subst (λ z. (b +ℤ b) ≤ℤ z) (turned x h) (up_up x h b s positive k.0)) (up_up x v b s positive k.1) f g
    | inr s ↦ dropped (h *ℤ x) (x *ℤ v) p r (subst (λ z. z ≤ℤ neg_ℤ (b +ℤ b)) (turned x h) (down_up x h b s positive k.0)) (down_up x v b s positive k.1) f g
  ]
  stands_on h v x p r far f g (inr (inr k)) = elim (side x far) [
    | inl s ↦ dropped (h *ℤ x) (x *ℤ v) p r (subst (λ z. z ≤ℤ neg_ℤ (b +ℤ b)) (turned x h) (up_down x h b s positive k.0)) (up_down x v b s positive k.1) f g
    | inr s ↦ raised (h *ℤ x) (x *ℤ v) p r (subst (λ z. (b +ℤ b) ≤ℤ z) (turned x h) (down_down x h b s positive k.0)) (down_down x v b s positive k.1) f g
  ]

-- the greatest and the least number of 128 bits are 4 reach - 1 and -4 reach
pub clamped : (z r : ℤ) → r ≡ saturate_to_bits 127 z → Clamped (pos reach) z r
clamped (pos n) r e = elim (half n) [
  | inl h ↦ fits (let q : r ≡ pos n = omega (arith, ints, clamps, e) in q)
  | inr h ↦ high (omega (arith, ints)) (omega (arith, ints, clamps, e))
]
  where
    half : (n : ℕ) → (n < 170141183460469231731687303715884105728) ⊎ (170141183460469231731687303715884105728 ≤ n)
    half n = grind arith
clamped (negsuc n) r e = elim (half n) [
  | inl h ↦ fits (let q : r ≡ negsuc n = omega (arith, ints, clamps, e) in q)
  | inr h ↦ low (omega (arith, ints)) (omega (arith, ints, clamps, e))
]
  where
    half : (n : ℕ) → (n < 170141183460469231731687303715884105728) ⊎ (170141183460469231731687303715884105728 ≤ n)
    half n = grind arith
