-- Where differences of neighbours have one sign, values don't fall, or don't rise.
--   monotone        so on a piece of the differences
--   monotone_from   so from a later number on
--   keeps_between   between two numbers at which monotone values have one sign they have it
use Rattle.std.proofs.Common.{◌≡◌, ℕ, zero, suc, sym, subst, List, ℤ, pos, ◌+ℤ◌, ◌-ℤ◌, ◌≤ℤ◌, ◌<ℤ◌, unsigned_abs, ◌⊎◌, inl, inr, arith}
use Rattle.std.proofs.lemmas.Int.{ints}
use Rattle.sg_num.specs.Roots.{whole_at}
use Rattle.sg_roots.specs.Signs.{IsSameSign, KeepsSign, IsMonotone}
use Rattle.sg_roots.proofs.Sizes.{between, same_sign-symm, same_sign-trans}

module _ (f : ℤ → ℤ) (R : ℤ → ℤ → Type 0) (same : (x : ℤ) → R x x) (chain : (x y z : ℤ) → R x y → R y z → R x z) (low high : ℤ) (step : (m : ℤ) → low ≤ℤ m → m <ℤ high → R (f m) (f (m +ℤ pos 1))) where
  on : (m : ℤ) (k : ℕ) → low ≤ℤ m → (m +ℤ pos k) <ℤ high → R (f m) (f (m +ℤ pos k))
  on m zero h l = subst (λ x. R (f m) (f x)) (start m) (same (f m))
    where
      start : (m : ℤ) → m ≡ m +ℤ pos 0
      start m = omega (arith, ints)
  on m (suc k) h l = subst (λ x. R (f m) (f x)) (next m k) (chain (f m) (f (m +ℤ pos k)) (f ((m +ℤ pos k) +ℤ pos 1)) (on m k h (omega (arith, ints))) (step (m +ℤ pos k) (omega (arith, ints)) (omega (arith, ints))))
    where
      next : (m : ℤ) (k : ℕ) → (m +ℤ pos k) +ℤ pos 1 ≡ m +ℤ pos (suc k)
      next m k = omega (arith, ints)

  pub along : (m n : ℤ) → low ≤ℤ m → m ≤ℤ n → n <ℤ high → R (f m) (f n)
  along m n h k l = subst (λ x. R (f m) (f x)) (apart m n k) (on m (unsigned_abs (n -ℤ m)) h (subst (λ x. x <ℤ high) (sym (apart m n k)) l))
    where
      apart : (m n : ℤ) → m ≤ℤ n → m +ℤ pos (unsigned_abs (n -ℤ m)) ≡ n
      apart m n k = omega (arith, ints)

sign : (x : ℤ) → (x <ℤ pos 0) ⊎ (pos 0 ≤ℤ x)
sign x = grind (arith, ints)

below : (x y : ℤ) → IsSameSign x y → x <ℤ pos 0 → y ≤ℤ pos 0
below x y (inl s) h = omega (arith, ints)
below x y (inr (inl s)) h = omega (arith, ints)
below x y (inr (inr s)) h = absurd (omega (arith, ints))

above : (x y : ℤ) → IsSameSign x y → pos 0 ≤ℤ x → pos 0 ≤ℤ y
above x y (inl s) h = absurd (omega (arith, ints))
above x y (inr (inl s)) h = omega (arith, ints)
above x y (inr (inr s)) h = omega (arith, ints)

module _ (c d : List ℤ) (low high : ℤ) (difference : (m : ℤ) → whole_at d m ≡ whole_at c (m +ℤ pos 1) -ℤ whole_at c m) (k : KeepsSign d low high) where
  at_most : (x y z : ℤ) → z ≡ y -ℤ x → z ≤ℤ pos 0 → y ≤ℤ x
  at_most x y z e h = omega (arith, ints)

  at_least : (x y z : ℤ) → z ≡ y -ℤ x → pos 0 ≤ℤ z → x ≤ℤ y
  at_least x y z e h = omega (arith, ints)

  pub monotone : IsMonotone c low high
  monotone = elim (sign (whole_at d low)) [
    | inl h ↦ inr (λ m n a b l. along (whole_at c) (λ x y. y ≤ℤ x) (λ x. same x) (λ x y z p q. chain z y x q p) low high
        (λ i g j. at_most (whole_at c i) (whole_at c (i +ℤ pos 1)) (whole_at d i) (difference i) (below (whole_at d low) (whole_at d i) (k.same i g j) h)) m n a b l)
    | inr h ↦ inl (λ m n a b l. along (whole_at c) ◌≤ℤ◌ (λ x. same x) (λ x y z p q. chain x y z p q) low high
        (λ i g j. at_least (whole_at c i) (whole_at c (i +ℤ pos 1)) (whole_at d i) (difference i) (above (whole_at d low) (whole_at d i) (k.same i g j) h)) m n a b l)
  ]
    where
      same : (x : ℤ) → x ≤ℤ x
      same x = omega (arith, ints)

      chain : (x y z : ℤ) → x ≤ℤ y → y ≤ℤ z → x ≤ℤ z
      chain x y z p q = omega (arith, ints)

-- the values at low and n have one sign, so those between have it
pub keeps_between : (c : List ℤ) (low high n : ℤ) → IsMonotone c low high → n <ℤ high → IsSameSign (whole_at c low) (whole_at c n) → KeepsSign c low (n +ℤ pos 1)
keeps_between c low high n (inl r) l s = record { same = λ m a b. between (whole_at c low) (whole_at c m) (whole_at c n) (r low m (own low) a (omega (arith, ints))) (r m n a (before m n b) l) s }
  where
    own : (x : ℤ) → x ≤ℤ x
    own x = omega (arith, ints)

    before : (m n : ℤ) → m <ℤ (n +ℤ pos 1) → m ≤ℤ n
    before m n b = omega (arith, ints)
keeps_between c low high n (inr r) l s = record {
  same = λ m a b.
      same_sign-trans (whole_at c low) (whole_at c n) (whole_at c m) s
      (between (whole_at c n) (whole_at c m) (whole_at c low) (r m n a (before m n b) l) (r low m (own low) a (omega (arith, ints))) (same_sign-symm (whole_at c low) (whole_at c n) s));
}
  where
    own : (x : ℤ) → x ≤ℤ x
    own x = omega (arith, ints)

    before : (m n : ℤ) → m <ℤ (n +ℤ pos 1) → m ≤ℤ n
    before m n b = omega (arith, ints)

pub monotone_from : (c : List ℤ) (low at high : ℤ) → low ≤ℤ at → IsMonotone c low high → IsMonotone c at high
monotone_from c low at high h (inl r) = inl (λ m n a b l. r m n (further low at m h a) b l)
  where
    further : (x y z : ℤ) → x ≤ℤ y → y ≤ℤ z → x ≤ℤ z
    further x y z p q = omega (arith, ints)
monotone_from c low at high h (inr r) = inr (λ m n a b l. r m n (further low at m h a) b l)
  where
    further : (x y z : ℤ) → x ≤ℤ y → y ≤ℤ z → x ≤ℤ z
    further x y z p q = omega (arith, ints)
