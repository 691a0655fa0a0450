-- Where pieces lie: each starts at the first start or past it, and ends where they end or before.
use Rattle.std.proofs.Common.{◌≡◌, ℕ, zero, suc, ◌+◌, ◌<◌, sym, ◌∙◌, ap, subst, List, length, get_or, ℤ, pos, ◌≤ℤ◌, ◌<ℤ◌, arith}
use Rattle.std.proofs.lemmas.Int.{ints}
use Rattle.sg_roots.proofs.Cuts.{inside, past}

module _ (low high : ℤ) (s : List ℤ) (first : get_or s 0 high ≡ low) (up : (i : ℕ) → i < length s → get_or s i (pos 0) <ℤ get_or s (i + 1) high) where
  pub from_low : (i : ℕ) → i < length s → low ≤ℤ get_or s i (pos 0)
  from_low zero h = subst (λ x. low ≤ℤ x) (sym first ∙ inside s high high (pos 0) 0 h) (own low)
    where
      own : (x : ℤ) → x ≤ℤ x
      own x = omega (arith, ints)
  from_low (suc i) h = further low (get_or s i (pos 0)) (get_or s (suc i) (pos 0)) (from_low i (omega arith))
      (subst (λ x. get_or s i (pos 0) <ℤ x) (ap (λ j. get_or s j high) (one i) ∙ inside s high high (pos 0) (suc i) h) (up i (omega arith)))
    where
      further : (x y z : ℤ) → x ≤ℤ y → y <ℤ z → x ≤ℤ z
      further x y z h k = omega (arith, ints)

      one : (i : ℕ) → i + 1 ≡ suc i
      one i = omega arith

  to_high_by : (k i : ℕ) → length s ≡ i + 1 + k → get_or s (i + 1) high ≤ℤ high
  to_high_by zero i e = subst (λ x. x ≤ℤ high) (sym (past s high (i + 1) (omega arith))) (own high)
    where
      own : (x : ℤ) → x ≤ℤ x
      own x = omega (arith, ints)
  to_high_by (suc k) i e = before (get_or s (i + 1) high) (get_or s (i + 1 + 1) high) high
      (subst (λ x. x <ℤ get_or s (i + 1 + 1) high) (inside s high (pos 0) high (i + 1) (omega arith)) (up (i + 1) (omega arith))) (to_high_by k (i + 1) (omega arith))
    where
      before : (x y z : ℤ) → x <ℤ y → y ≤ℤ z → x ≤ℤ z
      before x y z h k = omega (arith, ints)

  pub to_high : (i : ℕ) → i < length s → get_or s (i + 1) high ≤ℤ high
  to_high i h = let d = gap i (length s) h in to_high_by d.0 i d.1
    where
      gap : (i n : ℕ) → i < n → (k : ℕ) × (n ≡ i + 1 + k)
      gap zero zero h = absurd (omega arith)
      gap zero (suc n) h = (n, omega arith)
      gap (suc i) zero h = absurd (omega arith)
      gap (suc i) (suc n) h = let d = gap i n (omega arith) in (d.0, omega (arith, d.1))
