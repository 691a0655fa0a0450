-- Roots that are found piece by piece.
--   no_zeros     after a piece on which the values aren't 0
--   zero_on      the values on a piece that begins with a root
--   own, other   of two numbers of one sign both are 0, or neither
use Rattle.std.proofs.Common.{◌≡◌, ◌≢◌, List, ℤ, pos, ◌≤ℤ◌, ◌<ℤ◌, ◌⊎◌, inl, inr, arith}
use Rattle.std.proofs.lemmas.Int.{ints}
use Rattle.sg_num.specs.Roots.{whole_at, AreRoots}
use Rattle.sg_roots.specs.Signs.{IsSameSign, KeepsSign}

pub other : (x y : ℤ) → IsSameSign x y → x ≢ pos 0 → y ≢ pos 0
other x y (inl s) n e = absurd (omega (arith, ints))
other x y (inr (inl s)) n e = n s.0
other x y (inr (inr s)) n e = absurd (omega (arith, ints))

pub own : (x y : ℤ) → IsSameSign x y → x ≡ pos 0 → y ≡ pos 0
own x y (inl s) e = absurd (omega (arith, ints))
own x y (inr (inl s)) e = s.1
own x y (inr (inr s)) e = absurd (omega (arith, ints))

module _ (c : List ℤ) (low high : ℤ) (k : KeepsSign c low high) where
  pub zero_on : (m : ℤ) → low ≤ℤ m → m <ℤ high → whole_at c low ≡ pos 0 → whole_at c m ≡ pos 0
  zero_on m a b e = own (whole_at c low) (whole_at c m) (k.same m a b) e

  pub no_zeros : (start : ℤ) (r : List ℤ) → low <ℤ high → whole_at c low ≢ pos 0 → AreRoots c start low r → AreRoots c start high r
  no_zeros start r up n f = record {
    ascending = f.ascending;
    above = f.above;
    below = λ m h. further m low high (f.below m h) up;
    sound = f.sound;
    complete = λ m a b z. elim (side m low) [ inl l ↦ f.complete m a l z | inr l ↦ absurd (other (whole_at c low) (whole_at c m) (k.same m l b) n z) ];
  }
    where
      further : (x y z : ℤ) → x <ℤ y → y <ℤ z → x <ℤ z
      further x y z h k = omega (arith, ints)

      side : (x y : ℤ) → (x <ℤ y) ⊎ (y ≤ℤ x)
      side x y = grind (arith, ints)
