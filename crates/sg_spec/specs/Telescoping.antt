-- Telescoping in values.
--   difference_of    the first value less the second
--   Steps g f k      g(k + 1) - g(k) is f(k)
--   Tele g f         from some point on
--   Failing g f K    at some point from K on it isn't
--   Agree g h        from some point on the two expressions have one value
use Rattle.std.specs.Prelude.{ℤ, pos, ◌+ℤ◌, ◌≤ℤ◌, Option, Some}
use Rattle.sg_spec.specs.Fraction.{Fraction, minus}
use Rattle.sg_spec.specs.Tree.{Tree}
use Rattle.sg_spec.specs.Value.{val, both, SameValue}

abbrev pub difference_of : Fraction → Fraction → Option Fraction
difference_of x y = Some (minus x y)

-- g telescopes f at k
abbrev pub Steps : Tree → Tree → ℤ → Type 0
Steps g f k = SameValue (both difference_of (val g (pos 0) (k +ℤ pos 1)) (val g (pos 0) k)) (val f (pos 0) k)

pub record Tele (g f : Tree) : Type 0 where
  pub from : ℤ
  pub steps : (k : ℤ) → from ≤ℤ k → Steps g f k

pub record Failing (g f : Tree) (K : ℤ) : Type 0 where
  pub k : ℤ
  pub past : K ≤ℤ k
  pub fails : ¬ Steps g f k

pub record Agree (g h : Tree) : Type 0 where
  pub from : ℤ
  pub same : (k : ℤ) → from ≤ℤ k → SameValue (val g (pos 0) k) (val h (pos 0) k)
