-- Recurrences with expressions in the parameter as coefficients.
--   combination cs i f n k    c_0(n) f(n + i, k) + c_1(n) f(n + i + 1, k) + .., where all of it has values
--   HoldsAt cs f g n k    c_0(n) f(n, k) + .. + c_J(n) f(n + J, k) is g(n, k + 1) - g(n, k), and all of it has values
--   Recurs cs f g         it is from some k on; for each such k it need be so only for the n from a bound on, which may depend on k
--   IsZero c              the coefficient c is 0 at each n
--   IsRecurrence          coefficients that are polynomials in the parameter and aren't all zero, and an expression g over what is allowed
--   NoRecurrence f J      there is none of order J
use Rattle.std.proofs.Common.{◌≡◌, ℕ, suc, ℤ, pos, ◌+ℤ◌, ◌≤ℤ◌, List, [], ◌∷◌, length, Option, Some, IsTrue}
use Rattle.sg_algebra.specs.Coefficients.{Each}
use Rattle.sg_spec.specs.Fraction.{Fraction, whole}
use Rattle.sg_spec.specs.Tree.{Tree}
use Rattle.sg_spec.specs.Value.{val, both, sum_of, product_of, SameValue}
use Rattle.sg_spec.specs.Shape.{is_constant_tree}
use Rattle.sg_spec.specs.Generators.{Allowed, BuiltOver}
use Rattle.sg_spec.specs.Telescoping.{difference_of}
use Rattle.sg_answers_theory.specs.Recurrences.{shifts, allowed_in}

abbrev pub combination : List Tree → ℕ → Tree → ℤ → ℤ → Option Fraction
combination [] i f n k = Some (whole (pos 0))
combination (c ∷ cs) i f n k = both sum_of (both product_of (val c n (pos 0)) (val f (n +ℤ pos i) k)) (combination cs (suc i) f n k)

abbrev pub HoldsAt : List Tree → Tree → Tree → ℤ → ℤ → Type 0
HoldsAt cs f g n k = SameValue (combination cs 0 f n k) (both difference_of (val g n (k +ℤ pos 1)) (val g n k))

pub record Recurs (cs : List Tree) (f g : Tree) : Type 0 where
  pub from : ℤ
  pub holds : (k : ℤ) → from ≤ℤ k → (bound : ℤ) × ((n : ℤ) → bound ≤ℤ n → HoldsAt cs f g n k)

abbrev pub IsZero : Tree → Type 0
IsZero c = (n : ℤ) → SameValue (val c n (pos 0)) (Some (whole (pos 0)))

pub record IsRecurrence (allowed : Allowed) (f : Tree) (J : ℕ) (cs : List Tree) (g : Tree) : Type 0 where
  pub count : length cs ≡ suc J
  pub polynomials : Each (λ c. IsTrue (is_constant_tree c)) cs
  pub some : ¬ Each IsZero cs
  pub over : BuiltOver allowed g
  pub recurs : Recurs cs f g

abbrev pub NoRecurrence : Tree → ℕ → Type 0
NoRecurrence f J = (cs : List Tree) (g : Tree) → ¬ IsRecurrence (allowed_in (shifts J f)) f J cs g
