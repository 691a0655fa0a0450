-- Recurrences of sums with a parameter.
--   left_side            c_0(n) times the sum of f(n, k) for k from s to N, and so on for f(n + 1, k), .., as plain sums
--   right_side           g(n, N + 1) - g(n, s)
--   Spares V n N         no divisor of V is 0 at n and any k from its limit to N + 1
--   IsDivisor d          the parameter stands in its polynomial, which at no k from its limit on is 0 at every parameter
--   Rec f J a cs g V s   wherever these divisors aren't 0, both sides have values from the start s on, and these are equal; J is the order
use Rattle.std.specs.Prelude.{◌≡◌, ◌≢◌, ℕ, suc, ℤ, pos, ◌+ℤ◌, ◌≤ℤ◌, List, length, Option}
use Rattle.sg_algebra.specs.Coefficients.{Each}
use Rattle.sg_spec.specs.Fraction.{Fraction}
use Rattle.sg_spec.specs.Tree.{Tree, sum_from}
use Rattle.sg_spec.specs.Value.{val, both, SameValue}
use Rattle.sg_spec.specs.Generators.{BuiltOver, start}
use Rattle.sg_spec.specs.Telescoping.{difference_of}
use Rattle.sg_limits.specs.declared.divisors.Divisor.{Divisor}
use Rattle.sg_answers_theory.specs.Recurrences.{shifts, allowed_in, combined, AreSome}
use Rattle.sg_recurrence_theory.specs.Planes.{value_at, HasParameter, IsSomewhere}

abbrev pub left_side : List (List ℤ) → Tree → ℤ → ℤ → ℤ → Option Fraction
left_side cs f s n N = combined cs n (λ i. val (sum_from s f) (n +ℤ pos i) N)

abbrev pub right_side : Tree → ℤ → ℤ → ℤ → Option Fraction
right_side g s n N = both difference_of (val g n (N +ℤ pos 1)) (val g n s)

abbrev pub Spares : List Divisor → ℤ → ℤ → Type 0
Spares V n N = Each (λ d. (k : ℤ) → d.limit ≤ℤ k → k ≤ℤ (N +ℤ pos 1) → value_at d.poly n k ≢ pos 0) V

pub record IsDivisor (d : Divisor) : Type 0 where
  pub has_parameter : HasParameter d.poly
  pub somewhere : (k : ℤ) → d.limit ≤ℤ k → IsSomewhere d.poly k

pub record Rec (f : Tree) (J : ℕ) (a : ℤ) (cs : List (List ℤ)) (g : Tree) (V : List Divisor) (s : ℤ) : Type 0 where
  pub starts : s ≡ start (shifts J f) a
  pub order : length cs ≡ suc J
  pub some : AreSome cs
  pub over : BuiltOver (allowed_in (shifts J f)) g
  pub divisors : Each IsDivisor V
  pub holds : (n N : ℤ) → pos 0 ≤ℤ n → s ≤ℤ N → Spares V n N → SameValue (left_side cs f s n N) (right_side g s n N)
