-- Greatest common divisors of natural numbers.
--   gcd      the greatest common divisor; that of 0 and x is x
use Rattle.std.specs.Prelude.{ℕ, zero, suc, ◌%◌}

-- Euclid's divisions, at most as many as the first number says
abbrev pub gcd_in : ℕ → ℕ → ℕ → ℕ
gcd_in zero a b = a
gcd_in (suc k) a zero = a
gcd_in (suc k) a (suc b) = gcd_in k (suc b) (a % suc b)

unfoldable pub gcd : ℕ → ℕ → ℕ
gcd a b = gcd_in b a b
