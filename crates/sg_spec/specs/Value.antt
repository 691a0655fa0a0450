-- The value of an expression: sums and products are folded term by term into fractions of any size.
--   val          the value for a parameter and a variable, or none
--   folded       the first terms from a place on, each joined on the right
--   how_many     how many whole numbers there are from the first to the last
--   SameValue    both have a value, and the values are equal
--   total        the plain sum of f from a to m
use Rattle.std.specs.Prelude.{ℕ, zero, suc, ℤ, pos, negsuc, ◌+ℤ◌, ◌-ℤ◌, Option, Some, None}
use Rattle.sg_spec.specs.Fraction.{Fraction, whole, plus, minus, times, over, Same}
use Rattle.sg_spec.specs.Tree.{Tree, numeral, here, param, add, neg, mul, div, power, sum_from, prod_from}

-- none where a part has no value
abbrev pub both : (Fraction → Fraction → Option Fraction) → Option Fraction → Option Fraction → Option Fraction
both f (Some x) (Some y) = f x y
both f (Some x) None = None
both f None y = None

abbrev pub sum_of : Fraction → Fraction → Option Fraction
sum_of x y = Some (plus x y)

abbrev pub product_of : Fraction → Fraction → Option Fraction
product_of x y = Some (times x y)

abbrev pub unless_zero : ℤ → Fraction → Option Fraction
unless_zero (pos zero) x = None
unless_zero (pos (suc n)) x = Some x
unless_zero (negsuc n) x = Some x

-- a quotient by 0 has no value
abbrev pub quotient_of : Fraction → Fraction → Option Fraction
quotient_of x y = unless_zero y.num (over x y)

-- 0 - x
abbrev pub opposite_of : Option Fraction → Option Fraction
opposite_of (Some x) = Some (minus (whole (pos 0)) x)
opposite_of None = None

-- 1, multiplied by x as often as the exponent says; none where x has no value
abbrev pub power_of : Option Fraction → ℕ → Option Fraction
power_of None e = None
power_of (Some x) zero = Some (whole (pos 1))
power_of (Some x) (suc e) = both product_of (power_of (Some x) e) (Some x)

abbrev pub steps_to : ℤ → ℕ
steps_to (pos n) = suc n
steps_to (negsuc n) = zero

abbrev pub how_many : ℤ → ℤ → ℕ
how_many from last = steps_to (last -ℤ from)

abbrev pub folded : (Fraction → Fraction → Option Fraction) → Fraction → (ℤ → Option Fraction) → ℤ → ℕ → Option Fraction
folded f start term from zero = Some start
folded f start term from (suc n) = both f (folded f start term from n) (term (from +ℤ pos n))

abbrev pub val : Tree → ℤ → ℤ → Option Fraction
val (numeral c) n k = Some (whole c)
val here n k = Some (whole k)
val param n k = Some (whole n)
val (add x y) n k = both sum_of (val x n k) (val y n k)
val (neg x) n k = opposite_of (val x n k)
val (mul x y) n k = both product_of (val x n k) (val y n k)
val (div x y) n k = both quotient_of (val x n k) (val y n k)
val (power x e) n k = power_of (val x n k) e
val (sum_from from body) n k = folded sum_of (whole (pos 0)) (val body n) from (how_many from k)
val (prod_from from body) n k = folded product_of (whole (pos 1)) (val body n) from (how_many from k)

abbrev pub SameValue : Option Fraction → Option Fraction → Type 0
SameValue (Some x) (Some y) = Same x y
SameValue (Some x) None = ⊥
SameValue None y = ⊥

-- for an expression without parameter, whose value is the same for every parameter
abbrev pub total : Tree → ℤ → ℤ → Option Fraction
total f a m = val (sum_from a f) (pos 0) m
