-- The tests that the reader makes of a placed tree, by its cases.
--   polynomial_in    built from numbers, the variable and the parameter without calls and divisions
--   divisor_in       a polynomial, a product, and powers, products and opposites of divisors
--   constant_in      built from numbers and names other than the variable without calls and divisions
use Rattle.std.specs.Prelude.{ℕ, Bool, true, false, not, ◌&&◌, List}
use Rattle.sg_spec.specs.Syntax.{Placed, number, named, negated, added, subtracted, multiplied, raised, product_call, factorial, binomial, constant_power}
use Rattle.sg_spec.specs.Reading.{is_variable, is_known}

abbrev pub polynomial_in : List ℕ → Placed → Bool
polynomial_in names (number s) = true
polynomial_in names (named s) = is_known names s.value
polynomial_in names (negated x) = polynomial_in names x
polynomial_in names (added x y) = polynomial_in names x && polynomial_in names y
polynomial_in names (subtracted x y) = polynomial_in names x && polynomial_in names y
polynomial_in names (multiplied x y) = polynomial_in names x && polynomial_in names y
polynomial_in names (raised x e) = polynomial_in names x
polynomial_in names x = false

abbrev pub divisor_in : List ℕ → Placed → Bool
divisor_in names (number s) = true
divisor_in names (named s) = is_known names s.value
divisor_in names (negated x) = divisor_in names x
divisor_in names (added x y) = polynomial_in names x && polynomial_in names y
divisor_in names (subtracted x y) = polynomial_in names x && polynomial_in names y
divisor_in names (multiplied x y) = divisor_in names x && divisor_in names y
divisor_in names (raised x e) = divisor_in names x
divisor_in names (product_call c bound sign lower upper body) = true
divisor_in names (factorial c v) = true
divisor_in names (binomial c s x v) = true
divisor_in names (constant_power c x v) = true
divisor_in names x = false

abbrev pub constant_in : List ℕ → Placed → Bool
constant_in names (number s) = true
constant_in names (named s) = not (is_variable names s.value)
constant_in names (negated x) = constant_in names x
constant_in names (added x y) = constant_in names x && constant_in names y
constant_in names (subtracted x y) = constant_in names x && constant_in names y
constant_in names (multiplied x y) = constant_in names x && constant_in names y
constant_in names (raised x e) = constant_in names x
constant_in names x = false
