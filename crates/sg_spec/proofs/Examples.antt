-- The definitions, tried on a few values that were worked by hand.
use Rattle.std.specs.Prelude.{pos, negsuc, true, [], ◌∷◌, Some, None}
use Rattle.std.proofs.Common.{◌≡◌, refl, arith}
use Rattle.sg_spec.specs.Fraction.{whole}
use Rattle.sg_spec.specs.Tree.{Tree, numeral, here, param, neg, add, mul, div, power, sum_from, prod_from}
use Rattle.sg_spec.specs.Value.{val, total, SameValue}
use Rattle.sg_spec.specs.Limits.{counted, too_steep}
use Rattle.sg_spec.specs.Generators.{sums, start, BuiltOver}

-- the tree of H(k)
harmonic : Tree
harmonic = sum_from (pos 1) (div (numeral (pos 1)) here)

-- k^2 at 3 is 9
val-square : val (power here 2) (pos 0) (pos 3) ≡ Some (whole (pos 9))
val-square = refl

-- 1/k has no value at 0, and neither has what needs it
val-pole : val (add here (div (numeral (pos 1)) here)) (pos 0) (pos 0) ≡ None
val-pole = refl

-- H(3) is 11/6
val-harmonic : SameValue (val (sum_from (pos 1) (div (numeral (pos 1)) here)) (pos 0) (pos 3)) (Some (record { num = pos 11; den = 6 }))
val-harmonic = refl

-- a sum whose upper bound is below its lower limit is 0, and such a product is 1
val-empty_sum : val (sum_from (pos 1) here) (pos 0) (negsuc 4) ≡ Some (whole (pos 0))
val-empty_sum = refl

val-empty_product : val (prod_from (pos 1) here) (pos 0) (pos 0) ≡ Some (whole (pos 1))
val-empty_product = refl

-- k + .. from -2 to 1 is -2
total-variable : total here (negsuc 1) (pos 1) ≡ Some (whole (negsuc 1))
total-variable = refl

-- a repeated sum is listed once, and an inner sum before the outer one
sums-order : sums (sum_from (pos 2) (add here (sum_from (pos 1) here)) ∷ (sum_from (pos 1) here ∷ [])) ≡ sum_from (pos 1) here ∷ (sum_from (pos 2) (add here (sum_from (pos 1) here)) ∷ [])
sums-order = refl

-- the sum of 1/j from 5 on begins at 4
start-inner : start (sum_from (pos 5) (div (numeral (pos 1)) here) ∷ []) (pos 1) ≡ pos 4
start-inner = refl

-- (k^32)^3 is too steep, and ((k^32)^32)^0 isn't
counted-steep : counted (here ∷ power (power here 32) 3 ∷ []) ≡ Some (too_steep 2)
counted-steep = refl

counted-unexpanded : counted (power (power (power here 32) 32) 0 ∷ []) ≡ None
counted-unexpanded = refl

-- the tree of binom(n,k)
binomial : Tree
binomial = prod_from (pos 1) (div (add (add param (numeral (pos 1))) (neg here)) here)

-- k*binom(n,k)/(k-n-1) is built over the product, where the parameter may stand
built-parameter : BuiltOver (record { parameter = true; products = binomial ∷ []; sums = [] }) (div (mul here binomial) (add (add here (neg param)) (neg (numeral (pos 1)))))
unfolding binomial
built-parameter = ((tt, (0, omega arith, refl)), ((tt, refl), tt), refl)
