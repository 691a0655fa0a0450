-- Polynomials in the variable.
--   IsPolynomial        built from numerals, the variable, sums, products, opposites and powers alone
--   weight              a bound on the sizes of the coefficients: a numeral weighs its size and at least 1, the variable 1
use Rattle.std.specs.Prelude.{ℕ, ◌+◌, ◌*◌, ◌^◌, max, unsigned_abs}
use Rattle.sg_spec.specs.Tree.{Tree, numeral, here, param, add, neg, mul, div, power, sum_from, prod_from}

abbrev pub IsPolynomial : Tree → Type 0
IsPolynomial (numeral c) = Unit {0}
IsPolynomial here = Unit {0}
IsPolynomial param = ⊥
IsPolynomial (add x y) = IsPolynomial x × IsPolynomial y
IsPolynomial (neg x) = IsPolynomial x
IsPolynomial (mul x y) = IsPolynomial x × IsPolynomial y
IsPolynomial (div x y) = ⊥
IsPolynomial (power x e) = IsPolynomial x
IsPolynomial (sum_from from body) = ⊥
IsPolynomial (prod_from from body) = ⊥

abbrev pub weight : Tree → ℕ
weight (numeral c) = max 1 (unsigned_abs c)
weight here = 1
weight param = 1
weight (add x y) = weight x + weight y
weight (neg x) = weight x
weight (mul x y) = weight x * weight y
weight (div x y) = weight x * weight y
weight (power x e) = weight x ^ e
weight (sum_from from body) = 1
weight (prod_from from body) = 1
