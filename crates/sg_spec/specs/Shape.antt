-- The shapes of expressions, as tests on trees.
--   is_polynomial_tree  built from numerals, the variable and the parameter without calls and divisions
--   is_divisor_tree     a polynomial, a product, and powers, products and opposites of divisors
--   is_constant_tree    built from numerals and the parameter without calls and divisions
use Rattle.std.specs.Prelude.{Bool, true, false, ◌&&◌}
use Rattle.sg_spec.specs.Tree.{Tree, numeral, here, param, add, neg, mul, power, prod_from}

abbrev pub is_polynomial_tree : Tree → Bool
is_polynomial_tree (numeral z) = true
is_polynomial_tree here = true
is_polynomial_tree param = true
is_polynomial_tree (add x y) = is_polynomial_tree x && is_polynomial_tree y
is_polynomial_tree (neg x) = is_polynomial_tree x
is_polynomial_tree (mul x y) = is_polynomial_tree x && is_polynomial_tree y
is_polynomial_tree (power x e) = is_polynomial_tree x
is_polynomial_tree x = false

abbrev pub is_divisor_tree : Tree → Bool
is_divisor_tree (numeral z) = true
is_divisor_tree here = true
is_divisor_tree param = true
is_divisor_tree (add x y) = is_polynomial_tree x && is_polynomial_tree y
is_divisor_tree (neg x) = is_divisor_tree x
is_divisor_tree (mul x y) = is_divisor_tree x && is_divisor_tree y
is_divisor_tree (power x e) = is_divisor_tree x
is_divisor_tree (prod_from z x) = true
is_divisor_tree x = false

abbrev pub is_constant_tree : Tree → Bool
is_constant_tree (numeral z) = true
is_constant_tree param = true
is_constant_tree (add x y) = is_constant_tree x && is_constant_tree y
is_constant_tree (neg x) = is_constant_tree x
is_constant_tree (mul x y) = is_constant_tree x && is_constant_tree y
is_constant_tree (power x e) = is_constant_tree x
is_constant_tree x = false
