-- What a recurrence needs of the products that stand in divisors.
--   products_below r t     the products that stand in what a quotient of the tree divides by, at any depth: of a product of divisors those
--                          of both, of an opposite and of a power with an exponent from 1 on those of the divisor, of a power with the
--                          exponent 0 none. r says how the tree itself stands
use Rattle.std.specs.Prelude.{zero, suc, List, [], ◌∷◌, ◌++◌}
use Rattle.sg_spec.specs.Tree.{Tree, numeral, here, param, add, neg, mul, div, power, sum_from, prod_from}
use Rattle.sg_spec.specs.Parts.{Role, anywhere, divides, is_body}

abbrev pub if_divides : Role → Tree → List Tree
if_divides anywhere p = []
if_divides divides p = p ∷ []
if_divides is_body p = []

abbrev pub products_below : Role → Tree → List Tree
products_below r (numeral c) = []
products_below r here = []
products_below r param = []
products_below r (add x y) = products_below anywhere x ++ products_below anywhere y
products_below r (neg x) = products_below r x
products_below r (mul x y) = products_below r x ++ products_below r y
products_below r (div x y) = products_below r x ++ products_below divides y
products_below r (power x zero) = products_below anywhere x
products_below r (power x (suc e)) = products_below r x
products_below r (sum_from from body) = products_below anywhere body
products_below r (prod_from from body) = if_divides r (prod_from from body) ++ products_below anywhere body
