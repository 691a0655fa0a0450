-- The left operands of a tree, down from the tree itself.
--   left_operand    the left operand of a sum, a product or a quotient; each other tree itself
--   left_depth      how many left operands there are, each that of the one before
--   left_part       the i-th of them; the tree itself for 0
use Rattle.std.specs.Prelude.{ℕ, zero, suc}
use Rattle.sg_spec.specs.Tree.{Tree, numeral, here, param, add, neg, mul, div, power, sum_from, prod_from}

abbrev pub left_operand : Tree → Tree
left_operand (numeral c) = numeral c
left_operand here = here
left_operand param = param
left_operand (add x y) = x
left_operand (neg x) = neg x
left_operand (mul x y) = x
left_operand (div x y) = x
left_operand (power x e) = power x e
left_operand (sum_from from body) = sum_from from body
left_operand (prod_from from body) = prod_from from body

abbrev pub left_depth : Tree → ℕ
left_depth (numeral c) = 0
left_depth here = 0
left_depth param = 0
left_depth (add x y) = suc (left_depth x)
left_depth (neg x) = 0
left_depth (mul x y) = suc (left_depth x)
left_depth (div x y) = suc (left_depth x)
left_depth (power x e) = 0
left_depth (sum_from from body) = 0
left_depth (prod_from from body) = 0

abbrev pub left_part : Tree → ℕ → Tree
left_part t zero = t
left_part t (suc i) = left_operand (left_part t i)
