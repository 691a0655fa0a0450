-- An expression at a parameter that is moved on.
--   param_plus     the parameter plus i; for 0 the parameter itself
--   substituted    the expression with each parameter replaced by that; its value at n is that of the expression at n + i
use Rattle.std.specs.Prelude.{ℕ, zero, suc, pos}
use Rattle.sg_spec.specs.Tree.{Tree, numeral, here, param, add, neg, mul, div, power, sum_from, prod_from}

abbrev pub param_plus : ℕ → Tree
param_plus zero = param
param_plus (suc i) = add param (numeral (pos (suc i)))

abbrev pub substituted : ℕ → Tree → Tree
substituted i (numeral c) = numeral c
substituted i here = here
substituted i param = param_plus i
substituted i (add x y) = add (substituted i x) (substituted i y)
substituted i (neg x) = neg (substituted i x)
substituted i (mul x y) = mul (substituted i x) (substituted i y)
substituted i (div x y) = div (substituted i x) (substituted i y)
substituted i (power x e) = power (substituted i x) e
substituted i (sum_from from body) = sum_from from (substituted i body)
substituted i (prod_from from body) = prod_from from (substituted i body)
