-- Expressions as trees.
--   numeral       a number; a text has none below 0
--   here          the variable of the nearest scope
--   param         the parameter
--   add, neg, mul, div, power     the operations; an exponent is a natural number
--   sum_from, prod_from           the sum or product of the body from a lower limit up to the variable of the scope
--                                 outside; the body is a scope of its own
use Rattle.std.specs.Prelude.{ℕ, ℤ}

pub data Tree : Type 0 where
  numeral : ℤ → Tree
  here : Tree
  param : Tree
  add : Tree → Tree → Tree
  neg : Tree → Tree
  mul : Tree → Tree → Tree
  div : Tree → Tree → Tree
  power : Tree → ℕ → Tree
  sum_from : ℤ → Tree → Tree
  prod_from : ℤ → Tree → Tree
