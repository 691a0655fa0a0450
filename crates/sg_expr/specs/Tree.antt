-- What an `Expr` stands for.
--   tree_of    its tree
use Rattle.sg_spec.specs.Tree.{Tree, numeral, here, param, add, neg, mul, div, power, sum_from, prod_from}
use Rattle.sg_expr.specs.declared.tree.Expr.{Expr, Num, Here, Param, Add', Neg', Mul', Div', Pow', Sum', Prod'}

abbrev pub tree_of : Expr → Tree
tree_of (Num n) = numeral n
tree_of Here = here
tree_of Param = param
tree_of (Add' p x q y) = add (tree_of x) (tree_of y)
tree_of (Neg' p x) = neg (tree_of x)
tree_of (Mul' p x q y) = mul (tree_of x) (tree_of y)
tree_of (Div' p x q y) = div (tree_of x) (tree_of y)
tree_of (Pow' p x e) = power (tree_of x) e
tree_of (Sum' from p x) = sum_from from (tree_of x)
tree_of (Prod' from p x) = prod_from from (tree_of x)
