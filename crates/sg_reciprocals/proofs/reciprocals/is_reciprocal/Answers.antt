use Rattle.std.proofs.Common.{rules}
use Rattle.sg_expr.specs.Tree.{tree_of}
use Rattle.sg_reciprocals.specs.Reciprocals.{IsNumber, IsLinear}
use Rattle.sg_reciprocals.proofs.NoSum.{reciprocal-none}
use Rattle.sg_reciprocals.proofs.reciprocals.is_reciprocal.Goals as goal

pub returns-then-is_number-clause-none : goal.returns-then-is_number-clause-none
returns-then-is_number-clause-none c = λ t.
    let number : IsNumber (tree_of c.deref.result.now) = search rules in
    let linear : IsLinear (tree_of c.deref-then-is_number.result.now) = c.is_linear.ensures.0 t in
    reciprocal-none (tree_of c.args.e.now) (rw c.in-Div.is (rw c.deref.ensures at number, rw c.deref-then-is_number.ensures at linear))
