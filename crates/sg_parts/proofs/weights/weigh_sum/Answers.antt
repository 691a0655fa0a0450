use Rattle.sg_spec.specs.Parts.{ratio_of}
use Rattle.sg_expr.specs.Tree.{tree_of}
use Rattle.sg_parts.specs.Weights.{IsHeavySum}
use Rattle.sg_parts.proofs.Weighing.{err_any, heavy_alone_left, heavy_alone_right}
use Rattle.sg_parts.proofs.weights.weigh_sum.Goals as goal

pub returns-in_err-x-clause-heavy : goal.returns-in_err-x-clause-heavy
returns-in_err-x-clause-heavy c =
    let a = ratio_of (tree_of c.args.a.now) in
    let b = ratio_of (tree_of c.args.b.now) in
    err_any c.from_residual.result (IsHeavySum a b) (heavy_alone_left a b c.in_err-x.ensures.heavy)

pub returns-in_err-y-clause-heavy : goal.returns-in_err-y-clause-heavy
returns-in_err-y-clause-heavy c =
    let a = ratio_of (tree_of c.args.a.now) in
    let b = ratio_of (tree_of c.args.b.now) in
    err_any c.from_residual-in_err-y.result (IsHeavySum a b) (heavy_alone_right a b c.in_err-y.ensures.heavy)
