use Rattle.std.proofs.Common.{arith}
use Rattle.sg_spec.specs.Parts.{ratio_of, turned}
use Rattle.sg_expr.specs.Tree.{tree_of}
use Rattle.sg_parts.specs.Weights.{IsHeavyRatio}
use Rattle.sg_parts.proofs.Weighing.{err_any, heavy_sum_left, heavy_sum_right, heavy_product_left, heavy_product_right, heavy_quotient_right, heavy_power, weighed_some}
use Rattle.sg_parts.proofs.weights.+weights_of.Goals as goal

pub returns-in_err-x-in-Add-clause-heavy : goal.returns-in_err-x-in-Add-clause-heavy
returns-in_err-x-in-Add-clause-heavy t c =
    let h = rw c.deref-in-Add.ensures at c.in_err-x-in-Add.ensures.heavy in
    (err_any c.from_residual-in_err-x-in-Add.result (IsHeavyRatio (ratio_of (tree_of c.args.e.now))) (rw c.in-Add.is (heavy_sum_left (ratio_of (tree_of c.in-Add.a.value)) (ratio_of (tree_of c.in-Add.b.value)) h)))

pub returns-in_err-y-in-Add-clause-heavy : goal.returns-in_err-y-in-Add-clause-heavy
returns-in_err-y-in-Add-clause-heavy t c =
    let h = rw c.deref-in-Add-2.ensures at c.in_err-y-in-Add.ensures.heavy in
    (err_any c.from_residual-in_err-y-in-Add.result (IsHeavyRatio (ratio_of (tree_of c.args.e.now))) (rw c.in-Add.is (heavy_sum_right (ratio_of (tree_of c.in-Add.a.value)) (ratio_of (tree_of c.in-Add.b.value)) h)))

pub returns-in_err-x-in-Mul-clause-heavy : goal.returns-in_err-x-in-Mul-clause-heavy
returns-in_err-x-in-Mul-clause-heavy t c =
    let h = rw c.deref-in-Mul.ensures at c.in_err-x-in-Mul.ensures.heavy in
    (err_any c.from_residual-in_err-x-in-Mul.result (IsHeavyRatio (ratio_of (tree_of c.args.e.now))) (rw c.in-Mul.is (heavy_product_left (ratio_of (tree_of c.in-Mul.a.value)) (ratio_of (tree_of c.in-Mul.b.value)) h)))

pub returns-in_err-y-in-Mul-clause-heavy : goal.returns-in_err-y-in-Mul-clause-heavy
returns-in_err-y-in-Mul-clause-heavy t c =
    let h = rw c.deref-in-Mul-2.ensures at c.in_err-y-in-Mul.ensures.heavy in
    (err_any c.from_residual-in_err-y-in-Mul.result (IsHeavyRatio (ratio_of (tree_of c.args.e.now))) (rw c.in-Mul.is (heavy_product_right (ratio_of (tree_of c.in-Mul.a.value)) (ratio_of (tree_of c.in-Mul.b.value)) h)))

pub returns-in_err-x-in-Div-clause-heavy : goal.returns-in_err-x-in-Div-clause-heavy
returns-in_err-x-in-Div-clause-heavy t c =
    let h = rw c.deref-in-Div.ensures at c.in_err-x-in-Div.ensures.heavy in
    (err_any c.from_residual-in_err-x-in-Div.result (IsHeavyRatio (ratio_of (tree_of c.args.e.now))) (rw c.in-Div.is (heavy_product_left (ratio_of (tree_of c.in-Div.a.value)) (turned (ratio_of (tree_of c.in-Div.b.value))) h)))

pub returns-in_err-y-in-Div-clause-heavy : goal.returns-in_err-y-in-Div-clause-heavy
returns-in_err-y-in-Div-clause-heavy t c =
    let h = rw c.deref-in-Div-2.ensures at c.in_err-y-in-Div.ensures.heavy in
    (err_any c.from_residual-in_err-y-in-Div.result (IsHeavyRatio (ratio_of (tree_of c.args.e.now))) (rw c.in-Div.is (heavy_quotient_right (ratio_of (tree_of c.in-Div.a.value)) (ratio_of (tree_of c.in-Div.b.value)) h)))

pub returns-in_err-x-in-Pow-clause-heavy : goal.returns-in_err-x-in-Pow-clause-heavy
returns-in_err-x-in-Pow-clause-heavy t c =
    let h = rw c.deref-in-Pow.ensures at c.in_err-x-in-Pow.ensures.heavy in
    err_any c.from_residual-in_err-x-in-Pow.result (IsHeavyRatio (ratio_of (tree_of c.args.e.now))) (rw c.in-Pow.is (heavy_power (ratio_of (tree_of c.in-Pow.a.value)) c.in-Pow.e (omega arith) h))

pub power-requires-clause-some : goal.power-requires-clause-some
power-requires-clause-some t c = (weighed_some (ratio_of (tree_of c.deref-in-Pow.result.now)) c.in_ok-x-in-Pow.x c.in_ok-x-in-Pow.ensures.weights).0

pub power-requires-in-Pow-clause-some : goal.power-requires-in-Pow-clause-some
power-requires-in-Pow-clause-some t c = (weighed_some (ratio_of (tree_of c.deref-in-Pow.result.now)) c.in_ok-x-in-Pow.x c.in_ok-x-in-Pow.ensures.weights).1
