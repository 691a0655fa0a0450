use Rattle.std.proofs.Common.{sym, ◌++◌, Err}
use Rattle.std.proofs.lemmas.Result.{err_from_is_err_and}
use Rattle.sg_spec.specs.Tree.{add, mul, div}
use Rattle.sg_spec.specs.Parts.{anywhere, divides}
use Rattle.sg_expr.specs.Tree.{tree_of}
use Rattle.sg_limits.specs.Walks.{role_of, items_of, own_items}
use Rattle.sg_limits.proofs.Walking.{chain, stop, named, items_add, items_mul, items_div}
use Rattle.sg_limits.proofs.walk.+walk.Goals as goal

pub returns-in_err-first-in-Add : goal.returns-in_err-first-in-Add
returns-in_err-first-in-Add t c =
    let r = role_of c.args.role in
    let x = tree_of c.in-Add.x.value in
    let y = tree_of c.in-Add.y.value in
    let both = items_of c.args.place anywhere x ++ items_of c.args.place anywhere y in
    let own = rw c.in-Add.is at c.in_err-first-in-Add.ensures in
    let e = c.in_err-first-in-Add.field-0.0 in
    let p = err_from_is_err_and c.from_residual.result c.from_residual.ensures.1 in
    rw (p.1, p.2, c.in-Add.is) (named (own_items c.args.place r (add x y) ++ both) (items_of c.args.place r (add x y)) c.args.found (Err e) (sym (items_add c.args.place r x y)) (stop (own_items c.args.place r (add x y)) both c.args.found e own))

pub returns-in_err-left-in-Add : goal.returns-in_err-left-in-Add
returns-in_err-left-in-Add t c =
    let r = role_of c.args.role in
    let x = tree_of c.in-Add.x.value in
    let y = tree_of c.in-Add.y.value in
    let both = items_of c.args.place anywhere x ++ items_of c.args.place anywhere y in
    let own = rw c.in-Add.is at c.in_ok-first-in-Add.ensures in
    let left = rw c.deref.ensures at c.in_err-left-in-Add.ensures in
    let f = c.in_ok-first-in-Add.first in
    let e = c.in_err-left-in-Add.field-0.0 in
    let p = err_from_is_err_and c.from_residual-in_err-left-in-Add.result c.from_residual-in_err-left-in-Add.ensures.1 in
    rw (p.1, p.2, c.in-Add.is) (named (own_items c.args.place r (add x y) ++ both) (items_of c.args.place r (add x y)) c.args.found (Err e) (sym (items_add c.args.place r x y))
    (chain (own_items c.args.place r (add x y)) both c.args.found f (Err e) own (stop (items_of c.args.place anywhere x) (items_of c.args.place anywhere y) f e left)))

pub returns-in_ok-left-in-Add : goal.returns-in_ok-left-in-Add
returns-in_ok-left-in-Add t c =
    let r = role_of c.args.role in
    let x = tree_of c.in-Add.x.value in
    let y = tree_of c.in-Add.y.value in
    let both = items_of c.args.place anywhere x ++ items_of c.args.place anywhere y in
    let own = rw c.in-Add.is at c.in_ok-first-in-Add.ensures in
    let left = rw c.deref.ensures at c.in_ok-left-in-Add.ensures in
    let right = rw c.deref-in-Add.ensures at c.walk-in-Add.ensures in
    let f = c.in_ok-first-in-Add.first in
    let g = c.in_ok-left-in-Add.left in
    rw c.in-Add.is (named (own_items c.args.place r (add x y) ++ both) (items_of c.args.place r (add x y)) c.args.found c.walk-in-Add.result (sym (items_add c.args.place r x y))
    (chain (own_items c.args.place r (add x y)) both c.args.found f c.walk-in-Add.result own (chain (items_of c.args.place anywhere x) (items_of c.args.place anywhere y) f g c.walk-in-Add.result left right)))

pub returns-in-Neg : goal.returns-in-Neg
returns-in-Neg t c = rw c.in-Neg.is (rw c.deref-in-Neg.ensures at c.walk-in-Neg.ensures)

pub returns-in_err-left-in-Mul : goal.returns-in_err-left-in-Mul
returns-in_err-left-in-Mul t c =
    let r = role_of c.args.role in
    let x = tree_of c.in-Mul.x.value in
    let y = tree_of c.in-Mul.y.value in
    let left = rw c.deref-in-Mul.ensures at c.in_err-left-in-Mul.ensures in
    let e = c.in_err-left-in-Mul.field-0.0 in
    let p = err_from_is_err_and c.from_residual-in_err-left-in-Mul.result c.from_residual-in_err-left-in-Mul.ensures.1 in
    rw (p.1, p.2, c.in-Mul.is) (named (items_of c.args.place r x ++ items_of c.args.place r y) (items_of c.args.place r (mul x y)) c.args.found (Err e) (sym (items_mul c.args.place r x y)) (stop (items_of c.args.place r x) (items_of c.args.place r y) c.args.found e left))

pub returns-in_ok-left-in-Mul : goal.returns-in_ok-left-in-Mul
returns-in_ok-left-in-Mul t c =
    let r = role_of c.args.role in
    let x = tree_of c.in-Mul.x.value in
    let y = tree_of c.in-Mul.y.value in
    let left = rw c.deref-in-Mul.ensures at c.in_ok-left-in-Mul.ensures in
    let right = rw c.deref-in-Mul-2.ensures at c.walk-in-Mul-2.ensures in
    let g = c.in_ok-left-in-Mul.left in
    rw c.in-Mul.is (named (items_of c.args.place r x ++ items_of c.args.place r y) (items_of c.args.place r (mul x y)) c.args.found c.walk-in-Mul-2.result (sym (items_mul c.args.place r x y)) (chain (items_of c.args.place r x) (items_of c.args.place r y) c.args.found g c.walk-in-Mul-2.result left right))

pub returns-in_err-left-in-Div : goal.returns-in_err-left-in-Div
returns-in_err-left-in-Div t c =
    let r = role_of c.args.role in
    let x = tree_of c.in-Div.x.value in
    let y = tree_of c.in-Div.y.value in
    let left = rw c.deref-in-Div.ensures at c.in_err-left-in-Div.ensures in
    let e = c.in_err-left-in-Div.field-0.0 in
    let p = err_from_is_err_and c.from_residual-in_err-left-in-Div.result c.from_residual-in_err-left-in-Div.ensures.1 in
    rw (p.1, p.2, c.in-Div.is) (named (items_of c.args.place r x ++ items_of c.args.place divides y) (items_of c.args.place r (div x y)) c.args.found (Err e) (sym (items_div c.args.place r x y)) (stop (items_of c.args.place r x) (items_of c.args.place divides y) c.args.found e left))

pub returns-in_ok-left-in-Div : goal.returns-in_ok-left-in-Div
returns-in_ok-left-in-Div t c =
    let r = role_of c.args.role in
    let x = tree_of c.in-Div.x.value in
    let y = tree_of c.in-Div.y.value in
    let left = rw c.deref-in-Div.ensures at c.in_ok-left-in-Div.ensures in
    let right = rw c.deref-in-Div-2.ensures at c.walk-in-Div-2.ensures in
    let g = c.in_ok-left-in-Div.left in
    rw c.in-Div.is (named (items_of c.args.place r x ++ items_of c.args.place divides y) (items_of c.args.place r (div x y)) c.args.found c.walk-in-Div-2.result (sym (items_div c.args.place r x y)) (chain (items_of c.args.place r x) (items_of c.args.place divides y) c.args.found g c.walk-in-Div-2.result left right))
