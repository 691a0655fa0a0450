use Rattle.std.proofs.Common.{suc, ap, ◌++◌, [], Err, rules, FitsSigned, to_z, of_z}
use Rattle.std.specs.Int.{w64}
use Rattle.std.proofs.lemmas.Int.{to_z-of_z}
use Rattle.std.proofs.lemmas.Result.{err_from_is_err_and}
use Rattle.sg_spec.specs.Tree.{add, power}
use Rattle.sg_spec.specs.Parts.{anywhere, divides, is_body, parts, own_part}
use Rattle.sg_expr.specs.Tree.{tree_of}
use Rattle.sg_limits.specs.Walks.{role_of}
use Rattle.sg_limits.proofs.Collecting.{chain, stop, named, own_parts, at_zero, above_zero, leaf_parts}
use Rattle.sg_limits.proofs.divisors.+collect.Goals as goal

pub returns-in_err-own-in-Add : goal.returns-in_err-own-in-Add
returns-in_err-own-in-Add t c = λ depth.
    let w = role_of c.args.wanted in
    let r = role_of c.args.role in
    let l = c.args.scope.from in
    let x = tree_of c.in-Add.x.value in
    let y = tree_of c.in-Add.y.value in
    let both = parts anywhere l depth x ++ parts anywhere l depth y in
    let own = rw c.in-Add.is at (c.in_err-own-in-Add.ensures depth) in
    let e = c.in_err-own-in-Add.field-0.0 in
    let p = err_from_is_err_and c.from_residual.result c.from_residual.ensures.1 in
    rw (p.1, p.2, c.in-Add.is) (named w (own_part r l depth (add x y) [] ++ both) (parts r l depth (add x y)) c.args.list (Err e) (own_parts r l depth (add x y) both) (stop w (own_part r l depth (add x y) []) both c.args.list e own))

pub returns-in_err-left-in-Add : goal.returns-in_err-left-in-Add
returns-in_err-left-in-Add t c = λ depth.
    let w = role_of c.args.wanted in
    let r = role_of c.args.role in
    let l = c.args.scope.from in
    let x = tree_of c.in-Add.x.value in
    let y = tree_of c.in-Add.y.value in
    let both = parts anywhere l depth x ++ parts anywhere l depth y in
    let own = rw c.in-Add.is at (c.in_ok-own-in-Add.ensures depth) in
    let left = rw c.deref.ensures at (c.in_err-left-in-Add.ensures depth) in
    let m = c.in_ok-own-in-Add.own in
    let e = c.in_err-left-in-Add.field-0.0 in
    let p = err_from_is_err_and c.from_residual-in_err-left-in-Add.result c.from_residual-in_err-left-in-Add.ensures.1 in
    rw (p.1, p.2, c.in-Add.is) (named w (own_part r l depth (add x y) [] ++ both) (parts r l depth (add x y)) c.args.list (Err e) (own_parts r l depth (add x y) both)
    (chain w (own_part r l depth (add x y) []) both c.args.list m (Err e) own (stop w (parts anywhere l depth x) (parts anywhere l depth y) m e left)))

pub returns-in_ok-left-in-Add : goal.returns-in_ok-left-in-Add
returns-in_ok-left-in-Add t c = λ depth.
    let w = role_of c.args.wanted in
    let r = role_of c.args.role in
    let l = c.args.scope.from in
    let x = tree_of c.in-Add.x.value in
    let y = tree_of c.in-Add.y.value in
    let both = parts anywhere l depth x ++ parts anywhere l depth y in
    let own = rw c.in-Add.is at (c.in_ok-own-in-Add.ensures depth) in
    let left = rw c.deref.ensures at (c.in_ok-left-in-Add.ensures depth) in
    let right = rw c.deref-in-Add.ensures at (c.collect-in-Add.ensures depth) in
    let m = c.in_ok-own-in-Add.own in
    let n = c.in_ok-left-in-Add.left in
    rw c.in-Add.is (named w (own_part r l depth (add x y) [] ++ both) (parts r l depth (add x y)) c.args.list c.collect-in-Add.result (own_parts r l depth (add x y) both)
    (chain w (own_part r l depth (add x y) []) both c.args.list m c.collect-in-Add.result own (chain w (parts anywhere l depth x) (parts anywhere l depth y) m n c.collect-in-Add.result left right)))

pub returns-in-Neg : goal.returns-in-Neg
returns-in-Neg t c = λ depth. rw c.in-Neg.is (rw c.deref-in-Neg.ensures at (c.collect-in-Neg.ensures depth))

pub returns-in_err-left-in-Mul : goal.returns-in_err-left-in-Mul
returns-in_err-left-in-Mul t c = λ depth.
    let w = role_of c.args.wanted in
    let r = role_of c.args.role in
    let l = c.args.scope.from in
    let x = tree_of c.in-Mul.x.value in
    let y = tree_of c.in-Mul.y.value in
    let left = rw c.deref-in-Mul.ensures at (c.in_err-left-in-Mul.ensures depth) in
    let e = c.in_err-left-in-Mul.field-0.0 in
    let p = err_from_is_err_and c.from_residual-in_err-left-in-Mul.result c.from_residual-in_err-left-in-Mul.ensures.1 in
    rw (p.1, p.2, c.in-Mul.is) (stop w (parts r l depth x) (parts r l depth y) c.args.list e left)

pub returns-in_ok-left-in-Mul : goal.returns-in_ok-left-in-Mul
returns-in_ok-left-in-Mul t c = λ depth.
    let w = role_of c.args.wanted in
    let r = role_of c.args.role in
    let l = c.args.scope.from in
    let x = tree_of c.in-Mul.x.value in
    let y = tree_of c.in-Mul.y.value in
    let left = rw c.deref-in-Mul.ensures at (c.in_ok-left-in-Mul.ensures depth) in
    let right = rw c.deref-in-Mul-2.ensures at (c.collect-in-Mul-2.ensures depth) in
    let m = c.in_ok-left-in-Mul.left in
    rw c.in-Mul.is (chain w (parts r l depth x) (parts r l depth y) c.args.list m c.collect-in-Mul-2.result left right)

pub returns-in_err-left-in-Div : goal.returns-in_err-left-in-Div
returns-in_err-left-in-Div t c = λ depth.
    let w = role_of c.args.wanted in
    let r = role_of c.args.role in
    let l = c.args.scope.from in
    let x = tree_of c.in-Div.x.value in
    let y = tree_of c.in-Div.y.value in
    let left = rw c.deref-in-Div.ensures at (c.in_err-left-in-Div.ensures depth) in
    let e = c.in_err-left-in-Div.field-0.0 in
    let p = err_from_is_err_and c.from_residual-in_err-left-in-Div.result c.from_residual-in_err-left-in-Div.ensures.1 in
    rw (p.1, p.2, c.in-Div.is) (stop w (parts r l depth x) (parts divides l depth y) c.args.list e left)

pub returns-in_ok-left-in-Div : goal.returns-in_ok-left-in-Div
returns-in_ok-left-in-Div t c = λ depth.
    let w = role_of c.args.wanted in
    let r = role_of c.args.role in
    let l = c.args.scope.from in
    let x = tree_of c.in-Div.x.value in
    let y = tree_of c.in-Div.y.value in
    let left = rw c.deref-in-Div.ensures at (c.in_ok-left-in-Div.ensures depth) in
    let right = rw c.deref-in-Div-2.ensures at (c.collect-in-Div-2.ensures depth) in
    let m = c.in_ok-left-in-Div.left in
    rw c.in-Div.is (chain w (parts r l depth x) (parts divides l depth y) c.args.list m c.collect-in-Div-2.result left right)

pub returns-then-e-eq0 : goal.returns-then-e-eq0
returns-then-e-eq0 t c = λ depth.
    let w = role_of c.args.wanted in
    let r = role_of c.args.role in
    let l = c.args.scope.from in
    let x = tree_of c.in-Pow.x.value in
    let one = rw c.deref-then-e-eq0.ensures at (c.collect-then-e-eq0.ensures depth) in
    rw c.in-Pow.is (named w (parts anywhere l depth x) (parts r l depth (power x c.in-Pow.e)) c.args.list c.collect-then-e-eq0.result (at_zero r l depth c.in-Pow.e x c.if-e-eq0.true) one)

pub returns-else-e-eq0 : goal.returns-else-e-eq0
returns-else-e-eq0 t c = λ depth.
    let w = role_of c.args.wanted in
    let r = role_of c.args.role in
    let l = c.args.scope.from in
    let x = tree_of c.in-Pow.x.value in
    let one = rw c.deref-in-Pow.ensures at (c.collect-in-Pow.ensures depth) in
    rw c.in-Pow.is (named w (parts r l depth x) (parts r l depth (power x c.in-Pow.e)) c.args.list c.collect-in-Pow.result (above_zero r l depth c.in-Pow.e x c.if-e-eq0.false) one)

pub returns-in-Sum : goal.returns-in-Sum
returns-in-Sum t c = λ depth.
    let fits : FitsSigned w64 c.in-Sum.from = search rules in
    let body = tree_of c.in-Sum.body.value in
    let start = ap (λ l. parts anywhere l (suc depth) body) (to_z-of_z w64 c.in-Sum.from fits) in
    let one = rw c.deref-in-Sum.ensures at (c.collect-in-Sum.ensures (suc depth)) in
    rw c.in-Sum.is (named (role_of c.args.wanted) (parts anywhere (to_z w64 (of_z w64 c.in-Sum.from)) (suc depth) body) (parts anywhere c.in-Sum.from (suc depth) body) c.args.list c.collect-in-Sum.result start one)

pub returns-in-Prod : goal.returns-in-Prod
returns-in-Prod t c = λ depth.
    let fits : FitsSigned w64 c.in-Prod.from = search rules in
    let body = tree_of c.in-Prod.body.value in
    let start = ap (λ l. parts is_body l (suc depth) body) (to_z-of_z w64 c.in-Prod.from fits) in
    let one = rw c.deref-in-Prod.ensures at (c.collect-in-Prod.ensures (suc depth)) in
    rw c.in-Prod.is (named (role_of c.args.wanted) (parts is_body (to_z w64 (of_z w64 c.in-Prod.from)) (suc depth) body) (parts is_body c.in-Prod.from (suc depth) body) c.args.list c.collect-in-Prod.result start one)

pub returns-in-Num : goal.returns-in-Num
returns-in-Num t c = λ depth.
    let w = role_of c.args.wanted in
    let r = role_of c.args.role in
    let e = tree_of c.args.e.now in
    named w (own_part r c.args.scope.from depth e []) (parts r c.args.scope.from depth e) c.args.list c.collect_own-in-Num.result (leaf_parts r c.args.scope.from depth c.args.e.now c.in-Num.is) (c.collect_own-in-Num.ensures depth)
