use Rattle.std.proofs.Common.{ap, subst}
use Rattle.sg_spec.specs.Tree.{Tree}
use Rattle.sg_expr.specs.Tree.{tree_of}
use Rattle.sg_ratfun.specs.Fractions.{ratio}
use Rattle.sg_build.specs.Letters.{letter}
use Rattle.sg_build.specs.Placed.{IsFunctionOf}
use Rattle.sg_build.proofs.FunctionParts.{function-number, function-here, function-param, function-sum, function-opposite, function-product, function-power}
use Rattle.sg_build.proofs.functions.+function_of.Goals as goal

pub returns-in_ok-r-in-Num-clause-value : goal.returns-in_ok-r-in-Num-clause-value
returns-in_ok-r-in-Num-clause-value g t c =
    let l = letter g.K.Field.vars in
    rw c.in-Num.is (function-number l c.in-Num.c (g.K.Field.val c.in_ok-x-in-Num.x) (ratio g.K.Field.val c.in_ok-r-in-Num.r) c.in_ok-x-in-Num.ensures.value c.in_ok-r-in-Num.ensures.value)

pub returns-in_ok-r-in-Here-clause-value : goal.returns-in_ok-r-in-Here-clause-value
returns-in_ok-r-in-Here-clause-value g t c =
    let l = letter g.K.Field.vars in
    rw c.in-Here.is (function-here l (ratio g.K.Field.val c.in_ok-r-in-Here.r) c.in_ok-r-in-Here.ensures.value)

pub returns-in_ok-r-in-Param-clause-value : goal.returns-in_ok-r-in-Param-clause-value
returns-in_ok-r-in-Param-clause-value g t c =
    let l = letter g.K.Field.vars in
    rw c.in-Param.is (function-param l (g.K.Field.val c.in_ok-x-in-Param.x) (ratio g.K.Field.val c.in_ok-r-in-Param.r) c.in_ok-x-in-Param.ensures.value c.in_ok-r-in-Param.ensures.value)

pub returns-in_ok-r-in-Add-clause-value : goal.returns-in_ok-r-in-Add-clause-value
returns-in_ok-r-in-Add-clause-value g t c =
    let l = letter g.K.Field.vars in
    let hx = subst (λ (e : Tree). IsFunctionOf l e (ratio g.K.Field.val c.in_ok-x-in-Add.x)) (ap tree_of c.deref.ensures) c.in_ok-x-in-Add.ensures.value in
    let hy = subst (λ (e : Tree). IsFunctionOf l e (ratio g.K.Field.val c.in_ok-y-in-Add.y)) (ap tree_of c.deref-in-Add.ensures) c.in_ok-y-in-Add.ensures.value in
    rw c.in-Add.is (function-sum l (tree_of c.in-Add.a.value) (tree_of c.in-Add.b.value) (ratio g.K.Field.val c.in_ok-x-in-Add.x) (ratio g.K.Field.val c.in_ok-y-in-Add.y) (ratio g.K.Field.val c.in_ok-r-in-Add.r)
    hx hy c.in_ok-r-in-Add.ensures.value)

pub returns-in_ok-r-in-Neg-clause-value : goal.returns-in_ok-r-in-Neg-clause-value
returns-in_ok-r-in-Neg-clause-value g t c =
    let l = letter g.K.Field.vars in
    let hx = subst (λ (e : Tree). IsFunctionOf l e (ratio g.K.Field.val c.in_ok-x-in-Neg.x)) (ap tree_of c.deref-in-Neg.ensures) c.in_ok-x-in-Neg.ensures.value in
    rw c.in-Neg.is (function-opposite l (tree_of c.in-Neg.a.value) (ratio g.K.Field.val c.in_ok-x-in-Neg.x) (ratio g.K.Field.val c.in_ok-none-in-Neg.none) (ratio g.K.Field.val c.in_ok-r-in-Neg.r)
    hx c.in_ok-none-in-Neg.ensures.value c.in_ok-r-in-Neg.ensures.value)

pub returns-in_ok-r-in-Mul-clause-value : goal.returns-in_ok-r-in-Mul-clause-value
returns-in_ok-r-in-Mul-clause-value g t c =
    let l = letter g.K.Field.vars in
    let hx = subst (λ (e : Tree). IsFunctionOf l e (ratio g.K.Field.val c.in_ok-x-in-Mul.x)) (ap tree_of c.deref-in-Mul.ensures) c.in_ok-x-in-Mul.ensures.value in
    let hy = subst (λ (e : Tree). IsFunctionOf l e (ratio g.K.Field.val c.in_ok-y-in-Mul.y)) (ap tree_of c.deref-in-Mul-2.ensures) c.in_ok-y-in-Mul.ensures.value in
    rw c.in-Mul.is (function-product l (tree_of c.in-Mul.a.value) (tree_of c.in-Mul.b.value) (ratio g.K.Field.val c.in_ok-x-in-Mul.x) (ratio g.K.Field.val c.in_ok-y-in-Mul.y) (ratio g.K.Field.val c.in_ok-r-in-Mul.r)
    hx hy c.in_ok-r-in-Mul.ensures.value)

pub returns-in_ok-r-in-Pow-clause-value : goal.returns-in_ok-r-in-Pow-clause-value
returns-in_ok-r-in-Pow-clause-value g t c =
    let l = letter g.K.Field.vars in
    let hx = subst (λ (e : Tree). IsFunctionOf l e (ratio g.K.Field.val c.in_ok-x-in-Pow.x)) (ap tree_of c.deref-in-Pow.ensures) c.in_ok-x-in-Pow.ensures.value in
    rw c.in-Pow.is (function-power l (tree_of c.in-Pow.a.value) c.in-Pow.n (ratio g.K.Field.val c.in_ok-x-in-Pow.x) (ratio g.K.Field.val c.in_ok-r-in-Pow.r) hx c.in_ok-r-in-Pow.ensures.value)
