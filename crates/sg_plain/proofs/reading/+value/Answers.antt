use Rattle.std.proofs.Common.{◌≤◌, ◌+ℤ◌, ◌*ℤ◌, unsigned_abs, sym, subst, ap, ap₂, ◌∙◌, arith, rules, FitsSigned}
use Rattle.std.proofs.lemmas.Int.{to_z-of_z}
use Rattle.std.specs.Int.{w128}
use Rattle.sg_algebra.proofs.Ring.{pow}
use Rattle.sg_algebra.proofs.Whole.{ℤR}
use Rattle.sg_expr.specs.declared.tree.Expr.{Expr}
use Rattle.sg_expr.specs.Tree.{tree_of}
use Rattle.sg_spec.specs.Limits.{nodes}
use Rattle.sg_spec.specs.Tree.{add, mul, power}
use Rattle.sg_plain.proofs.Bounds.{plain-add, plain-mul, plain-power, small-value, small-powers}
use Rattle.sg_plain.proofs.reading.+value.Goals as goal

pub value-v-requires : goal.value-v-requires
value-v-requires t c =
    let p = plain-add (tree_of c.in-Add.a.value) (tree_of c.in-Add.b.value) (rw c.in-Add.is at c.requires.plain) in
    let size = ap (λ (e : Expr). nodes (tree_of e)) c.in-Add.is in
    (rw c.deref.ensures (omega (arith, size)), (rw c.deref.ensures p.0, search rules))

pub value-w-requires : goal.value-w-requires
value-w-requires t c =
    let p = plain-add (tree_of c.in-Add.a.value) (tree_of c.in-Add.b.value) (rw c.in-Add.is at c.requires.plain) in
    let size = ap (λ (e : Expr). nodes (tree_of e)) c.in-Add.is in
    (rw c.deref-in-Add.ensures (omega (arith, size)), (rw c.deref-in-Add.ensures p.1, search rules))

pub value-v-requires-in-Neg : goal.value-v-requires-in-Neg
value-v-requires-in-Neg t c =
    let p = rw c.in-Neg.is at c.requires.plain in
    let size = ap (λ (e : Expr). nodes (tree_of e)) c.in-Neg.is in
    (rw c.deref-in-Neg.ensures (omega (arith, size)), (rw c.deref-in-Neg.ensures p, search rules))

pub value-v-requires-in-Mul : goal.value-v-requires-in-Mul
value-v-requires-in-Mul t c =
    let p = plain-mul (tree_of c.in-Mul.a.value) (tree_of c.in-Mul.b.value) (rw c.in-Mul.is at c.requires.plain) in
    let size = ap (λ (e : Expr). nodes (tree_of e)) c.in-Mul.is in
    (rw c.deref-in-Mul.ensures (omega (arith, size)), (rw c.deref-in-Mul.ensures p.0, search rules))

pub value-w-requires-in-Mul : goal.value-w-requires-in-Mul
value-w-requires-in-Mul t c =
    let p = plain-mul (tree_of c.in-Mul.a.value) (tree_of c.in-Mul.b.value) (rw c.in-Mul.is at c.requires.plain) in
    let size = ap (λ (e : Expr). nodes (tree_of e)) c.in-Mul.is in
    (rw c.deref-in-Mul-2.ensures (omega (arith, size)), (rw c.deref-in-Mul-2.ensures p.1, search rules))

pub value-v-requires-in-Pow : goal.value-v-requires-in-Pow
value-v-requires-in-Pow t c =
    let p = plain-power (tree_of c.in-Pow.a.value) c.in-Pow.n c.if-n-eq0.false (rw c.in-Pow.is at c.requires.plain) in
    let size = ap (λ (e : Expr). nodes (tree_of e)) c.in-Pow.is in
    (rw c.deref-in-Pow.ensures (omega (arith, size)), (rw c.deref-in-Pow.ensures p, search rules))

pub power-requires : goal.power-requires
power-requires t c =
    let fits-k : FitsSigned w128 c.args.k = search rules in
    let fits-v : FitsSigned w128 c.value-v-in-Pow.result = search rules in
    let v = simp to_z-of_z at (rw c.deref-in-Pow.ensures at c.value-v-in-Pow.ensures.value) in
    let p = rw c.in-Pow.is at c.requires.plain in
    rw (to_z-of_z w128 c.value-v-in-Pow.result fits-v)
    (small-powers (tree_of c.in-Pow.a.value) c.in-Pow.n c.args.k c.value-v-in-Pow.result p c.requires.near v)

pub returns-in-Add-clause-small : goal.returns-in-Add-clause-small
returns-in-Add-clause-small t c =
    let fits-k : FitsSigned w128 c.args.k = search rules in
    let fits-v : FitsSigned w128 c.value-v.result = search rules in
    let fits-w : FitsSigned w128 c.value-w.result = search rules in
    let fits-r : FitsSigned w128 c.plus.result = search rules in
    let v = simp to_z-of_z at (rw c.deref.ensures at c.value-v.ensures.value) in
    let w = simp to_z-of_z at (rw c.deref-in-Add.ensures at c.value-w.ensures.value) in
    let r = simp to_z-of_z at c.plus.ensures.value in
    let p = rw c.in-Add.is at c.requires.plain in
    subst (λ z. unsigned_abs z ≤ 67108864) (sym (to_z-of_z w128 c.plus.result fits-r))
    (small-value (add (tree_of c.in-Add.a.value) (tree_of c.in-Add.b.value)) c.args.k c.plus.result p c.requires.near (r ∙ ap₂ ◌+ℤ◌ v w))

pub returns-in-Mul-clause-small : goal.returns-in-Mul-clause-small
returns-in-Mul-clause-small t c =
    let fits-k : FitsSigned w128 c.args.k = search rules in
    let fits-v : FitsSigned w128 c.value-v-in-Mul.result = search rules in
    let fits-w : FitsSigned w128 c.value-w-in-Mul.result = search rules in
    let fits-r : FitsSigned w128 c.multiplied.result = search rules in
    let v = simp to_z-of_z at (rw c.deref-in-Mul.ensures at c.value-v-in-Mul.ensures.value) in
    let w = simp to_z-of_z at (rw c.deref-in-Mul-2.ensures at c.value-w-in-Mul.ensures.value) in
    let r = simp to_z-of_z at c.multiplied.ensures in
    let p = rw c.in-Mul.is at c.requires.plain in
    subst (λ z. unsigned_abs z ≤ 67108864) (sym (to_z-of_z w128 c.multiplied.result fits-r))
    (small-value (mul (tree_of c.in-Mul.a.value) (tree_of c.in-Mul.b.value)) c.args.k c.multiplied.result p c.requires.near (r ∙ ap₂ ◌*ℤ◌ v w))

pub returns-else-n-eq0-clause-small : goal.returns-else-n-eq0-clause-small
returns-else-n-eq0-clause-small t c =
    let fits-k : FitsSigned w128 c.args.k = search rules in
    let fits-v : FitsSigned w128 c.value-v-in-Pow.result = search rules in
    let fits-r : FitsSigned w128 c.power.result = search rules in
    let v = simp to_z-of_z at (rw c.deref-in-Pow.ensures at c.value-v-in-Pow.ensures.value) in
    let r = simp to_z-of_z at c.power.ensures in
    let p = rw c.in-Pow.is at c.requires.plain in
    subst (λ z. unsigned_abs z ≤ 67108864) (sym (to_z-of_z w128 c.power.result fits-r))
    (small-value (power (tree_of c.in-Pow.a.value) c.in-Pow.n) c.args.k c.power.result p c.requires.near (r ∙ ap (λ z. pow ℤR z c.in-Pow.n) v))
