use Rattle.std.proofs.Common.{ap, arith}
use Rattle.sg_spec.specs.Limits.{nodes}
use Rattle.sg_expr.specs.declared.tree.Expr.{Expr}
use Rattle.sg_spec.specs.Parts.{ratio_of, turned}
use Rattle.sg_expr.specs.Tree.{tree_of}
use Rattle.sg_parts.specs.Weights.{AreRatio}
use Rattle.sg_parts.proofs.Fractions.{fits_left, fits_right, product_fits_left, product_fits_right, turned_fits, power_fits, sum_over_light, sum_under_light, sum_ratio, product_over_light, product_ratio, turned_ratio, opposite_ratio, power_ratio, ratio_light, power_light}
use Rattle.sg_parts.proofs.ratios.+ratio_of.Goals as goal

pub ratio_of-requires : goal.ratio_of-requires
ratio_of-requires t c =
    let o = rw c.in-Neg.is at c.requires.over in
    let u = rw c.in-Neg.is at c.requires.under in
    let size = ap (λ (e : Expr). nodes (tree_of e)) c.in-Neg.is in
    (rw c.deref.ensures (omega (arith, size)), (rw c.deref.ensures o, rw c.deref.ensures u))

pub ratio_of-requires-in-Add : goal.ratio_of-requires-in-Add
ratio_of-requires-in-Add t c =
    let o = rw c.in-Add.is at c.requires.over in
    let u = rw c.in-Add.is at c.requires.under in
    let f = fits_left (ratio_of (tree_of c.in-Add.a.value)) (ratio_of (tree_of c.in-Add.b.value)) (o, u) in
    let size = ap (λ (e : Expr). nodes (tree_of e)) c.in-Add.is in
    (rw c.deref-in-Add.ensures (omega (arith, size)), (rw c.deref-in-Add.ensures f.0, rw c.deref-in-Add.ensures f.1))

pub ratio_of-requires-in-Add-2 : goal.ratio_of-requires-in-Add-2
ratio_of-requires-in-Add-2 t c =
    let o = rw c.in-Add.is at c.requires.over in
    let u = rw c.in-Add.is at c.requires.under in
    let f = fits_right (ratio_of (tree_of c.in-Add.a.value)) (ratio_of (tree_of c.in-Add.b.value)) (o, u) in
    let size = ap (λ (e : Expr). nodes (tree_of e)) c.in-Add.is in
    (rw c.deref-in-Add-2.ensures (omega (arith, size)), (rw c.deref-in-Add-2.ensures f.0, rw c.deref-in-Add-2.ensures f.1))

pub ratio_of-requires-in-Mul : goal.ratio_of-requires-in-Mul
ratio_of-requires-in-Mul t c =
    let o = rw c.in-Mul.is at c.requires.over in
    let u = rw c.in-Mul.is at c.requires.under in
    let f = product_fits_left (ratio_of (tree_of c.in-Mul.a.value)) (ratio_of (tree_of c.in-Mul.b.value)) (o, u) in
    let size = ap (λ (e : Expr). nodes (tree_of e)) c.in-Mul.is in
    (rw c.deref-in-Mul.ensures (omega (arith, size)), (rw c.deref-in-Mul.ensures f.0, rw c.deref-in-Mul.ensures f.1))

pub ratio_of-requires-in-Mul-2 : goal.ratio_of-requires-in-Mul-2
ratio_of-requires-in-Mul-2 t c =
    let o = rw c.in-Mul.is at c.requires.over in
    let u = rw c.in-Mul.is at c.requires.under in
    let f = product_fits_right (ratio_of (tree_of c.in-Mul.a.value)) (ratio_of (tree_of c.in-Mul.b.value)) (o, u) in
    let size = ap (λ (e : Expr). nodes (tree_of e)) c.in-Mul.is in
    (rw c.deref-in-Mul-2.ensures (omega (arith, size)), (rw c.deref-in-Mul-2.ensures f.0, rw c.deref-in-Mul-2.ensures f.1))

pub ratio_of-requires-in-Div : goal.ratio_of-requires-in-Div
ratio_of-requires-in-Div t c =
    let o = rw c.in-Div.is at c.requires.over in
    let u = rw c.in-Div.is at c.requires.under in
    let f = product_fits_left (ratio_of (tree_of c.in-Div.a.value)) (turned (ratio_of (tree_of c.in-Div.b.value))) (o, u) in
    let size = ap (λ (e : Expr). nodes (tree_of e)) c.in-Div.is in
    (rw c.deref-in-Div.ensures (omega (arith, size)), (rw c.deref-in-Div.ensures f.0, rw c.deref-in-Div.ensures f.1))

pub ratio_of-requires-in-Div-2 : goal.ratio_of-requires-in-Div-2
ratio_of-requires-in-Div-2 t c =
    let o = rw c.in-Div.is at c.requires.over in
    let u = rw c.in-Div.is at c.requires.under in
    let g = product_fits_right (ratio_of (tree_of c.in-Div.a.value)) (turned (ratio_of (tree_of c.in-Div.b.value))) (o, u) in
    let f = turned_fits (ratio_of (tree_of c.in-Div.b.value)) g in
    let size = ap (λ (e : Expr). nodes (tree_of e)) c.in-Div.is in
    (rw c.deref-in-Div-2.ensures (omega (arith, size)), (rw c.deref-in-Div-2.ensures f.0, rw c.deref-in-Div-2.ensures f.1))

pub ratio_of-requires-in-Pow : goal.ratio_of-requires-in-Pow
ratio_of-requires-in-Pow t c =
    let o = rw c.in-Pow.is at c.requires.over in
    let u = rw c.in-Pow.is at c.requires.under in
    let f = power_fits (ratio_of (tree_of c.in-Pow.a.value)) c.in-Pow.e (omega arith) (o, u) in
    let size = ap (λ (e : Expr). nodes (tree_of e)) c.in-Pow.is in
    (rw c.deref-in-Pow.ensures (omega (arith, size)), (rw c.deref-in-Pow.ensures f.0, rw c.deref-in-Pow.ensures f.1))

pub sum-requires : goal.sum-requires
sum-requires t c =
    let o = rw c.in-Add.is at c.requires.over in
    let u = rw c.in-Add.is at c.requires.under in
    let x : AreRatio c.in_ok-x-in-Add.x.over c.in_ok-x-in-Add.x.under (ratio_of (tree_of c.in-Add.a.value)) = rw c.deref-in-Add.ensures at c.in_ok-x-in-Add.ensures in
    let y : AreRatio c.in_ok-y-in-Add.y.over c.in_ok-y-in-Add.y.under (ratio_of (tree_of c.in-Add.b.value)) = rw c.deref-in-Add-2.ensures at c.in_ok-y-in-Add.ensures in
    record {
      over = sum_over_light c.in_ok-x-in-Add.x.over c.in_ok-x-in-Add.x.under c.in_ok-y-in-Add.y.over c.in_ok-y-in-Add.y.under (ratio_of (tree_of c.in-Add.a.value)) (ratio_of (tree_of c.in-Add.b.value)) x y o;
      under = sum_under_light c.in_ok-x-in-Add.x.over c.in_ok-x-in-Add.x.under c.in_ok-y-in-Add.y.over c.in_ok-y-in-Add.y.under (ratio_of (tree_of c.in-Add.a.value)) (ratio_of (tree_of c.in-Add.b.value)) x y u;
    }

pub returns-in_ok-w-in-Add : goal.returns-in_ok-w-in-Add
returns-in_ok-w-in-Add t c =
    let x : AreRatio c.in_ok-x-in-Add.x.over c.in_ok-x-in-Add.x.under (ratio_of (tree_of c.in-Add.a.value)) = rw c.deref-in-Add.ensures at c.in_ok-x-in-Add.ensures in
    let y : AreRatio c.in_ok-y-in-Add.y.over c.in_ok-y-in-Add.y.under (ratio_of (tree_of c.in-Add.b.value)) = rw c.deref-in-Add-2.ensures at c.in_ok-y-in-Add.ensures in
    rw c.in-Add.is (sum_ratio c.in_ok-x-in-Add.x.over c.in_ok-x-in-Add.x.under c.in_ok-y-in-Add.y.over c.in_ok-y-in-Add.y.under (ratio_of (tree_of c.in-Add.a.value)) (ratio_of (tree_of c.in-Add.b.value)) x y c.in_ok-w-in-Add.w.over c.in_ok-w-in-Add.w.under c.in_ok-w-in-Add.ensures)

pub product-requires : goal.product-requires
product-requires t c =
    let o = rw c.in-Mul.is at c.requires.over in
    let u = rw c.in-Mul.is at c.requires.under in
    let x : AreRatio c.in_ok-x-in-Mul.x.over c.in_ok-x-in-Mul.x.under (ratio_of (tree_of c.in-Mul.a.value)) = rw c.deref-in-Mul.ensures at c.in_ok-x-in-Mul.ensures in
    let y : AreRatio c.in_ok-y-in-Mul.y.over c.in_ok-y-in-Mul.y.under (ratio_of (tree_of c.in-Mul.b.value)) = rw c.deref-in-Mul-2.ensures at c.in_ok-y-in-Mul.ensures in
    record {
      over = product_over_light c.in_ok-x-in-Mul.x.over c.in_ok-x-in-Mul.x.under c.in_ok-y-in-Mul.y.over c.in_ok-y-in-Mul.y.under (ratio_of (tree_of c.in-Mul.a.value)) (ratio_of (tree_of c.in-Mul.b.value)) x y o;
      under = sum_under_light c.in_ok-x-in-Mul.x.over c.in_ok-x-in-Mul.x.under c.in_ok-y-in-Mul.y.over c.in_ok-y-in-Mul.y.under (ratio_of (tree_of c.in-Mul.a.value)) (ratio_of (tree_of c.in-Mul.b.value)) x y u;
    }

pub returns-in_ok-w-in-Mul : goal.returns-in_ok-w-in-Mul
returns-in_ok-w-in-Mul t c =
    let x : AreRatio c.in_ok-x-in-Mul.x.over c.in_ok-x-in-Mul.x.under (ratio_of (tree_of c.in-Mul.a.value)) = rw c.deref-in-Mul.ensures at c.in_ok-x-in-Mul.ensures in
    let y : AreRatio c.in_ok-y-in-Mul.y.over c.in_ok-y-in-Mul.y.under (ratio_of (tree_of c.in-Mul.b.value)) = rw c.deref-in-Mul-2.ensures at c.in_ok-y-in-Mul.ensures in
    rw c.in-Mul.is (product_ratio c.in_ok-x-in-Mul.x.over c.in_ok-x-in-Mul.x.under c.in_ok-y-in-Mul.y.over c.in_ok-y-in-Mul.y.under (ratio_of (tree_of c.in-Mul.a.value)) (ratio_of (tree_of c.in-Mul.b.value)) x y c.in_ok-w-in-Mul.w.over c.in_ok-w-in-Mul.w.under c.in_ok-w-in-Mul.ensures)

pub quotient-requires : goal.quotient-requires
quotient-requires t c =
    let o = rw c.in-Div.is at c.requires.over in
    let u = rw c.in-Div.is at c.requires.under in
    let x : AreRatio c.in_ok-x-in-Div.x.over c.in_ok-x-in-Div.x.under (ratio_of (tree_of c.in-Div.a.value)) = rw c.deref-in-Div.ensures at c.in_ok-x-in-Div.ensures in
    let y : AreRatio c.in_ok-y-in-Div.y.over c.in_ok-y-in-Div.y.under (ratio_of (tree_of c.in-Div.b.value)) = rw c.deref-in-Div-2.ensures at c.in_ok-y-in-Div.ensures in
    let z = turned_ratio c.in_ok-y-in-Div.y.over c.in_ok-y-in-Div.y.under (ratio_of (tree_of c.in-Div.b.value)) y in
    record {
      over = product_over_light c.in_ok-x-in-Div.x.over c.in_ok-x-in-Div.x.under c.in_ok-y-in-Div.y.under c.in_ok-y-in-Div.y.over (ratio_of (tree_of c.in-Div.a.value)) (turned (ratio_of (tree_of c.in-Div.b.value))) x z o;
      under = sum_under_light c.in_ok-x-in-Div.x.over c.in_ok-x-in-Div.x.under c.in_ok-y-in-Div.y.under c.in_ok-y-in-Div.y.over (ratio_of (tree_of c.in-Div.a.value)) (turned (ratio_of (tree_of c.in-Div.b.value))) x z u;
    }

pub returns-in_ok-w-in-Div : goal.returns-in_ok-w-in-Div
returns-in_ok-w-in-Div t c =
    let x : AreRatio c.in_ok-x-in-Div.x.over c.in_ok-x-in-Div.x.under (ratio_of (tree_of c.in-Div.a.value)) = rw c.deref-in-Div.ensures at c.in_ok-x-in-Div.ensures in
    let y : AreRatio c.in_ok-y-in-Div.y.over c.in_ok-y-in-Div.y.under (ratio_of (tree_of c.in-Div.b.value)) = rw c.deref-in-Div-2.ensures at c.in_ok-y-in-Div.ensures in
    let z = turned_ratio c.in_ok-y-in-Div.y.over c.in_ok-y-in-Div.y.under (ratio_of (tree_of c.in-Div.b.value)) y in
    rw c.in-Div.is (product_ratio c.in_ok-x-in-Div.x.over c.in_ok-x-in-Div.x.under c.in_ok-y-in-Div.y.under c.in_ok-y-in-Div.y.over (ratio_of (tree_of c.in-Div.a.value)) (turned (ratio_of (tree_of c.in-Div.b.value))) x z c.in_ok-w-in-Div.w.over c.in_ok-w-in-Div.w.under c.in_ok-w-in-Div.ensures)

pub opposite-requires : goal.opposite-requires
opposite-requires t c =
    let o = rw c.in-Neg.is at c.requires.over in
    let x : AreRatio c.in_ok-x-in-Neg.x.over c.in_ok-x-in-Neg.x.under (ratio_of (tree_of c.in-Neg.a.value)) = rw c.deref.ensures at c.in_ok-x-in-Neg.ensures in
    ratio_light c.in_ok-x-in-Neg.x.over (ratio_of (tree_of c.in-Neg.a.value)).over x.over o

pub returns-in_ok-w-in-Neg : goal.returns-in_ok-w-in-Neg
returns-in_ok-w-in-Neg t c =
    let x : AreRatio c.in_ok-x-in-Neg.x.over c.in_ok-x-in-Neg.x.under (ratio_of (tree_of c.in-Neg.a.value)) = rw c.deref.ensures at c.in_ok-x-in-Neg.ensures in
    rw c.in-Neg.is (opposite_ratio c.in_ok-x-in-Neg.x.over c.in_ok-x-in-Neg.x.under c.in_ok-w-in-Neg.w.over c.in_ok-w-in-Neg.w.under (ratio_of (tree_of c.in-Neg.a.value)) x c.in_ok-w-in-Neg.ensures)

pub power-requires : goal.power-requires
power-requires t c =
    let o = rw c.in-Pow.is at c.requires.over in
    let u = rw c.in-Pow.is at c.requires.under in
    let x : AreRatio c.in_ok-x-in-Pow.x.over c.in_ok-x-in-Pow.x.under (ratio_of (tree_of c.in-Pow.a.value)) = rw c.deref-in-Pow.ensures at c.in_ok-x-in-Pow.ensures in
    record {
      over = power_light c.in_ok-x-in-Pow.x.over (ratio_of (tree_of c.in-Pow.a.value)).over c.in-Pow.e x.over o;
      under = power_light c.in_ok-x-in-Pow.x.under (ratio_of (tree_of c.in-Pow.a.value)).under c.in-Pow.e x.under u;
    }

pub returns-in_ok-w-in-Pow-2 : goal.returns-in_ok-w-in-Pow-2
returns-in_ok-w-in-Pow-2 t c =
    let x : AreRatio c.in_ok-x-in-Pow.x.over c.in_ok-x-in-Pow.x.under (ratio_of (tree_of c.in-Pow.a.value)) = rw c.deref-in-Pow.ensures at c.in_ok-x-in-Pow.ensures in
    rw c.in-Pow.is (power_ratio c.in_ok-x-in-Pow.x.over c.in_ok-x-in-Pow.x.under c.in_ok-w-in-Pow-2.w.over c.in_ok-w-in-Pow-2.w.under (ratio_of (tree_of c.in-Pow.a.value)) x c.in-Pow.e c.in_ok-w-in-Pow-2.ensures)
