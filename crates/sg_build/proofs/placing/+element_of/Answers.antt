use Rattle.std.proofs.Common.{◌++◌, List, map, sym, ap, subst, arith}
use Rattle.std.proofs.lemmas.List.{length-map}
use Rattle.sg_spec.specs.Limits.{nodes}
use Rattle.sg_spec.specs.Tree.{Tree}
use Rattle.sg_expr.specs.Tree.{tree_of}
use Rattle.sg_expr.specs.declared.tree.Expr.{Expr}
use Rattle.sg_build.specs.Letters.{letter}
use Rattle.sg_build.specs.Points.{IsPlaced}
use Rattle.sg_build.specs.Placed.{IsPlaceable, IsInvertible, IsInverted}
use Rattle.sg_build.proofs.PlacedParts.{items-length, placeable-sum, placeable-product, placeable-quotient, placeable-opposite, placeable-power, item-left, placed-item, placed-polynomial, placed-sum, placed-opposite, placed-product, placed-quotient, placed-power, placed-one}
use Rattle.sg_build.proofs.placing.+element_of.Goals as goal

pub returns-in_ok-r-in-Num-clause-value : goal.returns-in_ok-r-in-Num-clause-value
returns-in_ok-r-in-Num-clause-value g t c =
    let l = letter g.K.Field.vars in
    let ρ = g.T.Tower.reading g.K.Field.vars g.K.Field.val c.args.tower.now in
    let gens : List Tree = map tree_of c.args.prods.now ++ map tree_of c.args.sums.now in
    let xs = c.args.known.now in
    placed-polynomial l ρ gens xs (tree_of c.args.e.now) c.in_ok-r-in-Num.r c.in_ok-r-in-Num.ensures.value

pub returns-in_ok-r-in-Here-clause-value : goal.returns-in_ok-r-in-Here-clause-value
returns-in_ok-r-in-Here-clause-value g t c =
    let l = letter g.K.Field.vars in
    let ρ = g.T.Tower.reading g.K.Field.vars g.K.Field.val c.args.tower.now in
    let gens : List Tree = map tree_of c.args.prods.now ++ map tree_of c.args.sums.now in
    let xs = c.args.known.now in
    placed-polynomial l ρ gens xs (tree_of c.args.e.now) c.in_ok-r-in-Here.r c.in_ok-r-in-Here.ensures.value

pub returns-in_ok-r-in-Param-clause-value : goal.returns-in_ok-r-in-Param-clause-value
returns-in_ok-r-in-Param-clause-value g t c =
    let l = letter g.K.Field.vars in
    let ρ = g.T.Tower.reading g.K.Field.vars g.K.Field.val c.args.tower.now in
    let gens : List Tree = map tree_of c.args.prods.now ++ map tree_of c.args.sums.now in
    let xs = c.args.known.now in
    placed-polynomial l ρ gens xs (tree_of c.args.e.now) c.in_ok-r-in-Param.r c.in_ok-r-in-Param.ensures.value

pub returns-in_ok-r-in-Add-clause-value : goal.returns-in_ok-r-in-Add-clause-value
returns-in_ok-r-in-Add-clause-value g t c =
    let l = letter g.K.Field.vars in
    let ρ = g.T.Tower.reading g.K.Field.vars g.K.Field.val c.args.tower.now in
    let gens : List Tree = map tree_of c.args.prods.now ++ map tree_of c.args.sums.now in
    let xs = c.args.known.now in
    let hx = subst (λ (e : Tree). IsPlaced l ρ gens xs e c.in_ok-x-in-Add.x) (ap tree_of c.deref.ensures) c.in_ok-x-in-Add.ensures.value in
    let hy = subst (λ (e : Tree). IsPlaced l ρ gens xs e c.in_ok-y-in-Add.y) (ap tree_of c.deref-in-Add.ensures) c.in_ok-y-in-Add.ensures.value in
    rw c.in-Add.is (placed-sum l ρ gens xs (tree_of c.in-Add.a.value) (tree_of c.in-Add.b.value) c.in_ok-x-in-Add.x c.in_ok-y-in-Add.y c.in_ok-r-in-Add.r hx hy c.in_ok-r-in-Add.ensures.value)

pub returns-in_ok-r-in-Neg-clause-value : goal.returns-in_ok-r-in-Neg-clause-value
returns-in_ok-r-in-Neg-clause-value g t c =
    let l = letter g.K.Field.vars in
    let ρ = g.T.Tower.reading g.K.Field.vars g.K.Field.val c.args.tower.now in
    let gens : List Tree = map tree_of c.args.prods.now ++ map tree_of c.args.sums.now in
    let xs = c.args.known.now in
    let hx = subst (λ (e : Tree). IsPlaced l ρ gens xs e c.in_ok-x-in-Neg.x) (ap tree_of c.deref-in-Neg.ensures) c.in_ok-x-in-Neg.ensures.value in
    rw c.in-Neg.is (placed-opposite l ρ gens xs (tree_of c.in-Neg.a.value) c.in_ok-x-in-Neg.x c.in_ok-r-in-Neg.r hx c.in_ok-r-in-Neg.ensures.value)

pub returns-in_ok-r-in-Mul-clause-value : goal.returns-in_ok-r-in-Mul-clause-value
returns-in_ok-r-in-Mul-clause-value g t c =
    let l = letter g.K.Field.vars in
    let ρ = g.T.Tower.reading g.K.Field.vars g.K.Field.val c.args.tower.now in
    let gens : List Tree = map tree_of c.args.prods.now ++ map tree_of c.args.sums.now in
    let xs = c.args.known.now in
    let hx = subst (λ (e : Tree). IsPlaced l ρ gens xs e c.in_ok-x-in-Mul.x) (ap tree_of c.deref-in-Mul.ensures) c.in_ok-x-in-Mul.ensures.value in
    let hy = subst (λ (e : Tree). IsPlaced l ρ gens xs e c.in_ok-y-in-Mul.y) (ap tree_of c.deref-in-Mul-2.ensures) c.in_ok-y-in-Mul.ensures.value in
    rw c.in-Mul.is (placed-product l ρ gens xs (tree_of c.in-Mul.a.value) (tree_of c.in-Mul.b.value) c.in_ok-x-in-Mul.x c.in_ok-y-in-Mul.y c.in_ok-r-in-Mul.r hx hy c.in_ok-r-in-Mul.ensures.value)

pub returns-in_ok-r-in-Div-clause-value : goal.returns-in_ok-r-in-Div-clause-value
returns-in_ok-r-in-Div-clause-value g t c =
    let l = letter g.K.Field.vars in
    let ρ = g.T.Tower.reading g.K.Field.vars g.K.Field.val c.args.tower.now in
    let gens : List Tree = map tree_of c.args.prods.now ++ map tree_of c.args.sums.now in
    let xs = c.args.known.now in
    let hx = subst (λ (e : Tree). IsPlaced l ρ gens xs e c.in_ok-x-in-Div.x) (ap tree_of c.deref-in-Div.ensures) c.in_ok-x-in-Div.ensures.value in
    let hz = subst (λ (e : Tree). IsInverted l ρ gens xs e c.in_ok-z-in-Div.z) (ap tree_of c.deref-in-Div-2.ensures) c.in_ok-z-in-Div.ensures.value in
    rw c.in-Div.is (placed-quotient l ρ gens xs (tree_of c.in-Div.a.value) (tree_of c.in-Div.b.value) c.in_ok-x-in-Div.x c.in_ok-z-in-Div.z c.in_ok-r-in-Div.r hx hz c.in_ok-r-in-Div.ensures.value)

pub returns-then-e-eq0-clause-value : goal.returns-then-e-eq0-clause-value
returns-then-e-eq0-clause-value g t c =
    let l = letter g.K.Field.vars in
    let ρ = g.T.Tower.reading g.K.Field.vars g.K.Field.val c.args.tower.now in
    let gens : List Tree = map tree_of c.args.prods.now ++ map tree_of c.args.sums.now in
    let xs = c.args.known.now in
    rw c.in-Pow.is (placed-one l ρ gens xs (tree_of c.in-Pow.a.value) c.in-Pow.e c.in_ok-r-in-Pow.r c.if-e-eq0.true c.in_ok-r-in-Pow.ensures.value)

pub returns-in_ok-r-in-Pow-2-clause-value : goal.returns-in_ok-r-in-Pow-2-clause-value
returns-in_ok-r-in-Pow-2-clause-value g t c =
    let l = letter g.K.Field.vars in
    let ρ = g.T.Tower.reading g.K.Field.vars g.K.Field.val c.args.tower.now in
    let gens : List Tree = map tree_of c.args.prods.now ++ map tree_of c.args.sums.now in
    let xs = c.args.known.now in
    let hx = subst (λ (e : Tree). IsPlaced l ρ gens xs e c.in_ok-x-in-Pow.x) (ap tree_of c.deref-in-Pow.ensures) c.in_ok-x-in-Pow.ensures.value in
    rw c.in-Pow.is (placed-power l ρ gens xs (tree_of c.in-Pow.a.value) c.in-Pow.e c.in_ok-x-in-Pow.x c.in_ok-r-in-Pow-2.r hx c.in_ok-r-in-Pow-2.ensures.value)

pub returns-in_ok-r-in-Sum-clause-value : goal.returns-in_ok-r-in-Sum-clause-value
returns-in_ok-r-in-Sum-clause-value g t c =
    let l = letter g.K.Field.vars in
    let ρ = g.T.Tower.reading g.K.Field.vars g.K.Field.val c.args.tower.now in
    let gens : List Tree = map tree_of c.args.prods.now ++ map tree_of c.args.sums.now in
    let xs = c.args.known.now in
    placed-item l ρ gens xs (tree_of c.args.e.now) c.known_sum-x.result.now c.in_ok-r-in-Sum.r c.known_sum-x.ensures c.in_ok-r-in-Sum.ensures.value

pub returns-in_ok-r-in-Prod-clause-value : goal.returns-in_ok-r-in-Prod-clause-value
returns-in_ok-r-in-Prod-clause-value g t c =
    let l = letter g.K.Field.vars in
    let ρ = g.T.Tower.reading g.K.Field.vars g.K.Field.val c.args.tower.now in
    let gens : List Tree = map tree_of c.args.prods.now ++ map tree_of c.args.sums.now in
    let xs = c.args.known.now in
    placed-item l ρ gens xs (tree_of c.args.e.now) c.item_of-x.result.now c.in_ok-r-in-Prod.r (item-left (map tree_of c.args.prods.now) (map tree_of c.args.sums.now) xs (tree_of c.args.e.now) c.item_of-x.result.now c.item_of-x.ensures) c.in_ok-r-in-Prod.ensures.value

pub element_of-requires : goal.element_of-requires
element_of-requires g t c =
    let l = letter g.K.Field.vars in
    let ρ = g.T.Tower.reading g.K.Field.vars g.K.Field.val c.args.tower.now in
    let ps = map tree_of c.args.prods.now in
    let ss = map tree_of c.args.sums.now in
    let xs = c.args.known.now in
    let h = rw c.in-Add.is at c.requires in
    let size = ap (λ (e : Expr). nodes (tree_of e)) c.in-Add.is in
    λ κs within. (
      rw c.deref.ensures (omega (arith, size)),
      (within.0, (within.1.0, (within.1.1, subst (λ (e : Expr). IsPlaceable l ρ ps ss xs (tree_of e)) (sym c.deref.ensures) (placeable-sum l ρ ps ss xs (tree_of c.in-Add.a.value) (tree_of c.in-Add.b.value) h).0))),
    )

pub element_of-requires-in-Add : goal.element_of-requires-in-Add
element_of-requires-in-Add g t c =
    let l = letter g.K.Field.vars in
    let ρ = g.T.Tower.reading g.K.Field.vars g.K.Field.val c.args.tower.now in
    let ps = map tree_of c.args.prods.now in
    let ss = map tree_of c.args.sums.now in
    let xs = c.args.known.now in
    let h = rw c.in-Add.is at c.requires in
    let size = ap (λ (e : Expr). nodes (tree_of e)) c.in-Add.is in
    λ κs within. (
      rw c.deref-in-Add.ensures (omega (arith, size)),
      (within.0, (within.1.0, (within.1.1, subst (λ (e : Expr). IsPlaceable l ρ ps ss xs (tree_of e)) (sym c.deref-in-Add.ensures) (placeable-sum l ρ ps ss xs (tree_of c.in-Add.a.value) (tree_of c.in-Add.b.value) h).1))),
    )

pub element_of-requires-in-Neg : goal.element_of-requires-in-Neg
element_of-requires-in-Neg g t c =
    let l = letter g.K.Field.vars in
    let ρ = g.T.Tower.reading g.K.Field.vars g.K.Field.val c.args.tower.now in
    let ps = map tree_of c.args.prods.now in
    let ss = map tree_of c.args.sums.now in
    let xs = c.args.known.now in
    let h = rw c.in-Neg.is at c.requires in
    let size = ap (λ (e : Expr). nodes (tree_of e)) c.in-Neg.is in
    λ κs within. (
      rw c.deref-in-Neg.ensures (omega (arith, size)),
      (within.0, (within.1.0, (within.1.1, subst (λ (e : Expr). IsPlaceable l ρ ps ss xs (tree_of e)) (sym c.deref-in-Neg.ensures) (placeable-opposite l ρ ps ss xs (tree_of c.in-Neg.a.value) h)))),
    )

pub element_of-requires-in-Mul : goal.element_of-requires-in-Mul
element_of-requires-in-Mul g t c =
    let l = letter g.K.Field.vars in
    let ρ = g.T.Tower.reading g.K.Field.vars g.K.Field.val c.args.tower.now in
    let ps = map tree_of c.args.prods.now in
    let ss = map tree_of c.args.sums.now in
    let xs = c.args.known.now in
    let h = rw c.in-Mul.is at c.requires in
    let size = ap (λ (e : Expr). nodes (tree_of e)) c.in-Mul.is in
    λ κs within. (
      rw c.deref-in-Mul.ensures (omega (arith, size)),
      (within.0, (within.1.0, (within.1.1, subst (λ (e : Expr). IsPlaceable l ρ ps ss xs (tree_of e)) (sym c.deref-in-Mul.ensures) (placeable-product l ρ ps ss xs (tree_of c.in-Mul.a.value) (tree_of c.in-Mul.b.value) h).0))),
    )

pub element_of-requires-in-Mul-2 : goal.element_of-requires-in-Mul-2
element_of-requires-in-Mul-2 g t c =
    let l = letter g.K.Field.vars in
    let ρ = g.T.Tower.reading g.K.Field.vars g.K.Field.val c.args.tower.now in
    let ps = map tree_of c.args.prods.now in
    let ss = map tree_of c.args.sums.now in
    let xs = c.args.known.now in
    let h = rw c.in-Mul.is at c.requires in
    let size = ap (λ (e : Expr). nodes (tree_of e)) c.in-Mul.is in
    λ κs within. (
      rw c.deref-in-Mul-2.ensures (omega (arith, size)),
      (within.0, (within.1.0, (within.1.1, subst (λ (e : Expr). IsPlaceable l ρ ps ss xs (tree_of e)) (sym c.deref-in-Mul-2.ensures) (placeable-product l ρ ps ss xs (tree_of c.in-Mul.a.value) (tree_of c.in-Mul.b.value) h).1))),
    )

pub element_of-requires-in-Div : goal.element_of-requires-in-Div
element_of-requires-in-Div g t c =
    let l = letter g.K.Field.vars in
    let ρ = g.T.Tower.reading g.K.Field.vars g.K.Field.val c.args.tower.now in
    let ps = map tree_of c.args.prods.now in
    let ss = map tree_of c.args.sums.now in
    let xs = c.args.known.now in
    let h = rw c.in-Div.is at c.requires in
    let size = ap (λ (e : Expr). nodes (tree_of e)) c.in-Div.is in
    λ κs within. (
      rw c.deref-in-Div.ensures (omega (arith, size)),
      (within.0, (within.1.0, (within.1.1, subst (λ (e : Expr). IsPlaceable l ρ ps ss xs (tree_of e)) (sym c.deref-in-Div.ensures) (placeable-quotient l ρ ps ss xs (tree_of c.in-Div.a.value) (tree_of c.in-Div.b.value) h).0))),
    )

pub element_of-requires-in-Pow : goal.element_of-requires-in-Pow
element_of-requires-in-Pow g t c =
    let l = letter g.K.Field.vars in
    let ρ = g.T.Tower.reading g.K.Field.vars g.K.Field.val c.args.tower.now in
    let ps = map tree_of c.args.prods.now in
    let ss = map tree_of c.args.sums.now in
    let xs = c.args.known.now in
    let h = rw c.in-Pow.is at c.requires in
    let size = ap (λ (e : Expr). nodes (tree_of e)) c.in-Pow.is in
    λ κs within. (
      rw c.deref-in-Pow.ensures (omega (arith, size)),
      (within.0, (within.1.0, (within.1.1, subst (λ (e : Expr). IsPlaceable l ρ ps ss xs (tree_of e)) (sym c.deref-in-Pow.ensures) (placeable-power l ρ ps ss xs (tree_of c.in-Pow.a.value) c.in-Pow.e h)))),
    )

pub inverse-requires : goal.inverse-requires
inverse-requires g t c =
    let l = letter g.K.Field.vars in
    let ρ = g.T.Tower.reading g.K.Field.vars g.K.Field.val c.args.tower.now in
    let ps = map tree_of c.args.prods.now in
    let ss = map tree_of c.args.sums.now in
    let xs = c.args.known.now in
    let h = rw c.in-Div.is at c.requires in
    subst (λ (e : Expr). IsInvertible l ρ ps ss xs (tree_of e)) (sym c.deref-in-Div-2.ensures) (placeable-quotient l ρ ps ss xs (tree_of c.in-Div.a.value) (tree_of c.in-Div.b.value) h).1

pub polynomial-requires : goal.polynomial-requires
polynomial-requires g t c = record { polynomial = rw c.in-Num.is tt; no_letter = c.requires.no_letter }

pub polynomial-requires-in-Here : goal.polynomial-requires-in-Here
polynomial-requires-in-Here g t c = record { polynomial = rw c.in-Here.is tt; no_letter = c.requires.no_letter }

pub polynomial-requires-in-Param : goal.polynomial-requires-in-Param
polynomial-requires-in-Param g t c = record { polynomial = rw c.in-Param.is tt; no_letter = c.requires.no_letter }

pub known_sum-x-requires-clause-one_each : goal.known_sum-x-requires-clause-one_each
known_sum-x-requires-clause-one_each g t c =
    let l = letter g.K.Field.vars in
    let ρ = g.T.Tower.reading g.K.Field.vars g.K.Field.val c.args.tower.now in
    let ps = map tree_of c.args.prods.now in
    let ss = map tree_of c.args.sums.now in
    let xs = c.args.known.now in
    let m = items-length l ρ ps ss xs (tree_of c.args.e.now) c.requires in
    let n = length-map c.args.prods.now tree_of in
    let k = length-map c.args.sums.now tree_of in
    omega (arith, m, n, k)

pub item_of-x-requires-clause-enough : goal.item_of-x-requires-clause-enough
item_of-x-requires-clause-enough g t c =
    let l = letter g.K.Field.vars in
    let ρ = g.T.Tower.reading g.K.Field.vars g.K.Field.val c.args.tower.now in
    let ps = map tree_of c.args.prods.now in
    let ss = map tree_of c.args.sums.now in
    let xs = c.args.known.now in
    let m = items-length l ρ ps ss xs (tree_of c.args.e.now) c.requires in
    let n = length-map c.args.prods.now tree_of in
    omega (arith, m, n)
