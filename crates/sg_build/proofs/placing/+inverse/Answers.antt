use Rattle.std.proofs.Common.{◌++◌, List, map, sym, ap, subst, arith}
use Rattle.std.proofs.lemmas.List.{length-map}
use Rattle.sg_spec.specs.Limits.{nodes}
use Rattle.sg_spec.specs.Tree.{Tree}
use Rattle.sg_expr.specs.Tree.{tree_of}
use Rattle.sg_expr.specs.declared.tree.Expr.{Expr}
use Rattle.sg_build.specs.Letters.{letter}
use Rattle.sg_build.specs.Placed.{IsInvertible, IsInverted}
use Rattle.sg_build.proofs.PlacedParts.{item-left}
use Rattle.sg_build.proofs.InvertedParts.{invertible-length, polynomial-some, invertible-opposite, invertible-product, invertible-power, item-unit, inverted-item, inverted-polynomial, inverted-opposite, inverted-product, inverted-power, inverted-one}
use Rattle.sg_build.proofs.placing.+inverse.Goals as goal

pub returns-in_ok-r-in-Num-clause-value : goal.returns-in_ok-r-in-Num-clause-value
returns-in_ok-r-in-Num-clause-value g t c =
    let l = letter g.K.Field.vars in
    let ρ = g.T.Tower.reading g.K.Field.vars g.K.Field.val c.args.tower.now in
    let gens : List Tree = map tree_of c.args.prods.now ++ map tree_of c.args.sums.now in
    let xs = c.args.known.now in
    inverted-polynomial l ρ gens xs (tree_of c.args.e.now) c.in_ok-r-in-Num.r c.in_ok-r-in-Num.ensures.value

pub returns-in_ok-r-in-Here-clause-value : goal.returns-in_ok-r-in-Here-clause-value
returns-in_ok-r-in-Here-clause-value g t c =
    let l = letter g.K.Field.vars in
    let ρ = g.T.Tower.reading g.K.Field.vars g.K.Field.val c.args.tower.now in
    let gens : List Tree = map tree_of c.args.prods.now ++ map tree_of c.args.sums.now in
    let xs = c.args.known.now in
    inverted-polynomial l ρ gens xs (tree_of c.args.e.now) c.in_ok-r-in-Here.r c.in_ok-r-in-Here.ensures.value

pub returns-in_ok-r-in-Param-clause-value : goal.returns-in_ok-r-in-Param-clause-value
returns-in_ok-r-in-Param-clause-value g t c =
    let l = letter g.K.Field.vars in
    let ρ = g.T.Tower.reading g.K.Field.vars g.K.Field.val c.args.tower.now in
    let gens : List Tree = map tree_of c.args.prods.now ++ map tree_of c.args.sums.now in
    let xs = c.args.known.now in
    inverted-polynomial l ρ gens xs (tree_of c.args.e.now) c.in_ok-r-in-Param.r c.in_ok-r-in-Param.ensures.value

pub returns-in_ok-r-in-Add-clause-value : goal.returns-in_ok-r-in-Add-clause-value
returns-in_ok-r-in-Add-clause-value g t c =
    let l = letter g.K.Field.vars in
    let ρ = g.T.Tower.reading g.K.Field.vars g.K.Field.val c.args.tower.now in
    let gens : List Tree = map tree_of c.args.prods.now ++ map tree_of c.args.sums.now in
    let xs = c.args.known.now in
    inverted-polynomial l ρ gens xs (tree_of c.args.e.now) c.in_ok-r-in-Add.r c.in_ok-r-in-Add.ensures.value

pub returns-in_ok-r-in-Neg-clause-value : goal.returns-in_ok-r-in-Neg-clause-value
returns-in_ok-r-in-Neg-clause-value g t c =
    let l = letter g.K.Field.vars in
    let ρ = g.T.Tower.reading g.K.Field.vars g.K.Field.val c.args.tower.now in
    let gens : List Tree = map tree_of c.args.prods.now ++ map tree_of c.args.sums.now in
    let xs = c.args.known.now in
    let hz = subst (λ (e : Tree). IsInverted l ρ gens xs e c.in_ok-z-in-Neg.z) (ap tree_of c.deref.ensures) c.in_ok-z-in-Neg.ensures.value in
    rw c.in-Neg.is (inverted-opposite l ρ gens xs (tree_of c.in-Neg.a.value) c.in_ok-z-in-Neg.z c.in_ok-r-in-Neg.r hz c.in_ok-r-in-Neg.ensures.value)

pub returns-in_ok-r-in-Mul-clause-value : goal.returns-in_ok-r-in-Mul-clause-value
returns-in_ok-r-in-Mul-clause-value g t c =
    let l = letter g.K.Field.vars in
    let ρ = g.T.Tower.reading g.K.Field.vars g.K.Field.val c.args.tower.now in
    let gens : List Tree = map tree_of c.args.prods.now ++ map tree_of c.args.sums.now in
    let xs = c.args.known.now in
    let hx = subst (λ (e : Tree). IsInverted l ρ gens xs e c.in_ok-x-in-Mul.x) (ap tree_of c.deref-in-Mul.ensures) c.in_ok-x-in-Mul.ensures.value in
    let hy = subst (λ (e : Tree). IsInverted l ρ gens xs e c.in_ok-y-in-Mul.y) (ap tree_of c.deref-in-Mul-2.ensures) c.in_ok-y-in-Mul.ensures.value in
    rw c.in-Mul.is (inverted-product l ρ gens xs (tree_of c.in-Mul.a.value) (tree_of c.in-Mul.b.value) c.in_ok-x-in-Mul.x c.in_ok-y-in-Mul.y c.in_ok-r-in-Mul.r hx hy c.in_ok-r-in-Mul.ensures.value)

pub returns-then-e-eq0-clause-value : goal.returns-then-e-eq0-clause-value
returns-then-e-eq0-clause-value g t c =
    let l = letter g.K.Field.vars in
    let ρ = g.T.Tower.reading g.K.Field.vars g.K.Field.val c.args.tower.now in
    let gens : List Tree = map tree_of c.args.prods.now ++ map tree_of c.args.sums.now in
    let xs = c.args.known.now in
    rw c.in-Pow.is (inverted-one l ρ gens xs (tree_of c.in-Pow.a.value) c.in-Pow.e c.in_ok-r-in-Pow.r c.if-e-eq0.true c.in_ok-r-in-Pow.ensures.value)

pub returns-in_ok-r-in-Pow-2-clause-value : goal.returns-in_ok-r-in-Pow-2-clause-value
returns-in_ok-r-in-Pow-2-clause-value g t c =
    let l = letter g.K.Field.vars in
    let ρ = g.T.Tower.reading g.K.Field.vars g.K.Field.val c.args.tower.now in
    let gens : List Tree = map tree_of c.args.prods.now ++ map tree_of c.args.sums.now in
    let xs = c.args.known.now in
    let hz = subst (λ (e : Tree). IsInverted l ρ gens xs e c.in_ok-z-in-Pow.z) (ap tree_of c.deref-in-Pow.ensures) c.in_ok-z-in-Pow.ensures.value in
    rw c.in-Pow.is (inverted-power l ρ gens xs (tree_of c.in-Pow.a.value) c.in-Pow.e c.in_ok-z-in-Pow.z c.in_ok-r-in-Pow-2.r c.if-e-eq0.false hz c.in_ok-r-in-Pow-2.ensures.value)

pub inverse-requires : goal.inverse-requires
inverse-requires g t c =
    let l = letter g.K.Field.vars in
    let ρ = g.T.Tower.reading g.K.Field.vars g.K.Field.val c.args.tower.now in
    let ps = map tree_of c.args.prods.now in
    let ss = map tree_of c.args.sums.now in
    let xs = c.args.known.now in
    let h = rw c.in-Neg.is at c.requires in
    let size = ap (λ (e : Expr). nodes (tree_of e)) c.in-Neg.is in
    λ κs within. (
      rw c.deref.ensures (omega (arith, size)),
      (within.0, (within.1.0, (within.1.1, subst (λ (e : Expr). IsInvertible l ρ ps ss xs (tree_of e)) (sym c.deref.ensures) (invertible-opposite l ρ ps ss xs (tree_of c.in-Neg.a.value) h)))),
    )

pub inverse-requires-in-Mul : goal.inverse-requires-in-Mul
inverse-requires-in-Mul g t c =
    let l = letter g.K.Field.vars in
    let ρ = g.T.Tower.reading g.K.Field.vars g.K.Field.val c.args.tower.now in
    let ps = map tree_of c.args.prods.now in
    let ss = map tree_of c.args.sums.now in
    let xs = c.args.known.now in
    let h = rw c.in-Mul.is at c.requires in
    let size = ap (λ (e : Expr). nodes (tree_of e)) c.in-Mul.is in
    λ κs within. (
      rw c.deref-in-Mul.ensures (omega (arith, size)),
      (within.0, (within.1.0, (within.1.1, subst (λ (e : Expr). IsInvertible l ρ ps ss xs (tree_of e)) (sym c.deref-in-Mul.ensures) (invertible-product l ρ ps ss xs (tree_of c.in-Mul.a.value) (tree_of c.in-Mul.b.value) h).0))),
    )

pub inverse-requires-in-Mul-2 : goal.inverse-requires-in-Mul-2
inverse-requires-in-Mul-2 g t c =
    let l = letter g.K.Field.vars in
    let ρ = g.T.Tower.reading g.K.Field.vars g.K.Field.val c.args.tower.now in
    let ps = map tree_of c.args.prods.now in
    let ss = map tree_of c.args.sums.now in
    let xs = c.args.known.now in
    let h = rw c.in-Mul.is at c.requires in
    let size = ap (λ (e : Expr). nodes (tree_of e)) c.in-Mul.is in
    λ κs within. (
      rw c.deref-in-Mul-2.ensures (omega (arith, size)),
      (within.0, (within.1.0, (within.1.1, subst (λ (e : Expr). IsInvertible l ρ ps ss xs (tree_of e)) (sym c.deref-in-Mul-2.ensures) (invertible-product l ρ ps ss xs (tree_of c.in-Mul.a.value) (tree_of c.in-Mul.b.value) h).1))),
    )

pub inverse-requires-in-Pow : goal.inverse-requires-in-Pow
inverse-requires-in-Pow g t c =
    let l = letter g.K.Field.vars in
    let ρ = g.T.Tower.reading g.K.Field.vars g.K.Field.val c.args.tower.now in
    let ps = map tree_of c.args.prods.now in
    let ss = map tree_of c.args.sums.now in
    let xs = c.args.known.now in
    let h = rw c.in-Pow.is at c.requires in
    let size = ap (λ (e : Expr). nodes (tree_of e)) c.in-Pow.is in
    λ κs within. (
      rw c.deref-in-Pow.ensures (omega (arith, size)),
      (within.0, (within.1.0, (within.1.1, subst (λ (e : Expr). IsInvertible l ρ ps ss xs (tree_of e)) (sym c.deref-in-Pow.ensures) (invertible-power l ρ ps ss xs (tree_of c.in-Pow.a.value) c.in-Pow.e c.if-e-eq0.false h)))),
    )

pub over_polynomial-requires : goal.over_polynomial-requires
over_polynomial-requires g t c =
    let l = letter g.K.Field.vars in
    let ρ = g.T.Tower.reading g.K.Field.vars g.K.Field.val c.args.tower.now in
    let ps = map tree_of c.args.prods.now in
    let ss = map tree_of c.args.sums.now in
    let xs = c.args.known.now in
    record { polynomial = rw c.in-Num.is tt; no_letter = c.requires.no_letter; somewhere = polynomial-some l ρ ps ss xs (tree_of c.args.e.now) c.requires }

pub over_polynomial-requires-in-Here : goal.over_polynomial-requires-in-Here
over_polynomial-requires-in-Here g t c =
    let l = letter g.K.Field.vars in
    let ρ = g.T.Tower.reading g.K.Field.vars g.K.Field.val c.args.tower.now in
    let ps = map tree_of c.args.prods.now in
    let ss = map tree_of c.args.sums.now in
    let xs = c.args.known.now in
    record { polynomial = rw c.in-Here.is tt; no_letter = c.requires.no_letter; somewhere = polynomial-some l ρ ps ss xs (tree_of c.args.e.now) c.requires }

pub over_polynomial-requires-in-Param : goal.over_polynomial-requires-in-Param
over_polynomial-requires-in-Param g t c =
    let l = letter g.K.Field.vars in
    let ρ = g.T.Tower.reading g.K.Field.vars g.K.Field.val c.args.tower.now in
    let ps = map tree_of c.args.prods.now in
    let ss = map tree_of c.args.sums.now in
    let xs = c.args.known.now in
    record { polynomial = rw c.in-Param.is tt; no_letter = c.requires.no_letter; somewhere = polynomial-some l ρ ps ss xs (tree_of c.args.e.now) c.requires }

pub over_polynomial-requires-in-Add : goal.over_polynomial-requires-in-Add
over_polynomial-requires-in-Add g t c =
    let l = letter g.K.Field.vars in
    let ρ = g.T.Tower.reading g.K.Field.vars g.K.Field.val c.args.tower.now in
    let ps = map tree_of c.args.prods.now in
    let ss = map tree_of c.args.sums.now in
    let xs = c.args.known.now in
    record { polynomial = rw c.in-Add.is (rw c.in-Add.is at c.requires.divisor); no_letter = c.requires.no_letter; somewhere = polynomial-some l ρ ps ss xs (tree_of c.args.e.now) c.requires }

pub item_of-x-requires-clause-enough : goal.item_of-x-requires-clause-enough
item_of-x-requires-clause-enough g t c =
    let l = letter g.K.Field.vars in
    let ρ = g.T.Tower.reading g.K.Field.vars g.K.Field.val c.args.tower.now in
    let ps = map tree_of c.args.prods.now in
    let ss = map tree_of c.args.sums.now in
    let xs = c.args.known.now in
    let m = invertible-length l ρ ps ss xs (tree_of c.args.e.now) c.requires in
    let n = length-map c.args.prods.now tree_of in
    omega (arith, m, n)

pub unreachable-requires : goal.unreachable-requires
unreachable-requires g t c =
    let l = letter g.K.Field.vars in
    let ρ = g.T.Tower.reading g.K.Field.vars g.K.Field.val c.args.tower.now in
    let ps = map tree_of c.args.prods.now in
    let ss = map tree_of c.args.sums.now in
    let xs = c.args.known.now in
    let none = rw c.in-None.is at c.in_ok-found-in-Prod.ensures.none in
    let unit = item-unit l ρ ps ss xs (tree_of c.args.e.now) c.item_of-x.result.now c.requires c.item_of-x.ensures in
    none unit.0 unit.1

pub returns-in-Some-clause-value : goal.returns-in-Some-clause-value
returns-in-Some-clause-value g t c =
    let l = letter g.K.Field.vars in
    let ρ = g.T.Tower.reading g.K.Field.vars g.K.Field.val c.args.tower.now in
    let ps = map tree_of c.args.prods.now in
    let ss = map tree_of c.args.sums.now in
    let xs = c.args.known.now in
    inverted-item l ρ (ps ++ ss) xs (tree_of c.args.e.now) c.item_of-x.result.now c.in-Some.r
    (item-left ps ss xs (tree_of c.args.e.now) c.item_of-x.result.now c.item_of-x.ensures) (rw c.in-Some.is at c.in_ok-found-in-Prod.ensures.some)
