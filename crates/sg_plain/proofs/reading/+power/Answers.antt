use Rattle.std.proofs.Common.{◌+◌, ◌/◌, ◌≤◌, ◌*ℤ◌, unsigned_abs, sym, subst, ap, ◌∙◌, arith, rules, FitsSigned}
use Rattle.std.proofs.lemmas.Int.{to_z-of_z}
use Rattle.std.specs.Int.{w128}
use Rattle.sg_plain.proofs.Bounds.{power-twice, power-even, power-odd, base-small}
use Rattle.sg_plain.proofs.reading.+power.Goals as goal

pub multiplied-requires-clause-left : goal.multiplied-requires-clause-left
multiplied-requires-clause-left t c =
    let fits-v : FitsSigned w128 c.args.v = search rules in
    let fits-h : FitsSigned w128 c.power-half.result = search rules in
    let fits-s : FitsSigned w128 c.multiplied-square.result = search rules in
    let h = simp to_z-of_z at c.power-half.ensures in
    let s = simp to_z-of_z at c.multiplied-square.ensures in
    subst (λ z. unsigned_abs z ≤ 67108864) (sym (to_z-of_z w128 c.multiplied-square.result fits-s ∙ s ∙ power-twice c.args.v c.power-half.result c.args.n h))
    (c.requires (c.args.n / 2 + c.args.n / 2) (omega arith))

pub multiplied-requires-clause-right : goal.multiplied-requires-clause-right
multiplied-requires-clause-right t c =
    let fits-v : FitsSigned w128 c.args.v = search rules in
    let s = base-small c.args.v c.args.n c.if-n-eq0.false c.requires in
    subst (λ z. unsigned_abs z ≤ 316912650057057350374175801344) (sym (to_z-of_z w128 c.args.v fits-v)) (omega (arith, s))

pub returns-then-n-eq0-2 : goal.returns-then-n-eq0-2
returns-then-n-eq0-2 t c =
    let fits-v : FitsSigned w128 c.args.v = search rules in
    let fits-h : FitsSigned w128 c.power-half.result = search rules in
    let fits-s : FitsSigned w128 c.multiplied-square.result = search rules in
    let h = simp to_z-of_z at c.power-half.ensures in
    let s = simp to_z-of_z at c.multiplied-square.ensures in
    to_z-of_z w128 c.multiplied-square.result fits-s ∙ s ∙ power-even c.args.v c.power-half.result c.args.n c.if-n-eq0-2.true h

pub returns-else-n-eq0-2 : goal.returns-else-n-eq0-2
returns-else-n-eq0-2 t c =
    let fits-v : FitsSigned w128 c.args.v = search rules in
    let fits-h : FitsSigned w128 c.power-half.result = search rules in
    let fits-s : FitsSigned w128 c.multiplied-square.result = search rules in
    let fits-m : FitsSigned w128 c.multiplied.result = search rules in
    let h = simp to_z-of_z at c.power-half.ensures in
    let s = simp to_z-of_z at c.multiplied-square.ensures in
    let m = simp to_z-of_z at c.multiplied.ensures in
    to_z-of_z w128 c.multiplied.result fits-m ∙ m ∙ ap (λ z. z *ℤ c.args.v) s ∙ power-odd c.args.v c.power-half.result c.args.n c.if-n-eq0-2.false h
