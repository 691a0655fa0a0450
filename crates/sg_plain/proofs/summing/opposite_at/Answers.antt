use Rattle.std.proofs.Common.{◌≤◌, ◌*◌, ◌^◌, length, unsigned_abs, ◌∙◌, sym, subst, arith, rules, FitsSigned}
use Rattle.std.proofs.lemmas.Int.{to_z-of_z}
use Rattle.std.specs.Int.{w128}
use Rattle.sg_plain.proofs.Sizes.{power-66-five, power-66-all, horner-term, opposite-size}
use Rattle.sg_plain.proofs.summing.opposite_at.Goals as goal

pub multiplied-requires-clause-right : goal.multiplied-requires-clause-right
multiplied-requires-clause-right c =
    let fits : FitsSigned w128 c.at.result = search rules in
    let p = power-66-five (length c.args.terms.now) c.requires.few in
    let s = c.at.ensures.size in
    subst (λ z. unsigned_abs z ≤ 316912650057057350374175801344) (sym (to_z-of_z w128 c.at.result fits)) (omega (arith, p, s))

pub opposite-requires : goal.opposite-requires
opposite-requires c =
    let fits : FitsSigned w128 c.multiplied.result = search rules in
    let fits-x : FitsSigned w128 c.args.x = search rules in
    let fits-v : FitsSigned w128 c.at.result = search rules in
    let e = simp to_z-of_z at c.multiplied.ensures in
    let p = power-66-five (length c.args.terms.now) c.requires.few in
    let s = horner-term c.args.x c.at.result (length c.args.terms.now) c.requires.near c.at.ensures.size in
    subst (λ z. unsigned_abs z ≤ 42535295865117307932921825928971026432) (sym (to_z-of_z w128 c.multiplied.result fits ∙ e)) (omega (arith, p, s))

pub returns-clause-size : goal.returns-clause-size
returns-clause-size c =
    let fits : FitsSigned w128 c.opposite.result = search rules in
    let fits-m : FitsSigned w128 c.multiplied.result = search rules in
    let fits-x : FitsSigned w128 c.args.x = search rules in
    let fits-v : FitsSigned w128 c.at.result = search rules in
    let o = simp to_z-of_z at c.opposite.ensures in
    let e = simp to_z-of_z at c.multiplied.ensures in
    let p = power-66-all (length c.args.terms.now) c.requires.few in
    let s = horner-term c.args.x c.at.result (length c.args.terms.now) c.requires.near c.at.ensures.size in
    let t = subst (λ z. unsigned_abs z ≤ 65 * (2305843009213693952 * 66 ^ length c.args.terms.now)) (sym e) s in
    subst (λ z. unsigned_abs z ≤ 1267650600228229401496703205376) (sym (to_z-of_z w128 c.opposite.result fits
    ∙ o)) (opposite-size c.multiplied.result (omega (arith, p, t)))
