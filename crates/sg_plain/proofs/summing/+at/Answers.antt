use Rattle.std.proofs.Common.{◌≡◌, ◌≤◌, ◌*◌, ◌^◌, suc, length, unsigned_abs, ◌∙◌, ap, sym, subst, arith, rules, FitsSigned}
use Rattle.std.proofs.lemmas.Int.{to_z-of_z}
use Rattle.std.specs.Int.{w128}
use Rattle.sg_algebra.specs.Coefficients.{Each}
use Rattle.sg_plain.proofs.Sizes.{power-66, horner-term, horner-more}
use Rattle.sg_plain.proofs.summing.+at.Goals as goal

pub multiplied-requires-clause-right : goal.multiplied-requires-clause-right
multiplied-requires-clause-right t c =
    let fits : FitsSigned w128 c.at-v.result = search rules in
    let l : length c.args.terms.now ≡ suc (length c.in-Some.above.now) = ap length c.in-Some.ensures.cases.0 in
    let f = c.requires.few in
    let p = power-66 (length c.in-Some.above.now) (omega (arith, l, f)) in
    let s = c.at-v.ensures.size in
    subst (λ z. unsigned_abs z ≤ 316912650057057350374175801344) (sym (to_z-of_z w128 c.at-v.result fits)) (omega (arith, p, s))

pub plus-requires-clause-right : goal.plus-requires-clause-right
plus-requires-clause-right t c =
    let fits : FitsSigned w128 c.multiplied.result = search rules in
    let fits-x : FitsSigned w128 c.args.x = search rules in
    let fits-v : FitsSigned w128 c.at-v.result = search rules in
    let e = simp to_z-of_z at c.multiplied.ensures in
    let l : length c.args.terms.now ≡ suc (length c.in-Some.above.now) = ap length c.in-Some.ensures.cases.0 in
    let f = c.requires.few in
    let p = power-66 (length c.in-Some.above.now) (omega (arith, l, f)) in
    let s = horner-term c.args.x c.at-v.result (length c.in-Some.above.now) c.requires.near c.at-v.ensures.size in
    subst (λ z. unsigned_abs z ≤ 42535295865117307932921825928971026432) (sym (to_z-of_z w128 c.multiplied.result fits ∙ e)) (omega (arith, p, s))

pub returns-in-Some-clause-size : goal.returns-in-Some-clause-size
returns-in-Some-clause-size t c =
    let fits : FitsSigned w128 c.plus.result = search rules in
    let fits-m : FitsSigned w128 c.multiplied.result = search rules in
    let fits-c : FitsSigned w128 c.in-Some.c.now = search rules in
    let fits-x : FitsSigned w128 c.args.x = search rules in
    let fits-v : FitsSigned w128 c.at-v.result = search rules in
    let e = simp to_z-of_z at c.multiplied.ensures in
    let h = simp to_z-of_z at c.plus.ensures.size in
    let l : length c.args.terms.now ≡ suc (length c.in-Some.above.now) = ap length c.in-Some.ensures.cases.0 in
    let s = horner-term c.args.x c.at-v.result (length c.in-Some.above.now) c.requires.near c.at-v.ensures.size in
    let each = subst (Each (λ v. unsigned_abs v ≤ 2305843009213693952)) c.in-Some.ensures.cases.0 c.requires.small in
    subst (λ z. unsigned_abs z ≤ 2305843009213693952 * 66 ^ length c.args.terms.now) (sym (to_z-of_z w128 c.plus.result fits))
    (horner-more (unsigned_abs c.plus.result) (unsigned_abs c.in-Some.c.now) (unsigned_abs c.multiplied.result) (length c.in-Some.above.now)
    (length c.args.terms.now) h each.0
    (subst (λ z. unsigned_abs z ≤ 65 * (2305843009213693952 * 66 ^ length c.in-Some.above.now)) (sym e) s) l)
