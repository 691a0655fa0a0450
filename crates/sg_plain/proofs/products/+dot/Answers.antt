use Rattle.std.proofs.Common.{◌≡◌, ◌≤◌, ◌*◌, suc, length, unsigned_abs, ap, sym, subst, arith, rules, FitsSigned}
use Rattle.std.proofs.lemmas.Int.{to_z-of_z}
use Rattle.std.specs.Int.{w128}
use Rattle.sg_algebra.specs.Coefficients.{Each}
use Rattle.sg_plain.proofs.Sizes.{dot-more}
use Rattle.sg_plain.proofs.products.+dot.Goals as goal

pub returns-in-Some-split_first-clause-small : goal.returns-in-Some-split_first-clause-small
returns-in-Some-split_first-clause-small t c = λ b h.
    let fits-p : FitsSigned w128 c.plus.result = search rules in
    let fits-w : FitsSigned w128 c.weighted.result = search rules in
    let fits-d : FitsSigned w128 c.dot.result = search rules in
    let fits-v : FitsSigned w128 c.in-Some-split_first.v.now = search rules in
    let s = simp to_z-of_z at c.plus.ensures.size in
    let w = simp to_z-of_z at c.weighted.ensures.small in
    let each = subst (Each (λ v. unsigned_abs v ≤ b)) c.in-Some-split_first.ensures.cases.0 h in
    let l : length c.args.values.now ≡ suc (length c.in-Some-split_first.values.now) = ap length c.in-Some-split_first.ensures.cases.0 in
    subst (λ z. unsigned_abs z ≤ length c.args.values.now * (4096 * b)) (sym (to_z-of_z w128 c.plus.result fits-p))
    (dot-more (unsigned_abs c.plus.result) (unsigned_abs c.weighted.result) (unsigned_abs c.dot.result) (length c.in-Some-split_first.values.now)
    (length c.args.values.now) (4096 * b) s (w b each.0) (c.dot.ensures.small b each.1) l)

pub returns-in-Some-split_first-clause-limit : goal.returns-in-Some-split_first-clause-limit
returns-in-Some-split_first-clause-limit t c =
    let fits-p : FitsSigned w128 c.plus.result = search rules in
    let fits-w : FitsSigned w128 c.weighted.result = search rules in
    let fits-d : FitsSigned w128 c.dot.result = search rules in
    let fits-v : FitsSigned w128 c.in-Some-split_first.v.now = search rules in
    let s = simp to_z-of_z at c.plus.ensures.size in
    let w = simp to_z-of_z at c.weighted.ensures.small in
    let each = subst (Each (λ v. unsigned_abs v ≤ 70368744177664)) c.in-Some-split_first.ensures.cases.0 c.requires.values in
    let l : length c.args.values.now ≡ suc (length c.in-Some-split_first.values.now) = ap length c.in-Some-split_first.ensures.cases.0 in
    let x : unsigned_abs c.weighted.result ≤ 4096 * 70368744177664 = w 70368744177664 each.0 in
    subst (λ z. unsigned_abs z ≤ length c.args.values.now * 288230376151711744) (sym (to_z-of_z w128 c.plus.result fits-p))
    (dot-more (unsigned_abs c.plus.result) (unsigned_abs c.weighted.result) (unsigned_abs c.dot.result) (length c.in-Some-split_first.values.now)
    (length c.args.values.now) 288230376151711744 s (omega (arith, x)) c.dot.ensures.limit l)
