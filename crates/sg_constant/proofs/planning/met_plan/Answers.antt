use Rattle.std.proofs.Common.{map, rules, FitsSigned, subst, sym}
use Rattle.std.specs.Int.{w128}
use Rattle.std.proofs.lemmas.Int.{to_z-of_z}
use Rattle.sg_algebra.proofs.Polynomial.{poly}
use Rattle.sg_first_order_theory.proofs.Next.{moved_polynomial}
use Rattle.sg_constant.specs.Shares.{lower_at, IsMeeting}
use Rattle.sg_constant.proofs.Plans.{other_cut, other_joint, lower_get}
use Rattle.sg_constant.proofs.planning.met_plan.Goals as goal

pub returns-then-coeffs-gt1-clause-cut : goal.returns-then-coeffs-gt1-clause-cut
returns-then-coeffs-gt1-clause-cut g c =
    let v = g.F.Field.val in
    let fits : FitsSigned w128 c.args.at.shift = search rules in
    let meeting = simp to_z-of_z at c.in_ok-by.ensures.meeting in
    let here : IsMeeting (poly (map v c.args.w.now)) (moved_polynomial c.args.at.shift (poly (map v (lower_at c.args.list.now c.args.at.place)))) (poly (map v c.in_ok-by.by.common)) (poly (map v c.in_ok-by.by.rest))
    = subst (λ l. IsMeeting (poly (map v c.args.w.now)) (moved_polynomial c.args.at.shift (poly (map v l))) (poly (map v c.in_ok-by.by.common)) (poly (map v c.in_ok-by.by.rest))) (sym (lower_get c.args.list.now c.args.at.place c.index-list-at.result c.requires.within)) meeting in
    other_cut v c.args.w.now (lower_at c.args.list.now c.args.at.place) c.in_ok-by.by.common c.in_ok-by.by.rest c.coeffs.result.now c.args.at.shift c.requires.some c.requires.meets here c.in_ok-by.ensures.monic
    c.coeffs.ensures.ends c.coeffs.ensures.value c.if-coeffs-gt1.true

pub returns-clause-joint : goal.returns-clause-joint
returns-clause-joint g c =
    let v = g.F.Field.val in
    let fits : FitsSigned w128 c.args.at.shift = search rules in
    let meeting = simp to_z-of_z at c.in_ok-by.ensures.meeting in
    let here : IsMeeting (poly (map v c.args.w.now)) (moved_polynomial c.args.at.shift (poly (map v (lower_at c.args.list.now c.args.at.place)))) (poly (map v c.in_ok-by.by.common)) (poly (map v c.in_ok-by.by.rest))
    = subst (λ l. IsMeeting (poly (map v c.args.w.now)) (moved_polynomial c.args.at.shift (poly (map v l))) (poly (map v c.in_ok-by.by.common)) (poly (map v c.in_ok-by.by.rest))) (sym (lower_get c.args.list.now c.args.at.place c.index-list-at.result c.requires.within)) meeting in
    (c.requires.within, other_joint v c.args.w.now (lower_at c.args.list.now c.args.at.place) c.in_ok-by.by.common c.in_ok-by.by.rest c.coeffs.result.now c.args.at.shift c.requires.some here c.coeffs.ensures.value c.if-coeffs-gt1.false)
