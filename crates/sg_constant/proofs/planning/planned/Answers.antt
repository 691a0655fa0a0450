use Rattle.std.proofs.Common.{rules, FitsSigned}
use Rattle.std.specs.Int.{w128}
use Rattle.std.proofs.lemmas.Int.{to_z-of_z}
use Rattle.sg_constant.specs.Shares.{IsGreatest}
use Rattle.sg_constant.proofs.Plans.{own_cut, plan_free}
use Rattle.sg_constant.proofs.planning.planned.Goals as goal

pub returns-in-Some-clause-cut : goal.returns-in-Some-clause-cut
returns-in-Some-clause-cut g c =
    let v = g.F.Field.val in
    let fits : FitsSigned w128 c.in-Some.m = search rules in
    let meeting = simp to_z-of_z at c.in_ok-by-in-Some.ensures.meeting in
    let greatest : IsGreatest c.in_ok-own.own c.in-Some.m = c.in-Some.ensures.some in
    own_cut v c.args.w.now c.in_ok-by-in-Some.by.common c.in_ok-by-in-Some.by.rest c.in_ok-own.own c.in-Some.m c.requires.left (λ k h. (c.in_ok-own.ensures.shifts k).1 h)
    ((c.in_ok-own.ensures.shifts c.in-Some.m).0 greatest.inside) greatest meeting c.in_ok-by-in-Some.ensures.monic

pub returns-clause-free : goal.returns-clause-free
returns-clause-free g c =
    let v = g.F.Field.val in
    plan_free v c.args.w.now c.in_ok-own.own c.args.list.now c.in_ok-plan-in-None.plan.cut c.in_ok-plan-in-None.plan.at c.requires.left (λ k h. (c.in_ok-own.ensures.shifts k).1 h) c.in-None.ensures.none c.in_ok-plan-in-None.ensures.none
