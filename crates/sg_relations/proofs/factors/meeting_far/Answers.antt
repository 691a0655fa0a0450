use Rattle.std.proofs.Common.{rules, All, List, map, ℤ, subst, sym, get_or, FitsSigned}
use Rattle.std.specs.Int.{w128}
use Rattle.std.proofs.lemmas.Int.{to_z-of_z}
use Rattle.std.proofs.lemmas.List.{take_all}
use Rattle.sg_spread.specs.Shifts.{Meets}
use Rattle.sg_poly.proofs.Dividers.{monic_some}
use Rattle.sg_relations.specs.declared.factors.Factor.{Factor}
use Rattle.sg_relations.specs.Factors.{IsMeeting}
use Rattle.sg_relations.proofs.Meetings.{meeting_at, unmet_more, some_first, no_item}
use Rattle.sg_relations.proofs.factors.meeting_far.Goals as goal

pub spread-requires-clause-right : goal.spread-requires-clause-right
spread-requires-clause-right g c = monic_some (map g.F.Field.val (get_or c.args.standing.now c.loop-j.j c.index-standing-j.result).base) (c.requires.proper c.loop-j.j c.index-standing-j.result c.loop-j-test.true).monic

pub returns-then-not-is_empty-clause-met : goal.returns-then-not-is_empty-clause-met
returns-then-not-is_empty-clause-met g c =
    let fits : FitsSigned w128 c.get.result.now = search rules in
    subst (λ (m : ℤ). IsMeeting g.F.Field.val c.args.standing.now c.args.w.now c.loop-j.j m) (sym (to_z-of_z w128 c.get.result.now fits))
    (meeting_at g.F.Field.val c.args.standing.now c.args.w.now c.loop-j.j c.get.result.now c.index-standing-j.result c.loop-j-test.true
    ((c.in_ok-shifts.ensures.shifts c.get.result.now).0 (0, some_first c.in_ok-shifts.shifts c.if-not-is_empty.ensures, sym c.get.ensures)))

pub loop-j-preserved : goal.loop-j-preserved
loop-j-preserved g c = unmet_more (λ (x : Factor g.row.F.Denot). (m : ℤ) → ¬ Meets (map g.F.Field.val c.args.w.now) (map g.F.Field.val x.base) m) c.args.standing.now c.loop-j.j c.index-standing-j.result c.loop-j-test.true c.loop-j.invariant
    (λ m h. no_item c.in_ok-shifts.shifts m c.if-not-is_empty.ensures ((c.in_ok-shifts.ensures.shifts m).1 h))

pub returns-clause-none : goal.returns-clause-none
returns-clause-none g c = subst (λ (xs : List (Factor g.row.F.Denot)). All (λ x. (m : ℤ) → ¬ Meets (map g.F.Field.val c.args.w.now) (map g.F.Field.val x.base) m) xs) (take_all c.loop-j.j c.args.standing.now c.loop-j-test.false) c.loop-j.invariant
