use Rattle.std.proofs.Common.{All, IfOk, IfNone, subst, sym}
use Rattle.sg_relations.specs.declared.factors.Shifts.{Shifts}
use Rattle.sg_relations.specs.Factors.{AreUnmet}
use Rattle.sg_relations.proofs.factors.meeting.Goals as goal

pub returns-in-All-clause-none : goal.returns-in-All-clause-none
returns-in-All-clause-none g c = subst (λ (s : Shifts). IfOk c.meeting_far.result (λ o. IfNone o (All (λ x. AreUnmet g.F.Field.val s c.args.w.now x) c.args.standing.now))) (sym c.in-All.is) c.meeting_far.ensures.none
