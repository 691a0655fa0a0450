use Rattle.std.proofs.Common.{All, List, map, pos, subst}
use Rattle.std.proofs.lemmas.List.{take_all}
use Rattle.sg_spread.specs.Shifts.{Meets}
use Rattle.sg_relations.specs.declared.factors.Factor.{Factor}
use Rattle.sg_relations.proofs.Meetings.{meeting_at}
use Rattle.sg_relations.proofs.factors.meeting_here.Goals as goal

pub returns-then-branch-clause-met : goal.returns-then-branch-clause-met
returns-then-branch-clause-met g c = meeting_at g.F.Field.val c.args.standing.now c.args.w.now c.loop-j.j (pos 0) c.index-standing-j.result c.loop-j-test.true (c.in_ok-have_common.ensures.value.0 c.if-branch.true)

pub returns-clause-none : goal.returns-clause-none
returns-clause-none g c = subst (λ (xs : List (Factor g.row.F.Denot)). All (λ x. ¬ Meets (map g.F.Field.val c.args.w.now) (map g.F.Field.val x.base) (pos 0)) xs) (take_all c.loop-j.j c.args.standing.now c.loop-j-test.false) c.loop-j.invariant
