use Rattle.std.proofs.Common.{All, take, map, pos}
use Rattle.sg_spread.specs.Shifts.{Meets}
use Rattle.sg_relations.proofs.factors.meeting_here.Given as goal

abbrev pub invariant-loop-j : goal.invariant-loop-j
invariant-loop-j g l = All (λ c. ¬ Meets (map g.F.Field.val l.w) (map g.F.Field.val c.base) (pos 0)) (take l.j l.standing)
