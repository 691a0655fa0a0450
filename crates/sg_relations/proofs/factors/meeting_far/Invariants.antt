use Rattle.std.proofs.Common.{All, take, map, ℤ}
use Rattle.sg_spread.specs.Shifts.{Meets}
use Rattle.sg_relations.proofs.factors.meeting_far.Given as goal

abbrev pub invariant-loop-j : goal.invariant-loop-j
invariant-loop-j g l = All (λ c. (m : ℤ) → ¬ Meets (map g.F.Field.val l.w) (map g.F.Field.val c.base) m) (take l.j l.standing)
