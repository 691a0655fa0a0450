use Rattle.sg_constant.proofs.Conditioned.{Conditioning}
use Rattle.sg_constant.proofs.conditions.push_rows.Given as goal

abbrev pub invariant-loop-t : goal.invariant-loop-t
invariant-loop-t g l = Conditioning g.F.Field.val l.s l.fn.rows l.rows l.t
