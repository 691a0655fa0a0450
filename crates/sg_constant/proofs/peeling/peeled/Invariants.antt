use Rattle.sg_constant.specs.Shares.{Peeling}
use Rattle.sg_constant.proofs.peeling.peeled.Given as goal

abbrev pub invariant-loop-i : goal.invariant-loop-i
invariant-loop-i g l = Peeling g.F.Field.val (g.F.Field.val l.factors.a) l.fn.s l.fn.state l.left l.state
