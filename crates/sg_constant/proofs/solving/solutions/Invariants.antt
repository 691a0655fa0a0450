use Rattle.std.proofs.Common.{take}
use Rattle.sg_constant.specs.Shares.{polys, shares}
use Rattle.sg_constant.specs.Reductions.{AreSolutions}
use Rattle.sg_constant.proofs.solving.solutions.Given as goal

abbrev pub invariant-loop-i : goal.invariant-loop-i
invariant-loop-i g l = AreSolutions g.F.Field.val (g.F.Field.val l.a) (polys g.F.Field.val l.wholes) (shares g.F.Field.val l.moved) (take l.i l.vectors) l.fn.first l.list
