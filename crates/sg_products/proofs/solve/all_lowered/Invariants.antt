use Rattle.std.proofs.Common.{drop}
use Rattle.sg_products.specs.Solving.{State}
use Rattle.sg_products.proofs.solve.all_lowered.Given as goal

abbrev pub invariant-loop-i : goal.invariant-loop-i
invariant-loop-i g l = State g.F.Field.val l.alphas l.fs (drop l.i l.es) l.last
