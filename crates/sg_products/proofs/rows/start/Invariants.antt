use Rattle.std.proofs.Common.{take}
use Rattle.sg_products.specs.Solving.{StartFrom}
use Rattle.sg_products.proofs.rows.start.Given as goal

abbrev pub invariant-loop-i : goal.invariant-loop-i
invariant-loop-i g l = StartFrom g.F.Field.val l.alphas l.fs 0 (take l.i l.fs) l.rows
