use Rattle.std.proofs.Common.{take}
use Rattle.sg_products.specs.Supports.{AreSupports}
use Rattle.sg_products.proofs.supports.supports.Given as goal

abbrev pub invariant-loop-i : goal.invariant-loop-i
invariant-loop-i g l = AreSupports g.F.Field.val l.alphas (take l.i l.fs) l.es
