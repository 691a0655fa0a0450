use Rattle.std.proofs.Common.{take, map}
use Rattle.sg_algebra.proofs.Polynomial.{coefficient}
use Rattle.sg_products.specs.Solving.{IsCombined}
use Rattle.sg_products.proofs.rows.combined.Given as goal

abbrev pub invariant-loop-i : goal.invariant-loop-i
invariant-loop-i g l = IsCombined g.F.Field.val l.alphas (coefficient (map g.F.Field.val l.cs)) (take l.i l.rows) l.sum
