use Rattle.std.proofs.Common.{◌≡◌, map, take}
use Rattle.sg_algebra.proofs.Polynomial.{poly, coefficient}
use Rattle.sg_first_order_theory.proofs.Weighted.{weighted}
use Rattle.sg_constant.specs.Shares.{polys}
use Rattle.sg_constant.proofs.solving.combined.Given as goal

abbrev pub invariant-loop-i : goal.invariant-loop-i
invariant-loop-i g l = poly (map g.F.Field.val l.sum) ≡ weighted (coefficient (map g.F.Field.val l.c)) (polys g.F.Field.val (take l.i l.list))
