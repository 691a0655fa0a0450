use Rattle.std.proofs.Common.{◌≡◌, map, take}
use Rattle.sg_algebra.proofs.Polynomial.{poly}
use Rattle.sg_reduction_theory.proofs.Conditions.{alone}
use Rattle.sg_constant.specs.Shares.{polys}
use Rattle.sg_constant.proofs.reducing.alone.Given as goal

abbrev pub invariant-loop-j : goal.invariant-loop-j
invariant-loop-j g l = polys g.F.Field.val l.list ≡ take l.j (alone l.n l.i (poly (map g.F.Field.val l.p)))
