use Rattle.std.proofs.Common.{◌≡◌, map, replicate}
use Rattle.sg_algebra.proofs.Value.{zero_value}
use Rattle.sg_poly.proofs.poly.Poly.monomial.Given as goal

abbrev pub invariant-loop : goal.invariant-loop
invariant-loop g l = map g.F.Field.val l.row ≡ replicate l.counter zero_value
