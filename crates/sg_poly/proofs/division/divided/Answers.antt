use Rattle.std.proofs.Common.{ap, length, ◌<◌, arith}
use Rattle.sg_algebra.proofs.Lists.{length_map}
use Rattle.sg_algebra.proofs.Polynomial.{poly}
use Rattle.sg_poly.proofs.Dividing.{not_divided}
use Rattle.sg_poly.proofs.division.divided.Goals as goal

pub returns-then-p-w-clause-value : goal.returns-then-p-w-clause-value
returns-then-p-w-clause-value g c = not_divided g.F.Field.val c.args.p.now c.args.w.now c.new-quotient.result c.in_ok-rest.rest c.new-quotient.ensures (ap poly c.in_ok-rest.ensures.values)

pub returns-then-p-w-clause-size : goal.returns-then-p-w-clause-size
returns-then-p-w-clause-size g c = omega (arith, ap length c.in_ok-rest.ensures.values, length_map g.F.Field.val c.in_ok-rest.rest, length_map g.F.Field.val c.args.p.now)
