use Rattle.std.proofs.Common.{arith, ◌-◌, length, map}
use Rattle.sg_algebra.proofs.Polynomial.{poly, coefficient}
use Rattle.sg_algebra.proofs.Rows.{past_row}
use Rattle.sg_poly.proofs.Dividers.{monic_is, monic_some, unit_divides, divides_unit}
use Rattle.sg_poly.proofs.poly.Poly.monic.Goals as goal

pub returns-clause-monic : goal.returns-clause-monic
returns-clause-monic g c = monic_is (map g.F.Field.val c.args.self.now) (map g.F.Field.val c.in_ok-r.r) (length c.args.self.now - 1) c.in_ok-r.ensures.value c.in_ok-r.ensures.last (λ k h. past_row g.F.Field.val c.args.self.now k (omega arith))

pub returns-clause-divisors : goal.returns-clause-divisors
returns-clause-divisors g c d =
    let p = poly (map g.F.Field.val c.args.self.now) in
    let r = poly (map g.F.Field.val c.in_ok-r.r) in
    let lead = coefficient (map g.F.Field.val c.args.self.now) (length c.args.self.now - 1) in
    (unit_divides p r lead c.in_ok-r.ensures.last c.in_ok-r.ensures.value d, divides_unit p r lead c.in_ok-r.ensures.last c.in_ok-r.ensures.value d)

pub returns-clause-some : goal.returns-clause-some
returns-clause-some g c = monic_some (map g.F.Field.val c.in_ok-r.r) (monic_is (map g.F.Field.val c.args.self.now) (map g.F.Field.val c.in_ok-r.r) (length c.args.self.now - 1) c.in_ok-r.ensures.value c.in_ok-r.ensures.last (λ k h. past_row g.F.Field.val c.args.self.now k (omega arith)))
