use Rattle.std.proofs.Common.{arith, ap, length, map}
use Rattle.sg_algebra.proofs.Lists.{length_map}
use Rattle.sg_poly.proofs.Unique.{division_unique}
use Rattle.sg_poly.proofs.poly.Poly.div_rem.Goals as goal

pub returns-clause-unique : goal.returns-clause-unique
returns-clause-unique g c =
    let v = g.F.Field.val in
    division_unique (map v c.args.self.now) (map v c.args.other.now) (map v c.trimmed-quotient.result) (map v c.trimmed-rest.result) c.coeffs-2.ensures.ends
    (record {
      is = rw (c.trimmed-quotient.ensures.value, c.trimmed-rest.ensures.value, ← c.coeffs.ensures.value, ← c.coeffs-2.ensures.value) c.in_ok-parts.ensures.value;
      smaller = omega (arith, length_map v c.trimmed-rest.result, length_map v c.args.other.now, c.trimmed-rest.ensures.shorter, c.in_ok-parts.ensures.size, ap length c.coeffs-2.ensures.value);
    })
