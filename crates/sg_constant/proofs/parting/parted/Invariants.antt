use Rattle.std.proofs.Common.{◌≡◌, map}
use Rattle.sg_algebra.proofs.Polynomial.{poly, zero_polynomial}
use Rattle.sg_poly.specs.Divisors.{IsMonic, IsGcd}
use Rattle.sg_constant.specs.Shares.{size}
use Rattle.sg_constant.proofs.Taken.{IsTaken}
use Rattle.sg_constant.proofs.parting.parted.Given as goal

abbrev pub invariant-loop-alloc : goal.invariant-loop-alloc
invariant-loop-alloc g l = record {
  taken : IsTaken (poly (map g.F.Field.val l.w)) (poly (map g.F.Field.val l.common)) (poly (map g.F.Field.val l.rest)) (poly (map g.F.Field.val l.e));
  monic : IsMonic (map g.F.Field.val l.common);
  some : ¬ (poly (map g.F.Field.val l.rest) ≡ zero_polynomial);
  common : IsGcd (poly (map g.F.Field.val l.g)) (poly (map g.F.Field.val l.rest)) (poly (map g.F.Field.val l.e));
  common_monic : IsMonic (map g.F.Field.val l.g);
}

abbrev pub decreases-loop-alloc : goal.decreases-loop-alloc
decreases-loop-alloc g l = size (map g.F.Field.val l.rest)
