use Rattle.std.proofs.Common.{map}
use Rattle.sg_algebra.proofs.Polynomial.{poly}
use Rattle.sg_poly.proofs.Dividers.{monic_some}
use Rattle.sg_ratfun.proofs.Monics.{monic_product}
use Rattle.sg_constant.proofs.Taken.{taken_start, taken_more, taken_part, taken_smaller, taken_apart, factor_some, some_same, monic_one}
use Rattle.sg_constant.proofs.parting.parted.Goals as goal

pub loop-alloc-init : goal.loop-alloc-init
loop-alloc-init g c =
    let v = g.F.Field.val in
    record {
      taken = taken_start (poly (map v c.args.w.now)) (poly (map v c.in_ok-common.common)) (poly (map v c.in_ok-rest.rest)) (poly (map v c.args.e.now)) c.in_ok-common.ensures.value c.in_ok-rest.ensures.value;
      monic = monic_one (map v c.in_ok-common.common) c.in_ok-common.ensures.value;
      some = some_same (poly (map v c.in_ok-rest.rest)) (poly (map v c.args.w.now)) c.in_ok-rest.ensures.value c.requires.left;
      common = c.in_ok-g.ensures.divisor;
      common_monic = c.in_ok-g.ensures.monic;
    }

pub exact-requires-clause-some : goal.exact-requires-clause-some
exact-requires-clause-some g c = monic_some (map g.F.Field.val c.loop-alloc.g) c.loop-alloc.invariant.common_monic

pub loop-alloc-smaller : goal.loop-alloc-smaller
loop-alloc-smaller g c = taken_smaller g.F.Field.val c.loop-alloc.rest c.in_ok-rest-2.rest c.loop-alloc.g c.coeffs.result.now c.loop-alloc.invariant.common_monic c.coeffs.ensures.ends c.coeffs.ensures.value c.loop-alloc-test.true c.loop-alloc.invariant.some c.in_ok-rest-2.ensures.value

pub loop-alloc-preserved : goal.loop-alloc-preserved
loop-alloc-preserved g c =
    let v = g.F.Field.val in
    record {
      taken = taken_more (poly (map v c.args.w.now)) (poly (map v c.loop-alloc.common)) (poly (map v c.loop-alloc.rest)) (poly (map v c.args.e.now)) (poly (map v c.loop-alloc.g)) (poly (map v c.in_ok-common-2.common)) (poly (map v c.in_ok-rest-2.rest))
          c.loop-alloc.invariant.taken c.loop-alloc.invariant.common.right c.in_ok-common-2.ensures.value c.in_ok-rest-2.ensures.value;
      monic = monic_product (map v c.loop-alloc.common) (map v c.loop-alloc.g) (map v c.in_ok-common-2.common) c.in_ok-common-2.ensures.value c.loop-alloc.invariant.monic c.loop-alloc.invariant.common_monic;
      some = factor_some (poly (map v c.loop-alloc.rest)) (poly (map v c.in_ok-rest-2.rest)) (poly (map v c.loop-alloc.g)) c.in_ok-rest-2.ensures.value c.loop-alloc.invariant.some;
      common = c.in_ok-g-2.ensures.divisor;
      common_monic = c.in_ok-g-2.ensures.monic;
    }

pub returns-clause-parts : goal.returns-clause-parts
returns-clause-parts g c =
    let v = g.F.Field.val in
    taken_part (poly (map v c.args.w.now)) (poly (map v c.loop-alloc.common)) (poly (map v c.loop-alloc.rest)) (poly (map v c.args.e.now)) c.loop-alloc.invariant.taken
    (taken_apart v c.loop-alloc.g c.coeffs.result.now (poly (map v c.loop-alloc.rest)) (poly (map v c.args.e.now)) c.loop-alloc.invariant.common_monic c.coeffs.ensures.value c.loop-alloc-test.false c.loop-alloc.invariant.common)
