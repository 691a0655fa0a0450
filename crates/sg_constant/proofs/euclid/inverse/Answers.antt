use Rattle.std.proofs.Common.{◌≡◌, map, rules}
use Rattle.sg_algebra.proofs.Polynomial.{poly, zero_polynomial}
use Rattle.sg_constant.proofs.Reaching.{monic_same, monic_some, start_first, start_second, start_apart, multiple_scaled, multiple_less, coprime_scaled, coprime_less, monic_unit, coprime_zero, inverse_end}
use Rattle.sg_constant.proofs.euclid.inverse.Goals as goal

pub started-requires : goal.started-requires
started-requires g c = monic_some (map g.F.Field.val c.args.w.now) c.requires.monic

pub loop-alloc-init : goal.loop-alloc-init
loop-alloc-init g c =
    let v = g.F.Field.val in
    record {
      monic = monic_same (map v c.in_ok-copy.field-0) (map v c.args.w.now) c.in_ok-copy.ensures.value c.requires.monic;
      first = start_first (poly (map v c.args.w.now)) (poly (map v c.args.u.now)) (poly (map v c.in_ok-copy.field-0)) (poly (map v c.in_ok-nothing.field-0)) c.in_ok-copy.ensures.value c.in_ok-nothing.ensures.value;
      second = start_second (poly (map v c.args.w.now)) (poly (map v c.args.u.now)) c.in_ok-b.ensures.value.q (poly (map v c.in_ok-b.b.value)) (poly (map v c.in_ok-b.b.factor)) c.in_ok-b.ensures.value.is c.in_ok-b.ensures.factor;
      apart = start_apart (poly (map v c.args.w.now)) (poly (map v c.args.u.now)) (poly (map v c.in_ok-copy.field-0)) c.in_ok-b.ensures.value.q (poly (map v c.in_ok-b.b.value)) c.in_ok-copy.ensures.value c.in_ok-b.ensures.value.is c.requires.apart;
    }

pub rest-requires : goal.rest-requires
rest-requires g c = monic_some (map g.F.Field.val c.in_ok-divisor.divisor.value) c.in_ok-divisor.ensures.monic

pub loop-alloc-preserved : goal.loop-alloc-preserved
loop-alloc-preserved g c =
    let v = g.F.Field.val in
    let w = poly (map v c.args.w.now) in
    let u = poly (map v c.args.u.now) in
    let x = poly (map v c.loop-alloc.a.value) in
    let t = poly (map v c.loop-alloc.a.factor) in
    let y = poly (map v c.loop-alloc.b.value) in
    let s = poly (map v c.loop-alloc.b.factor) in
    let y' = poly (map v c.in_ok-divisor.divisor.value) in
    let s' = poly (map v c.in_ok-divisor.divisor.factor) in
    let z = poly (map v c.in_ok-b-2.b.value) in
    let r = poly (map v c.in_ok-b-2.b.factor) in
    let scaled = multiple_scaled w u y s y' s' c.in_ok-divisor.ensures.scaled c.loop-alloc.invariant.second in
    record {
      monic = c.in_ok-divisor.ensures.monic;
      first = scaled;
      second = multiple_less w u x t y' s' z r c.in_ok-b-2.ensures.less c.loop-alloc.invariant.first scaled;
      apart = coprime_less x t y' s' z r c.in_ok-b-2.ensures.less (coprime_scaled x y s y' s' c.in_ok-divisor.ensures.scaled c.loop-alloc.invariant.apart);
    }

pub returns-clause-value : goal.returns-clause-value
returns-clause-value g c =
    let v = g.F.Field.val in
    let x = poly (map v c.loop-alloc.a.value) in
    let y = poly (map v c.loop-alloc.b.value) in
    let none : y ≡ zero_polynomial = c.is_zero.ensures.0 (search rules) in
    inverse_end (poly (map v c.args.w.now)) (poly (map v c.args.u.now)) x (poly (map v c.loop-alloc.a.factor)) (monic_unit (map v c.loop-alloc.a.value) c.loop-alloc.invariant.monic (coprime_zero x y none c.loop-alloc.invariant.apart)) c.loop-alloc.invariant.first
