use Rattle.std.proofs.Common.{◌≡◌, ◌∙◌, ap, rules, arith, ◌+◌, ◌≤◌, length, take, drop, to_z, of_z}
use mir.Syntax.{w128}
use Rattle.sg_algebra.proofs.Rational.{whole_value}
use Rattle.sg_spec.specs.Fraction.{whole}
use Rattle.sg_num.specs.Value.{fraction, number}
use Rattle.sg_num.proofs.Numbers.{number-whole}
use Rattle.sg_ratfun.specs.Gathered.{coefficients}
use Rattle.sg_ratfun.proofs.Probing.{opened, room, rest_known, item_has, item_nonzero, items_push, whole_list}
use Rattle.sg_ratfun.proofs.probe.all_at.Goals as goal

pub item_from-requires : goal.item_from-requires
item_from-requires g c =
    let v = g.F.Field.val in
    let r = c.get-item.result.now in
    let vs = c.as_slice-values.result.now in
    let p = opened v c.args.inner.now.args c.args.list.now c.loop-i.i r (drop c.loop-i.at vs) (omega arith) c.get-item.ensures c.loop-i.invariant.known in
    let n : length c.coeffs-n.result.now ≡ length r.0 = ap length (c.coeffs-n.ensures.value ∙ c.upper-upper.ensures.value) in
    let m : length c.coeffs-m.result.now ≡ length r.1 = ap length (c.coeffs-m.ensures.value ∙ c.lower-lower.ensures.value) in
    let l : (c.loop-i.at + length r.0) + length r.1 ≤ length vs = room v c.args.inner.now.args r.0 r.1 (coefficients (drop (c.loop-i.i + 1) c.args.list.now)) vs c.loop-i.at c.loop-i.invariant.within p in
    omega (arith, n, m, l)

pub loop-i-preserved : goal.loop-i-preserved
loop-i-preserved g c =
    let v = g.F.Field.val in
    let args = c.args.inner.now.args in
    let r = c.get-item.result.now in
    let vs = c.as_slice-values.result.now in
    let at = c.loop-i.at in
    let rest = coefficients (drop (c.loop-i.i + 1) c.args.list.now) in
    let p = opened v args c.args.list.now c.loop-i.i r (drop at vs) (omega arith) c.get-item.ensures c.loop-i.invariant.known in
    let n : length c.coeffs-n.result.now ≡ length r.0 = ap length (c.coeffs-n.ensures.value ∙ c.upper-upper.ensures.value) in
    let m : length c.coeffs-m.result.now ≡ length r.1 = ap length (c.coeffs-m.ensures.value ∙ c.lower-lower.ensures.value) in
    let l : (at + length r.0) + length r.1 ≤ length vs = room v args r.0 r.1 rest vs at c.loop-i.invariant.within p in
    let w : fraction c.whole-place.result ≡ whole c.args.x = search rules in
    let x : number c.whole-place.result ≡ whole_value 0 c.args.x = number-whole c.whole-place.result c.args.x w in
    let cast : to_z w128 (of_z w128 c.args.x) ≡ c.args.x = search rules in
    let nn = length c.coeffs-n.result.now in
    let mm = length c.coeffs-m.result.now in
    let e : at + nn ≡ at + length r.0 = ap (◌+◌ at) n in
    let h : at + nn + mm ≡ at + nn + length r.1 = ap (◌+◌ (at + nn)) m in
    let has = item_has v args r rest vs (take nn (drop at vs)) (take mm (drop (at + nn) vs)) at (at + nn) (at + nn + mm) c.args.x c.in-Some.v p e h
    (ap (λ k. take k (drop at vs)) n) (ap (λ k. take k (drop (at + nn) vs)) m)
    (rw x at (rw c.in-Some.is at c.in_ok-item_from.ensures.defined)) (rw x at (rw c.in-Some.is at c.in_ok-item_from.ensures.value)) in
    let some = item_nonzero v args r c.is_zero.result c.in-Some.v c.upper-upper.ensures.reduced (rw c.upper-upper.ensures.value at c.is_zero.ensures) (rw c.in-Some.is at c.in_ok-item_from.ensures.nonzero) in
    let before = rw cast at c.loop-i.invariant.so_far in
    rw cast (record {
      within = omega (arith, n, m, l);
      known = rest_known v args r.0 r.1 rest vs at (at + nn) (at + nn + mm) p e h;
      so_far = items_push v args c.args.list.now c.loop-i.i r c.args.x c.loop-i.out c.push.new.self c.in-Some.v before (omega arith) c.get-item.ensures has some c.in_ok-push-in-Some.ensures.ok;
    })

pub returns-clause-value : goal.returns-clause-value
returns-clause-value g c =
    let cast : to_z w128 (of_z w128 c.args.x) ≡ c.args.x = search rules in
    rw (cast, whole_list g.F.Field.val c.args.inner.now.args c.args.list.now c.loop-i.i (omega arith)) at c.loop-i.invariant.so_far

pub overflow_add-at-in-Some : goal.overflow_add-at-in-Some
overflow_add-at-in-Some g c =
    let v = g.F.Field.val in
    let r = c.get-item.result.now in
    let vs = c.as_slice-values.result.now in
    let p = opened v c.args.inner.now.args c.args.list.now c.loop-i.i r (drop c.loop-i.at vs) (omega arith) c.get-item.ensures c.loop-i.invariant.known in
    let n : length c.coeffs-n.result.now ≡ length r.0 = ap length (c.coeffs-n.ensures.value ∙ c.upper-upper.ensures.value) in
    let m : length c.coeffs-m.result.now ≡ length r.1 = ap length (c.coeffs-m.ensures.value ∙ c.lower-lower.ensures.value) in
    let l : (c.loop-i.at + length r.0) + length r.1 ≤ length vs = room v c.args.inner.now.args r.0 r.1 (coefficients (drop (c.loop-i.i + 1) c.args.list.now)) vs c.loop-i.at c.loop-i.invariant.within p in
    omega (arith, n, m, l, c.as_slice-values.type_inv.0)
