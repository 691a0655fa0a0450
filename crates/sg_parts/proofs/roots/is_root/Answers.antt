use Rattle.std.proofs.Common.{◌≡◌, ◌≢◌, ◌∙◌, sym, ap, ◌+◌, ◌<◌, ◌≤◌, ◌^◌, get_or, drop, pos, ◌+ℤ◌, ◌*ℤ◌, false, IsTrue, arith, rules, FitsSigned, to_z, of_z, unsigned_abs}
use Rattle.std.specs.Int.{w128}
use Rattle.std.proofs.lemmas.Int.{to_z-of_z}
use Rattle.sg_algebra.specs.Coefficients.{eval}
use Rattle.sg_algebra.proofs.Whole.{ℤR}
use Rattle.sg_parts.specs.Planes.{row_size}
use Rattle.sg_parts.proofs.Dividing.{carried_on, stuck, size_next, small_quotient}
use Rattle.sg_parts.proofs.roots.is_root.Goals as goal

never : IsTrue false → ⊥
never t = search (rules, t)

pub returns-in-None : goal.returns-in-None
returns-in-None c =
    let x = get_or c.args.list.now c.loop-i.i (pos 0) in
    let a = to_z w128 c.loop-i.carry-bits in
    let m = to_z w128 (of_z w128 c.args.m) in
    let fx : FitsSigned w128 (get_or c.args.list.now c.loop-i.i (pos 0)) = search rules in
    let fm : FitsSigned w128 c.args.m = search rules in
    let fs : FitsSigned w128 c.sum-s.result = search rules in
    let s = c.sum-s.ensures.value ∙ ap (λ y. a +ℤ y) (to_z-of_z w128 x fx) in
    let none = rw c.in-None.is at c.quotient.ensures.none in
    let no = stuck c.args.list.now c.loop-i.i (c.loop-i.i + 1) m a c.sum-s.result (omega arith) (omega arith) s c.loop-i.invariant.value (λ q e. none q (e ∙ sym (to_z-of_z w128 c.sum-s.result fs))) in
    (λ t. absurd (never t), λ z. absurd (no (ap (λ y. eval ℤR c.args.list.now y) (to_z-of_z w128 c.args.m fm) ∙ z)))

pub loop-i-preserved : goal.loop-i-preserved
loop-i-preserved c =
    let x = get_or c.args.list.now c.loop-i.i (pos 0) in
    let a = to_z w128 c.loop-i.carry-bits in
    let m = to_z w128 (of_z w128 c.args.m) in
    let fx : FitsSigned w128 (get_or c.args.list.now c.loop-i.i (pos 0)) = search rules in
    let fm : FitsSigned w128 c.args.m = search rules in
    let fs : FitsSigned w128 c.sum-s.result = search rules in
    let fq : FitsSigned w128 c.in-Some.q = search rules in
    let s = c.sum-s.ensures.value ∙ ap (λ y. a +ℤ y) (to_z-of_z w128 x fx) in
    let some = rw c.in-Some.is at c.quotient.ensures.some in
    let q = to_z w128 (of_z w128 c.in-Some.q) in
    let product = ap (λ q. q *ℤ m) (to_z-of_z w128 c.in-Some.q fq) ∙ some ∙ to_z-of_z w128 c.sum-s.result fs in
    let other : m ≢ pos 0 = λ z. c.requires.some (sym (to_z-of_z w128 c.args.m fm) ∙ z) in
    let less : unsigned_abs q ≤ unsigned_abs c.sum-s.result = small_quotient q m c.sum-s.result other product in
    let most : unsigned_abs c.sum-s.result ≤ unsigned_abs a + unsigned_abs (to_z w128 (of_z w128 x)) = c.sum-s.ensures.small in
    let same : unsigned_abs (to_z w128 (of_z w128 x)) ≡ unsigned_abs x = ap unsigned_abs (to_z-of_z w128 x fx) in
    let size : row_size (drop c.loop-i.i c.args.list.now) ≡ unsigned_abs x + row_size (drop (c.loop-i.i + 1) c.args.list.now) = size_next c.args.list.now c.loop-i.i (c.loop-i.i + 1) (omega arith) (omega arith) in
    let before : unsigned_abs a + row_size (drop c.loop-i.i c.args.list.now) < 2 ^ 127 = c.loop-i.invariant.small in
    record {
      value = carried_on c.args.list.now c.loop-i.i (c.loop-i.i + 1) m a c.sum-s.result (omega arith) (omega arith) s c.loop-i.invariant.value q other product;
      small = omega (arith, less, most, same, size, before);
    }
