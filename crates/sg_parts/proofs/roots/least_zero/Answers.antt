use Rattle.std.proofs.Common.{rules, pos, ◌≤ℤ◌, ◌+ℤ◌, subst, sym, to_z, of_z, FitsSigned, arith}
use Rattle.std.specs.Int.{w64}
use Rattle.std.proofs.lemmas.Int.{to_z-of_z, ints}
use Rattle.sg_parts.specs.Planes.{VanishesAt}
use Rattle.sg_parts.proofs.AllRows.{none_more}
use Rattle.sg_parts.proofs.roots.least_zero.Goals as goal

pub returns-then-is_common_zero-clause-some : goal.returns-then-is_common_zero-clause-some
returns-then-is_common_zero-clause-some c =
    let ff : FitsSigned w64 c.args.first = search rules in
    let e = to_z-of_z w64 c.args.first ff in
    record {
      inside = subst (λ x. x ≤ℤ to_z w64 c.loop-m.m-bits) e c.loop-m.invariant.from;
      zero = search (rules, c.if-is_common_zero.ensures, c.if-is_common_zero.true);
      least = λ k le lt v. c.loop-m.invariant.none k (subst (λ x. x ≤ℤ k) (sym e) le) lt v;
    }

pub loop-m-preserved : goal.loop-m-preserved
loop-m-preserved c =
    let m = to_z w64 c.loop-m.m-bits in
    let fn : FitsSigned w64 (m +ℤ pos 1) = search rules in
    let next = to_z-of_z w64 (m +ℤ pos 1) fn in
    let from : to_z w64 (of_z w64 c.args.first) ≤ℤ m = c.loop-m.invariant.from in
    let here : VanishesAt c.args.plane.now m → ⊥ = λ v. search (rules, c.if-is_common_zero.ensures, c.if-is_common_zero.false, v) in
    record {
      from = omega (arith, ints, from, next);
      none = none_more c.args.plane.now (to_z w64 (of_z w64 c.args.first)) m (to_z w64 (of_z w64 (m +ℤ pos 1))) next c.loop-m.invariant.none here;
    }
