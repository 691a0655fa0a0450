use Rattle.std.proofs.Common.{◌-◌, ◌≤◌, ℤ, map, length, Contains, [], arith}
use Rattle.sg_algebra.proofs.Lists.{length_map}
use Rattle.sg_algebra.proofs.Polynomial.{coefficient}
use Rattle.sg_algebra.proofs.Value.{inv_value}
use Rattle.sg_spread.specs.Shifts.{AreShifts}
use Rattle.sg_spread.proofs.Candidates.{monic_ends}
use Rattle.sg_spread.proofs.Meeting.{meets_multiples, meets_apart, meets_left_constant, meets_right_constant}
use Rattle.sg_spread.proofs.elimination.eliminated.Goals as goal

nothing : (m : ℤ) → Contains [] m → ⊥
nothing m h = let inside = h.1 in omega arith

pub candidates-requires-clause-left : goal.candidates-requires-clause-left
candidates-requires-clause-left g c = rw (length_map g.F.Field.val c.in_ok-left.left) at (monic_ends (map g.F.Field.val c.in_ok-left.left) c.in_ok-left.ensures.monic c.coeffs.ensures.ends)

pub candidates-requires-clause-right : goal.candidates-requires-clause-right
candidates-requires-clause-right g c = rw (length_map g.F.Field.val c.in_ok-right.right) at (monic_ends (map g.F.Field.val c.in_ok-right.right) c.in_ok-right.ensures.monic c.coeffs-2.ensures.ends)

pub returns-then-coeffs-lt2-clause-shifts : goal.returns-then-coeffs-lt2-clause-shifts
returns-then-coeffs-lt2-clause-shifts g c = λ m.
    let v = g.F.Field.val in
    let few : length c.coeffs.result.now ≤ 1 = omega (arith, c.if-coeffs-lt2.true) in
    let short : length (map v c.in_ok-left.left) ≤ 1 = rw (length_map v c.in_ok-left.left) (rw c.coeffs.ensures.value at few) in (
      λ h. absurd (nothing m (rw c.new.ensures at h)),
      λ meets. absurd (meets_left_constant (map v c.in_ok-left.left) (map v c.in_ok-right.right) m c.in_ok-left.ensures.some short
          (meets_multiples (map v c.args.a.now) (map v c.args.b.now) m (map v c.in_ok-left.left) (map v c.in_ok-right.right) (inv_value (coefficient (map v c.args.b.now) (length c.args.b.now - 1)))
          (λ x. (c.in_ok-left.ensures.divisors x).1) c.in_ok-right.ensures.value meets)),
    )

pub returns-then-coeffs-lt2-2-clause-shifts : goal.returns-then-coeffs-lt2-2-clause-shifts
returns-then-coeffs-lt2-2-clause-shifts g c = λ m.
    let v = g.F.Field.val in
    let few : length c.coeffs-2.result.now ≤ 1 = omega (arith, c.if-coeffs-lt2-2.true) in
    let short : length (map v c.in_ok-right.right) ≤ 1 = rw (length_map v c.in_ok-right.right) (rw c.coeffs-2.ensures.value at few) in (
      λ h. absurd (nothing m (rw c.new-then-coeffs-lt2-2.ensures at h)),
      λ meets. absurd (meets_right_constant (map v c.in_ok-left.left) (map v c.in_ok-right.right) m c.in_ok-right.ensures.some short
          (meets_multiples (map v c.args.a.now) (map v c.args.b.now) m (map v c.in_ok-left.left) (map v c.in_ok-right.right) (inv_value (coefficient (map v c.args.b.now) (length c.args.b.now - 1)))
          (λ x. (c.in_ok-left.ensures.divisors x).1) c.in_ok-right.ensures.value meets)),
    )

pub returns-clause-shifts : goal.returns-clause-shifts
returns-clause-shifts g c = λ m.
    let v = g.F.Field.val in
    let f : AreShifts (map v c.args.a.now) (map v c.args.b.now) c.in_ok-all.all c.in_ok-shifts.shifts = rw c.as_slice.ensures at c.in_ok-shifts.ensures.value in (
      λ h. ((f.kept m).0 h).1,
      λ meets. (f.kept m).1 (
        c.in_ok-all.ensures.all m
            (meets_apart (map v c.args.a.now) (map v c.args.b.now) m (map v c.in_ok-left.left) (map v c.in_ok-right.right) (inv_value (coefficient (map v c.args.b.now) (length c.args.b.now - 1)))
            (λ x. (c.in_ok-left.ensures.divisors x).1) c.in_ok-right.ensures.value meets),
        meets,
      ),
    )
