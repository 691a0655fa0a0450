use Rattle.std.proofs.Common.{◌≡◌, ◌-◌, ◌≤◌, ◌++◌, ◌∙◌, ℤ, map, take, drop, length, ap, ap₂, sym, Contains, [], inl, inr, ◌↔◌, arith, rules}
use Rattle.sg_algebra.proofs.Divides.{Divides, dvd_refl}
use Rattle.sg_algebra.proofs.Lists.{length_map}
use Rattle.sg_algebra.proofs.Polynomial.{PolynomialR, poly, coefficient}
use Rattle.sg_algebra.proofs.Value.{inv_value}
use Rattle.sg_num.specs.Value.{number}
use Rattle.sg_spread.specs.Shifts.{AreShifts, Meets}
use Rattle.sg_spread.proofs.Apart.{meets_or_coprime, meets_common}
use Rattle.sg_spread.proofs.Candidates.{monic_ends, inside_values, some_values, other_values, in_values, exact_values, coprime_divisors}
use Rattle.sg_spread.proofs.Meeting.{meets_multiples, meets_apart, meets_left_constant, meets_right_constant}
use Rattle.sg_spread.proofs.shifts.spread.Goals as goal

nothing : (m : ℤ) → Contains [] m → ⊥
nothing m h = let inside = h.1 in omega arith

pub returns-then-coeffs-lt2-clause-shifts : goal.returns-then-coeffs-lt2-clause-shifts
returns-then-coeffs-lt2-clause-shifts g c = λ m.
    let v = g.F.Field.val in
    let few : length c.coeffs.result.now ≤ 1 = omega (arith, c.if-coeffs-lt2.true) in
    let short : length (map v c.in_ok-left.left) ≤ 1 = rw (length_map v c.in_ok-left.left) (rw c.coeffs.ensures.value at few) in (
      λ h. absurd (nothing m (rw c.new.ensures at h)),
      λ meets. absurd (meets_left_constant (map v c.in_ok-left.left) (map v c.in_ok-right.right) m c.in_ok-left.ensures.some short
          (meets_multiples (map v c.args.a.now) (map v c.args.b.now) m (map v c.in_ok-left.left) (map v c.in_ok-right.right) (inv_value (coefficient (map v c.args.b.now) (length c.args.b.now - 1)))
          (λ x. (c.in_ok-left.ensures.divisors x).1) c.in_ok-right.ensures.value meets)),
    )

pub returns-then-coeffs-lt2-2-clause-shifts : goal.returns-then-coeffs-lt2-2-clause-shifts
returns-then-coeffs-lt2-2-clause-shifts g c = λ m.
    let v = g.F.Field.val in
    let few : length c.coeffs-2.result.now ≤ 1 = omega (arith, c.if-coeffs-lt2-2.true) in
    let short : length (map v c.in_ok-right.right) ≤ 1 = rw (length_map v c.in_ok-right.right) (rw c.coeffs-2.ensures.value at few) in (
      λ h. absurd (nothing m (rw c.new-then-coeffs-lt2-2.ensures at h)),
      λ meets. absurd (meets_right_constant (map v c.in_ok-left.left) (map v c.in_ok-right.right) m c.in_ok-right.ensures.some short
          (meets_multiples (map v c.args.a.now) (map v c.args.b.now) m (map v c.in_ok-left.left) (map v c.in_ok-right.right) (inv_value (coefficient (map v c.args.b.now) (length c.args.b.now - 1)))
          (λ x. (c.in_ok-left.ensures.divisors x).1) c.in_ok-right.ensures.value meets)),
    )

pub shifts_of_values-requires-clause-inside : goal.shifts_of_values-requires-clause-inside
shifts_of_values-requires-clause-inside g c = rw c.as_slice.ensures (inside_values g.F.Field.vars g.F.Field.val c.in_ok-list.list c.in_ok-probe.probe.args c.in_ok-probe.probe.values (map g.F.Field.val c.in_ok-left.left) (map g.F.Field.val c.in_ok-right.right) (length c.coeffs-5.result.now) c.in_ok-probe.ensures.value
    (c.in_ok-list.ensures.value ∙ ap₂ (λ x y. map g.F.Field.val x ++ map g.F.Field.val y) c.coeffs-3.ensures.value c.coeffs-4.ensures.value)
    (monic_ends (map g.F.Field.val c.in_ok-left.left) c.in_ok-left.ensures.monic c.coeffs.ensures.ends) (monic_ends (map g.F.Field.val c.in_ok-right.right) c.in_ok-right.ensures.monic c.coeffs-2.ensures.ends)
    (ap length c.coeffs-5.ensures.value ∙ sym (length_map g.F.Field.val c.in_ok-left.left)))

pub shifts_of_values-requires-clause-left : goal.shifts_of_values-requires-clause-left
shifts_of_values-requires-clause-left g c = rw c.as_slice.ensures (some_values g.F.Field.vars g.F.Field.val c.in_ok-list.list c.in_ok-probe.probe.args c.in_ok-probe.probe.values (map g.F.Field.val c.in_ok-left.left) (map g.F.Field.val c.in_ok-right.right) (length c.coeffs-5.result.now) c.in_ok-probe.ensures.value
    (c.in_ok-list.ensures.value ∙ ap₂ (λ x y. map g.F.Field.val x ++ map g.F.Field.val y) c.coeffs-3.ensures.value c.coeffs-4.ensures.value)
    (monic_ends (map g.F.Field.val c.in_ok-left.left) c.in_ok-left.ensures.monic c.coeffs.ensures.ends) (monic_ends (map g.F.Field.val c.in_ok-right.right) c.in_ok-right.ensures.monic c.coeffs-2.ensures.ends)
    (ap length c.coeffs-5.ensures.value ∙ sym (length_map g.F.Field.val c.in_ok-left.left)))

pub shifts_of_values-requires-clause-right : goal.shifts_of_values-requires-clause-right
shifts_of_values-requires-clause-right g c = rw c.as_slice.ensures (other_values g.F.Field.vars g.F.Field.val c.in_ok-list.list c.in_ok-probe.probe.args c.in_ok-probe.probe.values (map g.F.Field.val c.in_ok-left.left) (map g.F.Field.val c.in_ok-right.right) (length c.coeffs-5.result.now) c.in_ok-probe.ensures.value
    (c.in_ok-list.ensures.value ∙ ap₂ (λ x y. map g.F.Field.val x ++ map g.F.Field.val y) c.coeffs-3.ensures.value c.coeffs-4.ensures.value)
    (monic_ends (map g.F.Field.val c.in_ok-left.left) c.in_ok-left.ensures.monic c.coeffs.ensures.ends) (monic_ends (map g.F.Field.val c.in_ok-right.right) c.in_ok-right.ensures.monic c.coeffs-2.ensures.ends)
    (ap length c.coeffs-5.ensures.value ∙ sym (length_map g.F.Field.val c.in_ok-left.left)))

pub returns-then-is_empty-clause-shifts : goal.returns-then-is_empty-clause-shifts
returns-then-is_empty-clause-shifts g c = λ m.
    let v = g.F.Field.val in
    let a = map v c.in_ok-left.left in
    let b = map v c.in_ok-right.right in
    let n = length c.coeffs-5.result.now in
    let f : Contains c.in_ok-all.all m ↔ Meets (map number (take n c.in_ok-probe.probe.values)) (map number (drop n c.in_ok-probe.probe.values)) m = rw c.as_slice.ensures at (c.in_ok-all.ensures.shifts m) in
    let empty : length c.in_ok-probe.probe.args ≡ 0 = search rules in
    let left : Divides (PolynomialR g.F.Field.vars) (poly a) (poly (map v c.args.a.now)) = (c.in_ok-left.ensures.divisors (poly a)).0 (dvd_refl (PolynomialR g.F.Field.vars) (poly a)) in
    let right : Divides (PolynomialR g.F.Field.vars) (poly b) (poly (map v c.args.b.now)) = (c.in_ok-right.ensures.divisors (poly b)).0 (dvd_refl (PolynomialR g.F.Field.vars) (poly b)) in (
      λ h. elim (meets_or_coprime (map v c.args.a.now) (map v c.args.b.now) m c.requires.left) [
        | inl k ↦ k
        | inr k ↦ absurd (meets_common (map number (take n c.in_ok-probe.probe.values)) (map number (drop n c.in_ok-probe.probe.values)) m (f.0 h)
            (exact_values g.F.Field.vars v c.in_ok-list.list c.in_ok-probe.probe.args c.in_ok-probe.probe.values a b n m c.in_ok-probe.ensures.value empty
            (c.in_ok-list.ensures.value ∙ ap₂ (λ x y. map v x ++ map v y) c.coeffs-3.ensures.value c.coeffs-4.ensures.value)
            (ap length c.coeffs-5.ensures.value ∙ sym (length_map v c.in_ok-left.left))
            (coprime_divisors (map v c.args.a.now) (map v c.args.b.now) a b m left right k)))
      ],
      λ meets. in_values g.F.Field.vars g.F.Field.val c.in_ok-list.list c.in_ok-probe.probe.args c.in_ok-probe.probe.values (map g.F.Field.val c.in_ok-left.left) (map g.F.Field.val c.in_ok-right.right) (length c.coeffs-5.result.now) c.in_ok-probe.ensures.value
          (c.in_ok-list.ensures.value ∙ ap₂ (λ x y. map g.F.Field.val x ++ map g.F.Field.val y) c.coeffs-3.ensures.value c.coeffs-4.ensures.value)
          (monic_ends (map g.F.Field.val c.in_ok-left.left) c.in_ok-left.ensures.monic c.coeffs.ensures.ends) (monic_ends (map g.F.Field.val c.in_ok-right.right) c.in_ok-right.ensures.monic c.coeffs-2.ensures.ends)
          (ap length c.coeffs-5.ensures.value ∙ sym (length_map g.F.Field.val c.in_ok-left.left)) c.in_ok-all.all m f
          (meets_apart (map v c.args.a.now) (map v c.args.b.now) m a b (inv_value (coefficient (map v c.args.b.now) (length c.args.b.now - 1)))
          (λ x. (c.in_ok-left.ensures.divisors x).1) c.in_ok-right.ensures.value meets),
    )

pub returns-clause-shifts : goal.returns-clause-shifts
returns-clause-shifts g c = λ m.
    let v = g.F.Field.val in
    let a = map v c.in_ok-left.left in
    let b = map v c.in_ok-right.right in
    let n = length c.coeffs-5.result.now in
    let f : Contains c.in_ok-all.all m ↔ Meets (map number (take n c.in_ok-probe.probe.values)) (map number (drop n c.in_ok-probe.probe.values)) m = rw c.as_slice.ensures at (c.in_ok-all.ensures.shifts m) in
    let k : AreShifts (map v c.args.a.now) (map v c.args.b.now) c.in_ok-all.all c.in_ok-shifts.shifts = rw c.as_slice-2.ensures at c.in_ok-shifts.ensures.value in (
      λ h. ((k.kept m).0 h).1,
      λ meets. (k.kept m).1 (
        in_values g.F.Field.vars g.F.Field.val c.in_ok-list.list c.in_ok-probe.probe.args c.in_ok-probe.probe.values (map g.F.Field.val c.in_ok-left.left) (map g.F.Field.val c.in_ok-right.right) (length c.coeffs-5.result.now) c.in_ok-probe.ensures.value
            (c.in_ok-list.ensures.value ∙ ap₂ (λ x y. map g.F.Field.val x ++ map g.F.Field.val y) c.coeffs-3.ensures.value c.coeffs-4.ensures.value)
            (monic_ends (map g.F.Field.val c.in_ok-left.left) c.in_ok-left.ensures.monic c.coeffs.ensures.ends) (monic_ends (map g.F.Field.val c.in_ok-right.right) c.in_ok-right.ensures.monic c.coeffs-2.ensures.ends)
            (ap length c.coeffs-5.ensures.value ∙ sym (length_map g.F.Field.val c.in_ok-left.left)) c.in_ok-all.all m f
            (meets_apart (map v c.args.a.now) (map v c.args.b.now) m a b (inv_value (coefficient (map v c.args.b.now) (length c.args.b.now - 1)))
            (λ x. (c.in_ok-left.ensures.divisors x).1) c.in_ok-right.ensures.value meets),
        meets,
      ),
    )
