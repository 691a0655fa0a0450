use Rattle.std.proofs.Common.{◌≡◌, ◌≢◌, sym, subst, map, ℤ, List, pos, ◌*ℤ◌, ◌<ℤ◌, ◌↔◌, Contains, arith, rules, FitsSigned}
use Rattle.std.specs.Int.{w128}
use Rattle.std.proofs.lemmas.Int.{to_z-of_z, ints}
use Rattle.sg_algebra.proofs.Polynomial.{poly, zero_polynomial}
use Rattle.sg_num.specs.Value.{number}
use Rattle.sg_num.specs.declared.rat.Rat.{Rat}
use Rattle.sg_spread.specs.Shifts.{Meets}
use Rattle.sg_spread.proofs.Apart.{scaled_some, unit_meets}
use Rattle.sg_spread.proofs.meetings.shifts_of_values.Goals as goal

not_zero : (c : ℤ) → pos 0 <ℤ c → c ≢ pos 0
not_zero c h e = omega (arith, ints)

pub meetings-requires-clause-left : goal.meetings-requires-clause-left
meetings-requires-clause-left c =
    let fits : FitsSigned w128 c.common_unit-c.result = search rules in
    let value = simp to_z-of_z at c.in_ok-left.ensures.value in
    scaled_some c.common_unit-c.result (not_zero c.common_unit-c.result c.common_unit-c.ensures) (map number c.split_at.result.0.now) (map number c.in_ok-left.left) value
    (subst (λ (l : List Rat). ¬ (poly (map number l) ≡ zero_polynomial)) (sym c.split_at.ensures.front) c.requires.left)

pub meetings-requires-clause-right : goal.meetings-requires-clause-right
meetings-requires-clause-right c =
    let fits : FitsSigned w128 c.common_unit-c.result = search rules in
    let value = simp to_z-of_z at c.in_ok-right.ensures.value in
    scaled_some c.common_unit-c.result (not_zero c.common_unit-c.result c.common_unit-c.ensures) (map number c.split_at.result.1.now) (map number c.in_ok-right.right) value
    (subst (λ (l : List Rat). ¬ (poly (map number l) ≡ zero_polynomial)) (sym c.split_at.ensures.back) c.requires.right)

pub returns-clause-shifts : goal.returns-clause-shifts
returns-clause-shifts c = λ m.
    let fits : FitsSigned w128 c.common_unit-c.result = search rules in
    let a = simp to_z-of_z at c.in_ok-left.ensures.value in
    let b = simp to_z-of_z at c.in_ok-right.ensures.value in
    let is : Contains c.in_ok-shifts.shifts m ↔ Contains c.in_ok-list.list (c.common_unit-c.result *ℤ m) = simp to_z-of_z at (rw c.as_slice.ensures at (c.in_ok-shifts.ensures.items m)) in
    let met = c.in_ok-list.ensures.shifts (c.common_unit-c.result *ℤ m) in
    let moved = unit_meets c.common_unit-c.result (not_zero c.common_unit-c.result c.common_unit-c.ensures) (map number c.split_at.result.0.now) (map number c.split_at.result.1.now) (map number c.in_ok-left.left) (map number c.in_ok-right.right) m a b
    (subst (λ (l : List Rat). ¬ (poly (map number l) ≡ zero_polynomial)) (sym c.split_at.ensures.front) c.requires.left) in
    let both : Contains c.in_ok-shifts.shifts m ↔ Meets (map number c.split_at.result.0.now) (map number c.split_at.result.1.now) m = (λ h. moved.0 (met.0 (is.0 h)), λ k. is.1 (met.1 (moved.1 k))) in
    rw (c.split_at.ensures.front, c.split_at.ensures.back) at both
