use Rattle.std.proofs.Common.{◌<◌, ℤ, Contains, length, map, arith, rules, FitsSigned, subst, sym}
use Rattle.std.specs.Int.{w128}
use Rattle.std.proofs.lemmas.Int.{to_z-of_z}
use Rattle.sg_spread.specs.Shifts.{Meets}
use Rattle.sg_constant.proofs.Plans.{nothing_inside, length_nothing, last_inside}
use Rattle.sg_constant.proofs.planning.first_shift.Goals as goal

pub returns-then-n-eq0-clause-none : goal.returns-then-n-eq0-clause-none
returns-then-n-eq0-clause-none g c m meets = nothing_inside m (subst (λ l. Contains l m) (length_nothing c.in_ok-shifts.shifts (omega arith)) ((c.in_ok-shifts.ensures.shifts m).1 meets))

pub returns-clause-some : goal.returns-clause-some
returns-clause-some g c =
    let v = g.F.Field.val in
    let fits : FitsSigned w128 c.get-m.result.now = search rules in
    let some : 0 < length c.in_ok-shifts.shifts = omega arith in
    subst (λ (n : ℤ). Meets (map v c.args.w.now) (map v c.args.v.now) n) (sym (to_z-of_z w128 c.get-m.result.now fits))
    ((c.in_ok-shifts.ensures.shifts c.get-m.result.now).0 (last_inside c.in_ok-shifts.shifts 0 c.get-m.result.now some c.get-m.ensures))
