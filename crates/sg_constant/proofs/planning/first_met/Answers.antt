use Rattle.std.proofs.Common.{◌<◌, ℤ, length, map, get_or, arith, rules, FitsSigned, subst, sym}
use Rattle.std.specs.Int.{w128}
use Rattle.std.proofs.lemmas.Int.{to_z-of_z}
use Rattle.sg_spread.specs.Shifts.{Meets}
use Rattle.sg_constant.specs.Shares.{lower_at}
use Rattle.sg_constant.proofs.Plans.{lowers_at, lower_get}
use Rattle.sg_constant.proofs.planning.first_met.Goals as goal

pub first_shift-requires-clause-right : goal.first_shift-requires-clause-right
first_shift-requires-clause-right g c = lowers_at g.F.Field.val c.args.list.now c.loop-i.i c.index-list-i.result (omega arith) c.requires.right

pub returns-in-Some-clause-some : goal.returns-in-Some-clause-some
returns-in-Some-clause-some g c =
    let v = g.F.Field.val in
    let within : c.loop-i.i < length c.args.list.now = omega arith in
    let fits : FitsSigned w128 c.in-Some.shift = search rules in
    let some : Meets (map v c.args.w.now) (map v (get_or c.args.list.now c.loop-i.i c.index-list-i.result).lower) c.in-Some.shift = rw c.in-Some.is at c.in_ok-met.ensures.some in (
      within,
      subst (λ (n : ℤ). Meets (map v c.args.w.now) (map v (lower_at c.args.list.now c.loop-i.i)) n) (sym (to_z-of_z w128 c.in-Some.shift fits))
          (subst (λ l. Meets (map v c.args.w.now) (map v l) c.in-Some.shift) (sym (lower_get c.args.list.now c.loop-i.i c.index-list-i.result within)) some),
    )
