use Rattle.std.proofs.Common.{ℤ, pos, get_or, arith, rules, FitsSigned}
use Rattle.std.specs.Int.{w128}
use Rattle.std.proofs.lemmas.Int.{to_z-of_z}
use Rattle.std.proofs.lemmas.List.{get_or_default}
use Rattle.sg_spread.proofs.Lists.{divided_next, divided_end}
use Rattle.sg_spread.proofs.meetings.divided.Goals as goal

pub loop-i-preserved : goal.loop-i-preserved
loop-i-preserved c =
    let fits_c : FitsSigned w128 c.args.c = search rules in
    let v : ℤ = get_or c.args.list.now c.loop-i.i (pos 0) in
    let fits : FitsSigned w128 (get_or c.args.list.now c.loop-i.i (pos 0)) = search rules in
    let step = simp to_z-of_z at c.in_ok-keep_quotient.ensures.value in
    let old = simp to_z-of_z at c.loop-i.invariant in
    rw (to_z-of_z w128 c.args.c fits_c)
    (divided_next c.args.list.now c.loop-i.i v c.requires.ascending c.loop-i-test.true (get_or_default c.args.list.now c.loop-i.i v (pos 0) c.loop-i-test.true) c.args.c c.loop-i.row c.keep_quotient.new.row c.requires.some old step)

pub returns-clause-items : goal.returns-clause-items
returns-clause-items c =
    let fits_c : FitsSigned w128 c.args.c = search rules in
    (divided_end c.args.c c.args.list.now c.loop-i.row c.loop-i.i (omega arith) (simp to_z-of_z at c.loop-i.invariant)).items
