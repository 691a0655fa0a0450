use Rattle.std.proofs.Common.{ℤ, pos, map, get_or, rules, FitsSigned}
use Rattle.std.specs.Int.{w128}
use Rattle.std.proofs.lemmas.Int.{to_z-of_z}
use Rattle.std.proofs.lemmas.List.{get_or_default}
use Rattle.sg_spread.proofs.Confirmed.{confirmed_next}
use Rattle.sg_spread.proofs.elimination.confirmed.Goals as goal

pub loop-i-preserved : goal.loop-i-preserved
loop-i-preserved g c =
    let m : ℤ = get_or c.args.candidates.now c.loop-i.i (pos 0) in
    let fits : FitsSigned w128 (get_or c.args.candidates.now c.loop-i.i (pos 0)) = search rules in
    let step = simp to_z-of_z at c.in_ok-confirm.ensures.value in
    confirmed_next (map g.F.Field.val c.args.a.now) (map g.F.Field.val c.args.b.now) c.args.candidates.now c.loop-i.shifts c.confirm.new.shifts c.loop-i.i m c.requires.ascending c.loop-i-test.true
    (get_or_default c.args.candidates.now c.loop-i.i m (pos 0) c.loop-i-test.true) c.loop-i.invariant step
