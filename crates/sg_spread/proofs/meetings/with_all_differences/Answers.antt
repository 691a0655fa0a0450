use Rattle.std.proofs.Common.{ℤ, pos, get_or, arith, rules, FitsSigned}
use Rattle.std.specs.Int.{w128}
use Rattle.std.proofs.lemmas.Int.{to_z-of_z}
use Rattle.std.proofs.lemmas.List.{get_or_default}
use Rattle.sg_spread.proofs.Lists.{all_differ_next, all_differ_end}
use Rattle.sg_spread.proofs.meetings.with_all_differences.Goals as goal

pub loop-i-preserved : goal.loop-i-preserved
loop-i-preserved c =
    let v : ℤ = get_or c.args.r.now c.loop-i.i (pos 0) in
    let fits : FitsSigned w128 (get_or c.args.r.now c.loop-i.i (pos 0)) = search rules in
    let new = simp to_z-of_z at c.in_ok-row.ensures.items in
    record {
      ascending = c.in_ok-row.ensures.ascending;
      items = all_differ_next c.args.r.now c.loop-i.i v c.loop-i-test.true (get_or_default c.args.r.now c.loop-i.i v (pos 0) c.loop-i-test.true) c.args.list c.args.s.now c.loop-i.row c.in_ok-row.row c.loop-i.invariant.items new;
    }

pub returns-clause-items : goal.returns-clause-items
returns-clause-items c = all_differ_end c.args.list c.args.r.now c.args.s.now c.loop-i.row c.loop-i.i (omega arith) c.loop-i.invariant.items
