use Rattle.std.proofs.Common.{map, arith}
use Rattle.sg_ratfun.proofs.Probing.{put_behind, gathered_step, all_gathered}
use Rattle.sg_ratfun.proofs.probe.gathered.Goals as goal

pub loop-i-preserved : goal.loop-i-preserved
loop-i-preserved g c =
    gathered_step g.F.Field.val (map g.F.Field.val c.loop-i.row) (map g.F.Field.val c.push_copies.new.row) (map g.F.Field.val c.push_copies-in-loop-i.new.row) c.args.list.now c.loop-i.i c.get-item.result.now _ (omega arith) c.get-item.ensures
    (put_behind g.F.Field.val (map g.F.Field.val c.loop-i.row) c.in_ok-push_copies.ensures.values c.coeffs.ensures.value c.upper.ensures.value)
    (put_behind g.F.Field.val (map g.F.Field.val c.push_copies.new.row) c.in_ok-push_copies-2.ensures.values c.coeffs-in-loop-i.ensures.value c.lower.ensures.value) c.loop-i.invariant

pub returns-clause-value : goal.returns-clause-value
returns-clause-value g c = all_gathered g.F.Field.val (map g.F.Field.val c.loop-i.row) c.args.list.now c.loop-i.i _ (omega arith) c.loop-i.invariant
