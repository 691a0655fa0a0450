use Rattle.std.proofs.Common.{refl, arith}
use Rattle.sg_bottom.proofs.Solving.{functions_next, functions_whole}
use Rattle.sg_bottom.proofs.functions.functions_of.Goals as goal

pub loop-i-preserved : goal.loop-i-preserved
loop-i-preserved g c = functions_next g.F.Field.val c.args.fs.now c.loop-i.functions _ c.loop-i.i c.get.result.now c.in_ok-f.f c.loop-i.invariant (omega arith) c.get.ensures
    (c.in_ok-f.ensures.value tt refl) c.in_ok-push.ensures.ok

pub returns-clause-value : goal.returns-clause-value
returns-clause-value g c = functions_whole g.F.Field.val c.args.fs.now c.loop-i.functions c.loop-i.i c.loop-i.invariant (omega arith)
