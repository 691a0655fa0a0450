use Rattle.std.proofs.Common.{refl, arith}
use Rattle.sg_products.proofs.Combining.{start_row, start_next, start_whole}
use Rattle.sg_products.proofs.rows.start.Goals as goal

pub loop-i-preserved : goal.loop-i-preserved
loop-i-preserved g c = start_next g.F.Field.val c.args.alphas.now c.args.fs.now c.loop-i.rows _ c.loop-i.i c.get.result.now _ c.loop-i.invariant (omega arith) c.get.ensures
    (start_row g.F.Field.val c.args.alphas.now c.args.fs.now c.loop-i.i c.get.result.now _ (omega arith) c.get.ensures c.in_ok-coeffs.ensures.value c.zero-value.ensures c.in_ok-left.ensures.value)
    c.in_ok-push.ensures.ok

pub returns-clause-value : goal.returns-clause-value
returns-clause-value g c = start_whole g.F.Field.val c.args.alphas.now c.args.fs.now c.loop-i.rows c.loop-i.i c.loop-i.invariant (omega arith)
