use Rattle.std.proofs.Common.{map, arith}
use Rattle.sg_algebra.proofs.Polynomial.{coefficient}
use Rattle.sg_products.proofs.Combining.{combined_start, combined_next, combined_whole}
use Rattle.sg_products.proofs.rows.combined.Goals as goal

pub loop-i-init : goal.loop-i-init
loop-i-init g c = combined_start g.F.Field.val c.args.alphas.now _ _ c.new.ensures c.zero.ensures c.zero-2.ensures

pub loop-i-preserved : goal.loop-i-preserved
loop-i-preserved g c = combined_next g.F.Field.val c.args.alphas.now (coefficient (map g.F.Field.val c.args.cs.now)) c.args.rows.now c.loop-i.i _ _ c.loop-i.sum _
    c.loop-i.invariant (omega arith) c.get.ensures c.in_ok-c.ensures.value c.in_ok-sum.ensures.value

pub returns-clause-value : goal.returns-clause-value
returns-clause-value g c = combined_whole g.F.Field.val c.args.alphas.now (coefficient (map g.F.Field.val c.args.cs.now)) c.args.rows.now c.loop-i.i c.loop-i.sum c.loop-i.invariant (omega arith)
