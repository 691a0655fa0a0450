use Rattle.std.proofs.Common.{refl, length, arith}
use Rattle.sg_products.specs.Solving.{IsSide}
use Rattle.sg_products.proofs.Flattening.{pairwise_next, pairwise_whole}
use Rattle.sg_products.proofs.Slicing.{side_call}
use Rattle.sg_products.proofs.solve.sides.Goals as goal

pub loop-i-init : goal.loop-i-init
loop-i-init g c = rw c.new-ls.ensures tt

pub loop-i-preserved : goal.loop-i-preserved
loop-i-preserved g c = pairwise_next (IsSide g.F.Field.val c.args.alphas.now c.args.e.now) c.args.rows.now c.loop-i.ls _ c.loop-i.i c.get-row.result.now c.in_ok-x.x c.loop-i.invariant (omega arith) c.get-row.ensures
    (side_call g.F.Field.val c.args.alphas.now (length c.args.alphas.now) c.args.e.now c.get-row.result.now c.in_ok-x.x refl c.requires c.in_ok-x.ensures.value) c.in_ok-push.ensures.ok

pub returns-clause-value : goal.returns-clause-value
returns-clause-value g c = pairwise_whole (IsSide g.F.Field.val c.args.alphas.now c.args.e.now) c.args.rows.now c.loop-i.ls c.loop-i.i c.loop-i.invariant (omega arith)
