use Rattle.std.proofs.Common.{arith, ◌-◌, map}
use Rattle.sg_algebra.proofs.Rows.{product_more}
use Rattle.sg_poly.proofs.kernel.product_at.Goals as goal

pub loop-j-preserved : goal.loop-j-preserved
loop-j-preserved g c = product_more g.F.Field.val c.args.p.now (map g.F.Field.val c.args.q.now) c.args.n c.loop-j.j (c.loop-j.j - 1) c.index-p-j.result (g.F.Field.val c.loop-j.sum) (g.F.Field.val c.in_ok-sum-2.sum)
    c.loop-j.invariant (omega arith) c.index-p-j.is c.in_ok-sum-2.ensures.value
