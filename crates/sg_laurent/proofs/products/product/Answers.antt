use Rattle.sg_laurent.proofs.Adding.{product_start, product_step, product_end, nothing_normal}
use Rattle.sg_laurent.proofs.products.product.Goals as goal

pub loop-i-init : goal.loop-i-init
loop-i-init g c = rw c.new-row.ensures (record { value = product_start g.K.Field.val c.args.n c.args.ys.now; normal = nothing_normal g.K.Field.val c.args.n })

pub loop-i-preserved : goal.loop-i-preserved
loop-i-preserved g c = record {
  value = product_step g.K.Field.val c.args.n c.args.xs.now c.loop-i.i c.index-xs-i.result c.args.ys.now c.loop-i.row c.in_ok-row.row c.loop-i-test.true c.index-xs-i.is c.loop-i.invariant.value c.in_ok-row.ensures.value;
  normal = c.in_ok-row.ensures.normal;
}

pub returns-clause-value : goal.returns-clause-value
returns-clause-value g c = product_end g.K.Field.val c.args.n c.args.xs.now c.loop-i.i c.args.ys.now c.loop-i.row c.loop-i-test.false c.loop-i.invariant.value
