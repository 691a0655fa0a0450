use Rattle.sg_text.proofs.Depth.{flat-next, flat-deep}
use Rattle.sg_text.proofs.reader.first_deep.Goals as goal

pub returns-then-count-most : goal.returns-then-count-most
returns-then-count-most c =
    flat-deep c.args.text.now c.args.most c.loop-i.i c.loop-i.count c.counted-count.result c.loop-i-test.true c.loop-i.invariant c.counted-count.ensures c.if-count-most.true

pub loop-i-preserved : goal.loop-i-preserved
loop-i-preserved c =
    flat-next c.args.text.now c.args.most c.loop-i.i c.loop-i.count c.counted-count.result c.loop-i-test.true c.loop-i.invariant c.counted-count.ensures c.if-count-most.false
