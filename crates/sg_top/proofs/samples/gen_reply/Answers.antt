use Rattle.std.proofs.Common.{arith}
use Rattle.sg_top.proofs.Sampling.{tallied-none, tallied-more, tallied-few, tallied-bytes, tallied-line}
use Rattle.sg_top.proofs.samples.gen_reply.Goals as goal

pub and-tally-requires-clause-few : goal.and-tally-requires-clause-few
and-tally-requires-clause-few c = tallied-few c.args.seed c.loop-i.i c.args.count c.loop-i.tally c.loop-i.invariant c.loop-i-test.true c.ranges.count.fits

pub and-tally-requires-clause-few_bytes : goal.and-tally-requires-clause-few_bytes
and-tally-requires-clause-few_bytes c = tallied-bytes c.args.seed c.loop-i.i c.args.count c.loop-i.tally c.loop-i.invariant c.loop-i-test.true c.ranges.count.fits

pub loop-i-init : goal.loop-i-init
loop-i-init c = tallied-none c.args.seed

pub loop-i-preserved : goal.loop-i-preserved
loop-i-preserved c =
    tallied-more c.args.seed c.loop-i.i c.loop-i.tally c.and-tally.result c.in_ok-reply.reply.status c.in_ok-reply.reply.text.items c.loop-i.invariant c.in_ok-reply.ensures c.and-tally.ensures.closed
    c.and-tally.ensures.none c.and-tally.ensures.wide c.and-tally.ensures.bytes c.and-tally.ensures.size

pub returns : goal.returns
returns c = rw c.done.ensures (tallied-line c.args.seed c.loop-i.i c.args.count c.loop-i.tally _ c.loop-i.invariant (omega (arith, c.loop-i-test.false, c.loop-i.auto)) c.in_ok-text.ensures)
