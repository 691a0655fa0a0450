use Rattle.std.proofs.Common.{IsTrue, rules, arith}
use Rattle.sg_sums.proofs.Zeros.{zero_here, zero_next, zero_whole}
use Rattle.sg_sums.proofs.sums.zero_from.Goals as goal

pub returns-then-not-is_zero : goal.returns-then-not-is_zero
returns-then-not-is_zero g c = (
  λ t. search (rules, t),
  λ h. let s : IsTrue c.is_zero.result = c.is_zero.ensures.1 (zero_here (g.T.Tower.reading g.T.K.Field.vars g.T.K.Field.val c.args.below.now) c.args.p.now c.loop-i.i c.get.result.now (omega arith) c.get.ensures (h c.loop-i.i (omega arith))) in grind (arith, s, c.if-not-is_zero.true),
)

pub loop-i-preserved : goal.loop-i-preserved
loop-i-preserved g c =
    let s : IsTrue c.is_zero.result = grind (arith, c.if-not-is_zero.false) in
    zero_next (g.T.Tower.reading g.T.K.Field.vars g.T.K.Field.val c.args.below.now) c.args.p.now c.args.n c.loop-i.i c.get.result.now c.loop-i.invariant (omega arith) c.get.ensures (c.is_zero.ensures.0 s)

pub returns : goal.returns
returns g c = (λ t. zero_whole (g.T.Tower.reading g.T.K.Field.vars g.T.K.Field.val c.args.below.now) c.args.p.now c.args.n c.loop-i.i c.loop-i.invariant (omega arith), λ h. search rules)
