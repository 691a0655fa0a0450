use Rattle.std.proofs.Common.{IsTrue, arith}
use Rattle.sg_sums.proofs.Zeros.{if_some_to, if_none_to, constant_is, none_lowest, zero_same, low_same}
use Rattle.sg_sums.proofs.sums.SumExtTower.constant_of.Goals as goal

pub returns-clause-some : goal.returns-clause-some
returns-clause-some g c =
    let s : IsTrue c.zero_from.result = grind (arith, c.if-not-zero_from.false) in
    if_some_to c.in_ok-c.c _ _ (λ k h. constant_is (g.T.Tower.reading g.T.K.Field.vars g.T.K.Field.val c.args.self.now.below) c.args.self.now.beta g.T.K.Field.val c.args.e.now c.in_ok-lowest.lowest k (zero_same (g.T.Tower.reading g.T.K.Field.vars g.T.K.Field.val c.args.self.now.below) c.row.result.now c.args.e.now c.row.ensures (c.zero_from.ensures.0 s))
    (low_same (g.T.Tower.reading g.T.K.Field.vars g.T.K.Field.val c.args.self.now.below) c.row-2.result.now c.args.e.now c.in_ok-lowest.lowest c.row-2.ensures c.in_ok-lowest.ensures.value) h) c.in_ok-c.ensures.some

pub returns-clause-none : goal.returns-clause-none
returns-clause-none g c = if_none_to c.in_ok-c.c _ _ (none_lowest (g.T.Tower.reading g.T.K.Field.vars g.T.K.Field.val c.args.self.now.below) c.args.self.now.beta c.args.e.now c.in_ok-lowest.lowest (low_same (g.T.Tower.reading g.T.K.Field.vars g.T.K.Field.val c.args.self.now.below) c.row-2.result.now c.args.e.now c.in_ok-lowest.lowest c.row-2.ensures c.in_ok-lowest.ensures.value)) c.in_ok-c.ensures.none
