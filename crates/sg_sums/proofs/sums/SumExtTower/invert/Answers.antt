use Rattle.std.proofs.Common.{IsTrue, ◌∙◌, arith}
use Rattle.sg_sums.proofs.Zeros.{unit_raised, no_unit_lowest, zero_same, low_same}
use Rattle.sg_sums.proofs.sums.SumExtTower.invert.Goals as goal

pub returns-in-None-clause-none : goal.returns-in-None-clause-none
returns-in-None-clause-none g c = no_unit_lowest (g.T.Tower.reading g.T.K.Field.vars g.T.K.Field.val c.args.self.now.below) c.args.self.now.beta c.args.e.now c.in_ok-lowest.lowest
    (low_same (g.T.Tower.reading g.T.K.Field.vars g.T.K.Field.val c.args.self.now.below) c.row-2.result.now c.args.e.now c.in_ok-lowest.lowest c.row-2.ensures c.in_ok-lowest.ensures.value) (rw c.in-None.is at c.in_ok-invert.ensures.none)

pub returns-clause-some : goal.returns-clause-some
returns-clause-some g c =
    let s : IsTrue c.zero_from.result = grind (arith, c.if-not-zero_from.false) in
    unit_raised (g.T.Tower.reading g.T.K.Field.vars g.T.K.Field.val c.args.self.now.below) c.args.self.now.beta c.args.e.now c.in_ok-lowest.lowest c.in-Some.low c.of.result
    (zero_same (g.T.Tower.reading g.T.K.Field.vars g.T.K.Field.val c.args.self.now.below) c.row.result.now c.args.e.now c.row.ensures (c.zero_from.ensures.0 s))
    (low_same (g.T.Tower.reading g.T.K.Field.vars g.T.K.Field.val c.args.self.now.below) c.row-2.result.now c.args.e.now c.in_ok-lowest.lowest c.row-2.ensures c.in_ok-lowest.ensures.value)
    (rw c.in-Some.is at c.in_ok-invert.ensures.some) (c.of.ensures ∙ c.in_ok-coeffs-in-Some.ensures.value)
