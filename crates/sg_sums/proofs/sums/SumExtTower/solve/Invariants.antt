use Rattle.std.proofs.Common.{◌+◌, ◌-◌}
use Rattle.sg_sums.specs.Polynomials.{State}
use Rattle.sg_sums.proofs.sums.SumExtTower.solve.Given as goal

abbrev pub invariant-loop-i : goal.invariant-loop-i
invariant-loop-i g l = State (g.T.Tower.reading g.T.K.Field.vars g.T.K.Field.val l.self.below) g.T.K.Field.val l.self.beta l.fs (l.degree - l.i + 1) l.rows
