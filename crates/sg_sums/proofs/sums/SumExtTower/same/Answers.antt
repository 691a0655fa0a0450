use Rattle.sg_sums.proofs.Zeros.{equal_of_zero, zero_of_equal, swapped}
use Rattle.sg_sums.proofs.sums.SumExtTower.same.Goals as goal

pub returns-clause-value : goal.returns-clause-value
returns-clause-value g c = (
  λ t. swapped (g.T.Tower.reading g.T.K.Field.vars g.T.K.Field.val c.args.self.now.below) c.args.self.now.beta c.args.x.now c.args.y.now (equal_of_zero (g.T.Tower.reading g.T.K.Field.vars g.T.K.Field.val c.args.self.now.below) c.args.self.now.beta c.args.x.now c.args.y.now c.in_ok-difference.difference c.in_ok-difference.ensures.value (c.is_zero.ensures.0 t)),
  λ h. c.is_zero.ensures.1 (zero_of_equal (g.T.Tower.reading g.T.K.Field.vars g.T.K.Field.val c.args.self.now.below) c.args.self.now.beta c.args.x.now c.args.y.now c.in_ok-difference.difference c.in_ok-difference.ensures.value (swapped (g.T.Tower.reading g.T.K.Field.vars g.T.K.Field.val c.args.self.now.below) c.args.self.now.beta c.args.y.now c.args.x.now h)),
)
