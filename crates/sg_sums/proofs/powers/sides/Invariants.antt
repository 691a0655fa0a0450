use Rattle.std.proofs.Common.{take}
use Rattle.sg_algebra.specs.Coefficients.{coef}
use Rattle.sg_algebra.proofs.Place.{Pairwise}
use Rattle.sg_tower_theory.proofs.Formal.{elements}
use Rattle.sg_tower.specs.Elements.{Same}
use Rattle.sg_sums.specs.Polynomials.{partial_left}
use Rattle.sg_sums.proofs.powers.sides.Given as goal

abbrev pub invariant-loop-i : goal.invariant-loop-i
invariant-loop-i g l = Pairwise (λ w x. Same (g.T.Tower.reading g.T.K.Field.vars g.T.K.Field.val l.below) ((g.T.Tower.reading g.T.K.Field.vars g.T.K.Field.val l.below).of x) (coef (elements (g.T.Tower.reading g.T.K.Field.vars g.T.K.Field.val l.below).formal) (partial_left (g.T.Tower.reading g.T.K.Field.vars g.T.K.Field.val l.below) g.T.K.Field.val w) l.n)) (take l.i l.rows) l.ls
