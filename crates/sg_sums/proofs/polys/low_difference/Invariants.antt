use Rattle.sg_tower_theory.proofs.Formal.{elements}
use Rattle.sg_sums.specs.Polynomials.{at_place}
use Rattle.sg_sums.proofs.Building.{Builds}
use Rattle.sg_sums.proofs.polys.low_difference.Given as goal

abbrev pub invariant-loop-i : goal.invariant-loop-i
invariant-loop-i g l = Builds (elements (g.T.Tower.reading g.T.K.Field.vars g.T.K.Field.val l.below).formal) (g.T.Tower.reading g.T.K.Field.vars g.T.K.Field.val l.below).of (λ k. (elements (g.T.Tower.reading g.T.K.Field.vars g.T.K.Field.val l.below).formal).◌⊞◌ (at_place (g.T.Tower.reading g.T.K.Field.vars g.T.K.Field.val l.below) l.x k) ((elements (g.T.Tower.reading g.T.K.Field.vars g.T.K.Field.val l.below).formal).⊟ (at_place (g.T.Tower.reading g.T.K.Field.vars g.T.K.Field.val l.below) l.y k))) l.i l.r
