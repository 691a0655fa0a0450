use Rattle.sg_sums.specs.Polynomials.{PolyMonomial}
use Rattle.sg_sums.proofs.polys.monomial.Given as goal

abbrev pub invariant-loop : goal.invariant-loop
invariant-loop g l = PolyMonomial (g.T.Tower.reading g.T.K.Field.vars g.T.K.Field.val l.below) l.counter l.a l.r
