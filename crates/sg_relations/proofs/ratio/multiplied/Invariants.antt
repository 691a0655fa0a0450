use Rattle.std.proofs.Common.{◌≡◌}
use Rattle.sg_algebra.proofs.Ring.{pow}
use Rattle.sg_algebra.proofs.Polynomial.{PolynomialR, ◌*ᵖ◌}
use Rattle.sg_poly.specs.Polynomials.{polynomial}
use Rattle.sg_relations_theory.proofs.Generators.{up_part}
use Rattle.sg_relations.proofs.ratio.multiplied.Given as goal

abbrev pub invariant-loop-left : goal.invariant-loop-left
invariant-loop-left g l = pow (PolynomialR g.F.Field.vars) (polynomial g.F.Field.val l.base) l.left *ᵖ polynomial g.F.Field.val l.product
    ≡ pow (PolynomialR g.F.Field.vars) (polynomial g.F.Field.val l.base) (up_part l.fn.e) *ᵖ polynomial g.F.Field.val l.fn.p

abbrev pub decreases-loop-left : goal.decreases-loop-left
decreases-loop-left g l = l.left
