use Rattle.std.proofs.Common.{◌≡◌, ◌++◌, map, take}
use Rattle.sg_algebra.proofs.Polynomial.{neg_polynomial}
use Rattle.sg_poly.specs.Polynomials.{polynomial}
use Rattle.sg_rational.proofs.system.push_negatives.Given as goal

abbrev pub invariant-loop-i : goal.invariant-loop-i
invariant-loop-i g l = map (polynomial g.F.Field.val) l.columns ≡ map (polynomial g.F.Field.val) l.initial.columns ++ map neg_polynomial (map (polynomial g.F.Field.val) (take l.i l.sides))
