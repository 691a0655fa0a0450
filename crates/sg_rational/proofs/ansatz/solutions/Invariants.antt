use Rattle.std.proofs.Common.{◌≡◌, map, take}
use Rattle.sg_poly.specs.Polynomials.{polynomial}
use Rattle.sg_ratfun.specs.Fractions.{ratio}
use Rattle.sg_first_order_theory.specs.Solutions.{pair}
use Rattle.sg_first_order_theory.proofs.Basis.{pair_of}
use Rattle.sg_rational.proofs.ansatz.solutions.Given as goal

abbrev pub invariant-loop-i : goal.invariant-loop-i
invariant-loop-i g l = map (λ s. pair (map g.F.Field.val s.coeffs) (ratio g.F.Field.val s.value)) l.list ≡ map (pair_of g.F.Field.val l.n (polynomial g.F.Field.val l.lower)) (take l.i l.basis)
