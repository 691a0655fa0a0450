use Rattle.std.proofs.Common.{◌≡◌, map}
use Rattle.sg_algebra.proofs.Polynomial.{poly, constant, ◌+ᵖ◌, ◌-ᵖ◌, ◌*ᵖ◌}
use Rattle.sg_first_order_theory.proofs.Next.{next}
use Rattle.sg_constant.specs.Shares.{size}
use Rattle.sg_constant.proofs.summing.summed.Given as goal

abbrev pub invariant-terms : goal.invariant-terms
invariant-terms g l = poly (map g.F.Field.val l.p) ≡ poly (map g.F.Field.val l.rest) +ᵖ (constant (g.F.Field.val l.a) *ᵖ next (poly (map g.F.Field.val l.y)) -ᵖ poly (map g.F.Field.val l.y))

abbrev pub decreases-terms : goal.decreases-terms
decreases-terms g l = size (map g.F.Field.val l.rest)
