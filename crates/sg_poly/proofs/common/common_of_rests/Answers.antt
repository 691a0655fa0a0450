use Rattle.sg_poly.proofs.Taken.{gcd_swap}
use Rattle.sg_poly.proofs.common.common_of_rests.Goals as goal

pub euclid-requires : goal.euclid-requires
euclid-requires g c z = c.requires (z.1, z.0)

pub returns-then-coeffs-clause-divisor : goal.returns-then-coeffs-clause-divisor
returns-then-coeffs-clause-divisor g c = gcd_swap _ _ _ c.in_ok-turned.ensures.divisor
