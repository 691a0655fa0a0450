use Rattle.std.proofs.Common.{map}
use Rattle.sg_algebra.proofs.Polynomial.{poly}
use Rattle.sg_num.specs.Value.{number}
use Rattle.sg_poly.proofs.Taken.{gcd_some}
use Rattle.sg_spread.proofs.Radicals.{over_common}
use Rattle.sg_spread.proofs.radical.without_repeated.Goals as goal

pub gcd-requires : goal.gcd-requires
gcd-requires c z = c.requires z.0

pub exact-requires-clause-some : goal.exact-requires-clause-some
exact-requires-clause-some c = gcd_some _ _ _ c.in_ok-common.ensures.divisor (λ z. c.requires z.0)

pub exact-requires-clause-divides : goal.exact-requires-clause-divides
exact-requires-clause-divides c = c.in_ok-common.ensures.divisor.left

pub returns-clause-radical : goal.returns-clause-radical
returns-clause-radical c = over_common (map number c.args.p.now) (map number c.in_ok-r.r) (poly (map number c.in_ok-common.common)) (poly (map number c.in_ok-slope.slope)) c.in_ok-r.ensures.value c.in_ok-common.ensures.divisor c.in_ok-slope.ensures.value
