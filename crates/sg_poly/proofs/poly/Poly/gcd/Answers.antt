use Rattle.sg_poly.proofs.Taken.{gcd_some, keeps_some, keeps_gcd, keeps_end}
use Rattle.sg_poly.proofs.poly.Poly.gcd.Goals as goal

pub common_of_rests-requires : goal.common_of_rests-requires
common_of_rests-requires g c = keeps_some _ _ _ _ _ c.in_ok-rests.ensures.value c.requires

pub monic-requires : goal.monic-requires
monic-requires g c = gcd_some _ _ _ (keeps_gcd _ _ _ _ _ _ _ c.in_ok-rests.ensures.value c.in_ok-rest.ensures.divisor c.in_ok-product.ensures.value) c.requires

pub returns-clause-divisor : goal.returns-clause-divisor
returns-clause-divisor g c = keeps_end _ _ _ _ _ _ _ _ c.in_ok-rests.ensures.value c.in_ok-rest.ensures.divisor c.in_ok-product.ensures.value c.in_ok-r.ensures.divisors
