use Rattle.std.proofs.Common.{◌∙◌, ap, map}
use Rattle.sg_algebra.proofs.Polynomial.{poly}
use Rattle.sg_poly.proofs.poly.Poly.copy.Goals as goal

pub returns-clause-value : goal.returns-clause-value
returns-clause-value g c = rw (← (c.as_slice.ensures ∙ c.self.view_is)) (c.trimmed.ensures.value ∙ ap poly c.in_ok-coeffs.ensures.values)
