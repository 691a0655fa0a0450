use Rattle.std.proofs.Common.{◌∙◌, ap}
use Rattle.sg_algebra.proofs.Value.{◌+ᵛ◌}
use Rattle.sg_num.specs.Value.{number}
use Rattle.sg_poly.proofs.plane.stepped.Goals as goal

pub returns-clause-value : goal.returns-clause-value
returns-clause-value c = c.in_ok-r.ensures.as_number ∙ ap (◌+ᵛ◌ (number c.args.c)) c.in_ok-product.ensures.as_number
