use Rattle.std.proofs.Common.{◌∙◌, ap, [], ◌∷◌}
use Rattle.sg_algebra.proofs.Value.{zero_value}
use Rattle.sg_algebra.proofs.Polynomial.{poly}
use Rattle.sg_rational.proofs.system.variable.Goals as goal

pub returns-clause-value : goal.returns-clause-value
returns-clause-value g c = c.in_ok-k.ensures.value ∙ ap (λ z. poly (zero_value ∷ z ∷ [])) c.in_ok-one.ensures.value
