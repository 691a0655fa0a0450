use Rattle.std.proofs.Common.{◌∙◌, ap}
use Rattle.sg_spec.specs.Fraction.{Fraction}
use Rattle.sg_algebra.proofs.Value.{fraction_value}
use Rattle.sg_algebra.proofs.Rational.{fraction_value-zero}
use Rattle.sg_num.proofs.rational.RatField.zero.Goals as goal

pub returns-clause-value : goal.returns-clause-value
returns-clause-value c = ap (λ (x : Fraction). fraction_value x.num x.den) c.whole.ensures.value ∙ fraction_value-zero
