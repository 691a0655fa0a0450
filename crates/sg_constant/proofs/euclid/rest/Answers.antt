use Rattle.std.proofs.Common.{map, ◌∙◌, ap}
use Rattle.sg_algebra.proofs.Polynomial.{poly, ◌-ᵖ◌}
use Rattle.sg_constant.proofs.euclid.rest.Goals as goal

pub returns-clause-less : goal.returns-clause-less
returns-clause-less g c = record {
  q = poly (map g.F.Field.val c.in_ok-quotient.quotient);
  value = c.in_ok-quotient.ensures.value;
  factor = c.in_ok-factor.ensures.value ∙ ap (λ z. poly (map g.F.Field.val c.args.a.now.factor) -ᵖ z) c.in_ok-product.ensures.value;
}
