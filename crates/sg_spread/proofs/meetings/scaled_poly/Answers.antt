use Rattle.std.proofs.Common.{◌∙◌, ap, map, rules, FitsSigned}
use Rattle.std.specs.Int.{w128}
use Rattle.std.proofs.lemmas.Int.{to_z-of_z}
use Rattle.sg_algebra.proofs.Polynomial.{poly}
use Rattle.sg_algebra.proofs.ValueField.{ValueR}
use Rattle.sg_algebra.proofs.Rational.{whole_value}
use Rattle.sg_num.specs.Value.{number}
use Rattle.sg_num.specs.Scaled.{scaled}
use Rattle.sg_spread.proofs.meetings.scaled_poly.Goals as goal

pub returns-clause-value : goal.returns-clause-value
returns-clause-value c =
    let fits : FitsSigned w128 c.args.c = search rules in
    c.in_ok-p.ensures.value ∙ c.in_ok-row.ensures.value
    ∙ ap (λ x. poly (scaled (ValueR 0) x (map number c.args.list.now))) (c.whole.ensures.as_number ∙ ap (whole_value 0) (to_z-of_z w128 c.args.c fits))
