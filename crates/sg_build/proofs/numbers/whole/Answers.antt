use Rattle.std.proofs.Common.{◌≡◌, FitsSigned, ap, ◌∙◌, rules}
use Rattle.std.proofs.lemmas.Int.{to_z-of_z}
use Rattle.std.specs.Int.{w128}
use Rattle.sg_algebra.proofs.Rational.{rational_value}
use Rattle.sg_num.specs.Value.{fraction}
use Rattle.sg_spec.specs.Fraction.{Fraction, whole}
use Rattle.sg_poly.proofs.Shifting.{whole_rational}
use Rattle.sg_build.proofs.numbers.whole.Goals as goal

pub returns-clause-value : goal.returns-clause-value
returns-clause-value g c =
    let fits : FitsSigned w128 c.args.c.now = search rules in
    let w : fraction c.whole.result ≡ whole c.args.c.now = c.whole.ensures.value ∙ ap whole (to_z-of_z w128 c.args.c.now fits) in
    c.in_ok-r.ensures.value ∙ ap (λ (x : Fraction). rational_value g.K.Field.vars x.num x.den) w ∙ whole_rational c.args.c.now
