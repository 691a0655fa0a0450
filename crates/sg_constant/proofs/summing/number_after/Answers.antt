use Rattle.std.proofs.Common.{◌≡◌, ◌∙◌, rules, ap, pos, suc}
use Rattle.sg_spec.specs.Fraction.{Fraction, whole}
use Rattle.sg_num.specs.Value.{fraction}
use Rattle.sg_algebra.proofs.Rational.{rational_value}
use Rattle.sg_poly.proofs.Shifting.{whole_rational}
use Rattle.sg_constant.proofs.summing.number_after.Goals as goal

pub returns-clause-value : goal.returns-clause-value
returns-clause-value g c =
    let d = g.F.Field.vars in
    let w : fraction c.whole.result ≡ whole (pos (suc c.args.n)) = search rules in
    c.in_ok-r.ensures.value ∙ ap (λ (x : Fraction). rational_value d x.num x.den) w ∙ whole_rational (pos (suc c.args.n))
