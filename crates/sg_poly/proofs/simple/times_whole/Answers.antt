use Rattle.std.proofs.Common.{◌≡◌, ◌∙◌, ap, pos, rules}
use Rattle.sg_spec.specs.Fraction.{Fraction, whole}
use Rattle.sg_num.specs.Value.{fraction}
use Rattle.sg_algebra.proofs.Value.{◌*ᵛ◌}
use Rattle.sg_algebra.proofs.Rational.{rational_value}
use Rattle.sg_poly.proofs.Shifting.{whole_rational}
use Rattle.sg_poly.proofs.simple.times_whole.Goals as goal

pub returns-clause-value : goal.returns-clause-value
returns-clause-value g c =
    let w : fraction c.whole.result ≡ whole (pos c.args.n) = search rules in
    c.in_ok-r.ensures.value
    ∙ ap (λ x. x *ᵛ g.F.Field.val c.args.c.now) (c.in_ok-n.ensures.value ∙ ap (λ (x : Fraction). rational_value g.F.Field.vars x.num x.den) w ∙ whole_rational (pos c.args.n))
