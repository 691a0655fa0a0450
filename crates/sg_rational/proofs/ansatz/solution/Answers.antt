use Rattle.std.proofs.Common.{◌∙◌, map, ap, ap₂, sym}
use Rattle.sg_algebra.proofs.Value.{◌/ᵛ◌}
use Rattle.sg_algebra.proofs.Polynomial.{poly}
use Rattle.sg_first_order_theory.specs.Solutions.{pair}
use Rattle.sg_first_order_theory.proofs.ValueFractions.{whole}
use Rattle.sg_first_order_theory.proofs.Bounded.{over_whole}
use Rattle.sg_rational.proofs.ansatz.solution.Goals as goal

pub new-requires : goal.new-requires
new-requires g c = λ z. c.requires.some (sym c.in_ok-den.ensures.value ∙ z)

pub returns-clause-value : goal.returns-clause-value
returns-clause-value g c =
    let v = g.F.Field.val in
    ap₂ pair (c.in_ok-coeffs.ensures.values ∙ ap (map v) c.split_at.ensures.front)
    (c.in_ok-value.ensures.value ∙ over_whole (map v c.in_ok-y.y) (map v c.in_ok-den.den) (λ z. c.requires.some (sym c.in_ok-den.ensures.value ∙ z))
    ∙ ap₂ (λ x y. whole x /ᵛ whole y) (c.in_ok-y.ensures.value ∙ ap poly (c.in_ok-rest.ensures.values ∙ ap (map v) c.split_at.ensures.back)) c.in_ok-den.ensures.value)
