use Rattle.std.proofs.Common.{◌≡◌, map, pos, ap, sym, ◌∙◌}
use Rattle.sg_algebra.proofs.Polynomial.{poly, constant, ◌-ᵖ◌, ◌*ᵖ◌}
use Rattle.sg_first_order_theory.proofs.Next.{next, moved_polynomial-poly}
use Rattle.sg_reduction_theory.proofs.Images.{moved_one}
use Rattle.sg_constant.proofs.summing.without.Goals as goal

pub returns-clause-value : goal.returns-clause-value
returns-clause-value g c =
    let v = g.F.Field.val in
    let later : poly (map v c.in_ok-later.later) ≡ next (poly (map v c.args.y.now)) = c.in_ok-later.ensures.value ∙ sym (moved_polynomial-poly (pos 1) (map v c.args.y.now)) ∙ moved_one (poly (map v c.args.y.now)) in
    c.in_ok-r.ensures.value ∙ ap (λ z. poly (map v c.args.p.now) -ᵖ z) (c.in_ok-difference.ensures.value ∙ ap (λ z. z -ᵖ poly (map v c.args.y.now)) (c.in_ok-image.ensures.value ∙ ap (λ z. constant (v c.args.a.now) *ᵖ z) later))
