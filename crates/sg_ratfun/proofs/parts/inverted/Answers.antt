use Rattle.std.proofs.Common.{◌∙◌, ap, ◌-◌, length, map}
use Rattle.sg_algebra.proofs.Value.{inv_value}
use Rattle.sg_algebra.proofs.Polynomial.{poly, coefficient, constant, ◌*ᵖ◌}
use Rattle.sg_ratfun.proofs.Steps.{inverse_value, inverse_reduced}
use Rattle.sg_ratfun.proofs.parts.inverted.Goals as goal

pub returns-clause-value : goal.returns-clause-value
returns-clause-value g c =
    let v = g.F.Field.val in
    inverse_value (map v c.args.c.now) (map v c.args.e.now) (map v c.in_ok-num.num) (map v c.in_ok-den.den) (constant (inv_value (coefficient (map v c.args.c.now) (length c.args.c.now - 1)))) c.requires.reduced c.in_ok-den.ensures.monic
    (c.in_ok-num.ensures.value ∙ ap (λ z. constant z *ᵖ poly (map v c.args.e.now)) c.in_ok-k.ensures.value) c.in_ok-den.ensures.value

pub returns-clause-reduced : goal.returns-clause-reduced
returns-clause-reduced g c =
    let v = g.F.Field.val in
    inverse_reduced (map v c.args.c.now) (map v c.args.e.now) (map v c.in_ok-num.num) (map v c.in_ok-den.den) (coefficient (map v c.args.c.now) (length c.args.c.now - 1)) c.requires.reduced c.in_ok-k.ensures.some c.in_ok-den.ensures.monic
    (c.in_ok-num.ensures.value ∙ ap (λ z. constant z *ᵖ poly (map v c.args.e.now)) c.in_ok-k.ensures.value) c.in_ok-den.ensures.value
