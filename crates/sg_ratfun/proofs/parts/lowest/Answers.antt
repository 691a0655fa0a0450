use Rattle.std.proofs.Common.{◌∙◌, ap, ◌-◌, length, map}
use Rattle.sg_algebra.proofs.Polynomial.{poly, coefficient, constant, ◌*ᵖ◌}
use Rattle.sg_ratfun.proofs.Coprimes.{factor_ne}
use Rattle.sg_ratfun.proofs.Steps.{lowest_makes}
use Rattle.sg_ratfun.proofs.parts.lowest.Goals as goal

pub lead_inverse-requires : goal.lead_inverse-requires
lead_inverse-requires g c = factor_ne (poly (map g.F.Field.val c.args.q.now)) (poly (map g.F.Field.val c.in_ok-s.s.right)) (poly (map g.F.Field.val c.in_ok-s.s.common)) c.in_ok-s.ensures.right c.requires

pub monic-requires : goal.monic-requires
monic-requires g c = factor_ne (poly (map g.F.Field.val c.args.q.now)) (poly (map g.F.Field.val c.in_ok-s.s.right)) (poly (map g.F.Field.val c.in_ok-s.s.common)) c.in_ok-s.ensures.right c.requires

pub returns-clause-value : goal.returns-clause-value
returns-clause-value g c =
    let v = g.F.Field.val in
    (lowest_makes (map v c.args.p.now) (map v c.args.q.now) (map v c.in_ok-s.s.left) (map v c.in_ok-s.s.right) (map v c.in_ok-s.s.common) (map v c.in_ok-num.num) (map v c.in_ok-den.den) (coefficient (map v c.in_ok-s.s.right) (length c.in_ok-s.s.right - 1))
    c.requires c.in_ok-s.ensures.left c.in_ok-s.ensures.right c.in_ok-s.ensures.coprime c.in_ok-c.ensures.some
    (c.in_ok-num.ensures.value ∙ ap (λ z. constant z *ᵖ poly (map v c.in_ok-s.s.left)) c.in_ok-c.ensures.value) c.in_ok-den.ensures.value c.in_ok-den.ensures.monic).value

pub returns-clause-reduced : goal.returns-clause-reduced
returns-clause-reduced g c =
    let v = g.F.Field.val in
    (lowest_makes (map v c.args.p.now) (map v c.args.q.now) (map v c.in_ok-s.s.left) (map v c.in_ok-s.s.right) (map v c.in_ok-s.s.common) (map v c.in_ok-num.num) (map v c.in_ok-den.den) (coefficient (map v c.in_ok-s.s.right) (length c.in_ok-s.s.right - 1))
    c.requires c.in_ok-s.ensures.left c.in_ok-s.ensures.right c.in_ok-s.ensures.coprime c.in_ok-c.ensures.some
    (c.in_ok-num.ensures.value ∙ ap (λ z. constant z *ᵖ poly (map v c.in_ok-s.s.left)) c.in_ok-c.ensures.value) c.in_ok-den.ensures.value c.in_ok-den.ensures.monic).reduced
