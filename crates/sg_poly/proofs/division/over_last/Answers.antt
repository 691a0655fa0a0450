use Rattle.std.proofs.Common.{◌∙◌, sym, refl, ap, ap₂, ◌-◌, length, map}
use Rattle.sg_algebra.proofs.Value.{◌*ᵛ◌, inv_value}
use Rattle.sg_algebra.proofs.ValueField.{one_mul_value}
use Rattle.sg_algebra.proofs.Polynomial.{poly, constant, coefficient, ◌*ᵖ◌}
use Rattle.sg_algebra.proofs.Rows.{last_nonzero, last_read}
use Rattle.sg_poly.proofs.division.over_last.Goals as goal

pub div-requires : goal.div-requires
div-requires g c z = last_nonzero g.F.Field.val c.args.p.now c.coeffs-list.ensures.ends c.requires
    (sym (last_read g.F.Field.val c.coeffs-list.result.now c.args.p.now c.index-list-list.result (length c.coeffs-list.result.now - 1) c.coeffs-list.ensures.value refl c.requires c.index-list-list.is) ∙ z)

pub returns-clause-value : goal.returns-clause-value
returns-clause-value g c = c.in_ok-r.ensures.value ∙ ap (λ x. constant x *ᵖ poly (map g.F.Field.val c.args.p.now))
    (c.in_ok-c.ensures.value ∙ ap₂ (λ x y. x *ᵛ inv_value y) c.in_ok-one.ensures.value (last_read g.F.Field.val c.coeffs-list.result.now c.args.p.now c.index-list-list.result (length c.coeffs-list.result.now - 1) c.coeffs-list.ensures.value refl c.requires c.index-list-list.is)
    ∙ one_mul_value (inv_value (coefficient (map g.F.Field.val c.args.p.now) (length c.args.p.now - 1))))

pub returns-clause-last : goal.returns-clause-last
returns-clause-last g c = last_nonzero g.F.Field.val c.args.p.now c.coeffs-list.ensures.ends c.requires
