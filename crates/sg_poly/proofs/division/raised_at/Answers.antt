use Rattle.std.proofs.Common.{◌∙◌, sym, ap, ap₂}
use Rattle.sg_algebra.proofs.Value.{◌+ᵛ◌, ◌*ᵛ◌}
use Rattle.sg_algebra.proofs.Rows.{at_read}
use Rattle.sg_poly.proofs.division.raised_at.Goals as goal

pub returns-clause-value : goal.returns-clause-value
returns-clause-value g c = c.in_ok-x.ensures.value ∙ ap₂ (λ x y. x +ᵛ y) c.behind.ensures (c.in_ok-mul.ensures.value ∙ ap (◌*ᵛ◌ (g.F.Field.val c.args.m.now)) (sym (at_read g.F.Field.val c.args.r.now c.args.i c.index-r-i.result c.requires c.index-r-i.is)))
