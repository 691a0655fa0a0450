use Rattle.std.proofs.Common.{map, length, ap, ap₂, sym, ◌∙◌}
use Rattle.sg_algebra.proofs.Value.{◌/ᵛ◌}
use Rattle.sg_algebra.proofs.Polynomial.{coefficient}
use Rattle.sg_first_order_theory.proofs.ValueFractions.{whole}
use Rattle.sg_first_order_theory.proofs.Weighted.{weighted}
use Rattle.sg_constant.specs.Shares.{polys}
use Rattle.sg_constant.proofs.Functions.{over_whole}
use Rattle.sg_constant.proofs.solving.term.Goals as goal

pub combined-requires : goal.combined-requires
combined-requires g c = c.requires.same ∙ sym (ap length c.as_slice.ensures)

pub new-requires : goal.new-requires
new-requires g c = λ z. c.requires.some (sym c.in_ok-w.ensures.value ∙ z)

pub returns-clause-value : goal.returns-clause-value
returns-clause-value g c =
    let v = g.F.Field.val in
    c.in_ok-r.ensures.value ∙ over_whole (map v c.in_ok-n.n) (map v c.in_ok-w.w) (λ z. c.requires.some (sym c.in_ok-w.ensures.value ∙ z))
    ∙ ap₂ (λ x y. whole x /ᵛ whole y) (c.in_ok-n.ensures.value ∙ ap (λ l. weighted (coefficient (map v c.args.c.now)) (polys v l)) c.as_slice.ensures) c.in_ok-w.ensures.value
