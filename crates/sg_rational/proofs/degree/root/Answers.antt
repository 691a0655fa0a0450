use Rattle.std.proofs.Common.{◌≡◌, ◌∙◌, ap, ap₂, map}
use Rattle.sg_algebra.proofs.Value.{zero_value, ◌-ᵛ◌, ◌/ᵛ◌}
use Rattle.sg_algebra.proofs.ValueField.{ValueR}
use Rattle.sg_first_order_theory.proofs.Bounds.{indicial}
use Rattle.sg_first_order_theory.proofs.Naturals.{root_is}
use Rattle.sg_rational.proofs.Degrees.{root_some, root_none}
use Rattle.sg_rational.proofs.degree.root.Goals as goal

pub returns-clause-some : goal.returns-clause-some
returns-clause-some g c =
    let v = g.F.Field.val in
    root_some (v c.in_ok-x.x) (λ k. indicial (ValueR g.F.Field.vars) c.args.m (map v c.args.a.now) (map v c.args.b.now) k ≡ zero_value)
    (root_is c.args.m (map v c.args.a.now) (map v c.args.b.now) (v c.args.lead.now) (v c.in_ok-x.x) c.requires.lead c.requires.some
    (c.in_ok-x.ensures.value ∙ ap (λ z. z /ᵛ v c.args.lead.now) (c.in_ok-sub.ensures.value ∙ ap₂ ◌-ᵛ◌ c.in_ok-left.ensures.value c.in_ok-right.ensures.value)))
    c.in_ok-r.r c.in_ok-r.ensures.some

pub returns-clause-none : goal.returns-clause-none
returns-clause-none g c =
    let v = g.F.Field.val in
    root_none (v c.in_ok-x.x) (λ k. indicial (ValueR g.F.Field.vars) c.args.m (map v c.args.a.now) (map v c.args.b.now) k ≡ zero_value)
    (root_is c.args.m (map v c.args.a.now) (map v c.args.b.now) (v c.args.lead.now) (v c.in_ok-x.x) c.requires.lead c.requires.some
    (c.in_ok-x.ensures.value ∙ ap (λ z. z /ᵛ v c.args.lead.now) (c.in_ok-sub.ensures.value ∙ ap₂ ◌-ᵛ◌ c.in_ok-left.ensures.value c.in_ok-right.ensures.value)))
    c.in_ok-r.r c.in_ok-r.ensures.none
