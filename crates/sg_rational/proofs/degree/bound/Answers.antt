use Rattle.std.proofs.Common.{◌≡◌, ◌∙◌, sym, arith}
use Rattle.sg_rational.proofs.Degrees.{bound_other, bound_same, no}
use Rattle.sg_rational.proofs.degree.bound.Goals as goal

pub returns-then-not-branch-clause-value : goal.returns-then-not-branch-clause-value
returns-then-not-branch-clause-value g c = bound_other g.F.Field.val c.last_place-m.result c.longest-c.result c.saturating_sub.result c.args.a.now c.args.b.now c.args.sides.now
    c.last_place-m.ensures.left c.last_place-m.ensures.right c.longest-c.ensures
    (λ e. no c.in_ok-same.field-0 c.if-not-branch.true (c.in_ok-same.ensures.value.1 (c.in_ok-lead.ensures.value ∙ e ∙ sym c.in_ok-other.ensures.value))) (omega arith)

pub returns-in-Some-clause-value : goal.returns-in-Some-clause-value
returns-in-Some-clause-value g c = bound_same g.F.Field.val c.last_place-m.result c.longest-c.result c.max.result c.args.a.now c.args.b.now c.args.sides.now
    c.last_place-m.ensures.left c.last_place-m.ensures.right c.longest-c.ensures
    (sym c.in_ok-lead.ensures.value ∙ c.in_ok-same.ensures.value.0 c.if-not-branch.false ∙ c.in_ok-other.ensures.value) (omega arith)
    (λ k z. let e : k ≡ c.in-Some.n = (rw c.in-Some.is at c.in_ok-n.ensures.some) k z in omega (arith, e))

pub returns-clause-value : goal.returns-clause-value
returns-clause-value g c = bound_same g.F.Field.val c.last_place-m.result c.longest-c.result c.saturating_sub-least.result c.args.a.now c.args.b.now c.args.sides.now
    c.last_place-m.ensures.left c.last_place-m.ensures.right c.longest-c.ensures
    (sym c.in_ok-lead.ensures.value ∙ c.in_ok-same.ensures.value.0 c.if-not-branch.false ∙ c.in_ok-other.ensures.value) (omega arith)
    (λ k z. absurd ((rw c.in-None.is at c.in_ok-n.ensures.none) k z))
