use Rattle.std.proofs.Common.{◌∙◌, sym, ap, arith}
use Rattle.sg_algebra.proofs.Value.{◌+ᵛ◌, ◌*ᵛ◌}
use Rattle.sg_algebra.proofs.ValueField.{zero_add_value, mul_zero_value}
use Rattle.sg_algebra.proofs.Rows.{at_read, past_row}
use Rattle.sg_poly.proofs.kernel.product_added.Goals as goal

pub returns-then-k-q-clause-value : goal.returns-then-k-q-clause-value
returns-then-k-q-clause-value g c = sym (
    ap (λ z. g.F.Field.val c.args.a.now *ᵛ z +ᵛ g.F.Field.val c.args.sum) (past_row g.F.Field.val c.args.q.now c.args.k (omega arith))
    ∙ ap (λ z. z +ᵛ g.F.Field.val c.args.sum) (mul_zero_value (g.F.Field.val c.args.a.now))
    ∙ zero_add_value (g.F.Field.val c.args.sum))

pub returns-clause-value : goal.returns-clause-value
returns-clause-value g c = c.in_ok-r.ensures.value ∙ ap (λ z. z +ᵛ g.F.Field.val c.args.sum)
    (c.in_ok-mul.ensures.value ∙ ap (◌*ᵛ◌ (g.F.Field.val c.args.a.now)) (sym (at_read g.F.Field.val c.args.q.now c.args.k c.index-q-k.result (omega arith) c.index-q-k.is)))
