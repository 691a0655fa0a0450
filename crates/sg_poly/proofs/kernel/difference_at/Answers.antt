use Rattle.std.proofs.Common.{◌∙◌, sym, ap₂, arith}
use Rattle.sg_algebra.proofs.Value.{◌-ᵛ◌}
use Rattle.sg_algebra.proofs.ValueField.{sub_zero_value}
use Rattle.sg_algebra.proofs.Rows.{at_read, past_row}
use Rattle.sg_poly.proofs.kernel.difference_at.Goals as goal

pub returns-then-i-p-clause-value : goal.returns-then-i-p-clause-value
returns-then-i-p-clause-value g c = c.in_ok-r.ensures.value ∙ ap₂ (λ x y. x -ᵛ y) (c.in_ok-zero.ensures.value ∙ sym (past_row g.F.Field.val c.args.p.now c.args.i (omega arith))) (sym (at_read g.F.Field.val c.args.q.now c.args.i c.index-q-i.result (omega arith) c.index-q-i.is))

pub returns-then-i-q-clause-value : goal.returns-then-i-q-clause-value
returns-then-i-q-clause-value g c = c.in_ok-r-2.ensures.value ∙ sym (sub_zero_value (g.F.Field.val c.index-p-i.result)) ∙ ap₂ (λ x y. x -ᵛ y) (sym (at_read g.F.Field.val c.args.p.now c.args.i c.index-p-i.result (omega arith) c.index-p-i.is)) (sym (past_row g.F.Field.val c.args.q.now c.args.i (omega arith)))

pub returns-clause-value : goal.returns-clause-value
returns-clause-value g c = c.in_ok-r-3.ensures.value ∙ ap₂ (λ x y. x -ᵛ y) (sym (at_read g.F.Field.val c.args.p.now c.args.i c.index-p-i-2.result (omega arith) c.index-p-i-2.is)) (sym (at_read g.F.Field.val c.args.q.now c.args.i c.index-q-i-2.result (omega arith) c.index-q-i-2.is))
