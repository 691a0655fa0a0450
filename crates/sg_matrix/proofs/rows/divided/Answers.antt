use Rattle.std.proofs.Common.{◌∙◌, sym, ap, arith}
use Rattle.sg_algebra.proofs.Value.{◌*ᵛ◌, inv_value}
use Rattle.sg_algebra.proofs.ValueField.{zero_mul_value}
use Rattle.sg_algebra.proofs.Rows.{builds_push, builds_all, at_read, past_row}
use Rattle.sg_matrix.proofs.rows.divided.Goals as goal

pub loop-i-preserved : goal.loop-i-preserved
loop-i-preserved g c = builds_push g.F.Field.val _ _ _ _ _ c.loop-i.invariant
    (c.in_ok-c.ensures.value ∙ ap (λ x. x *ᵛ inv_value (g.F.Field.val c.args.t.now)) (sym (at_read g.F.Field.val c.args.r.now c.loop-i.i c.index-r-i.result (omega arith) c.index-r-i.is))) c.in_ok-push.ensures.ok

pub returns-clause-value : goal.returns-clause-value
returns-clause-value g c = builds_all g.F.Field.val _ _ _ c.loop-i.invariant
    (λ k h. ap (λ x. x *ᵛ inv_value (g.F.Field.val c.args.t.now)) (past_row g.F.Field.val c.args.r.now k (omega arith)) ∙ zero_mul_value (inv_value (g.F.Field.val c.args.t.now)))
