use Rattle.std.proofs.Common.{◌∙◌, sym, ap, ap₂, arith}
use Rattle.sg_algebra.proofs.Value.{◌-ᵛ◌, ◌*ᵛ◌}
use Rattle.sg_algebra.proofs.Rows.{builds_push, builds_all, at_read, past_row}
use Rattle.sg_algebra.proofs.NullSpace.{zero_less}
use Rattle.sg_matrix.proofs.rows.cleared.Goals as goal

pub loop-i-preserved : goal.loop-i-preserved
loop-i-preserved g c = builds_push g.F.Field.val _ _ _ _ _ c.loop-i.invariant
    (c.in_ok-c.ensures.value ∙ ap₂ (λ x y. x -ᵛ y) (sym (at_read g.F.Field.val c.args.b.now c.loop-i.i c.index-b-i.result (omega arith) c.index-b-i.is))
    (c.in_ok-mul.ensures.value ∙ ap (◌*ᵛ◌ (g.F.Field.val c.args.t.now)) (sym (at_read g.F.Field.val c.args.other.now c.loop-i.i c.index-other-i.result (omega arith) c.index-other-i.is))))
    c.in_ok-push.ensures.ok

pub returns-clause-value : goal.returns-clause-value
returns-clause-value g c = builds_all g.F.Field.val _ _ _ c.loop-i.invariant
    (λ k h. ap₂ (λ x y. x -ᵛ g.F.Field.val c.args.t.now *ᵛ y) (past_row g.F.Field.val c.args.b.now k (omega arith)) (past_row g.F.Field.val c.args.other.now k (omega arith)) ∙ zero_less g.F.Field.val (g.F.Field.val c.args.t.now))
