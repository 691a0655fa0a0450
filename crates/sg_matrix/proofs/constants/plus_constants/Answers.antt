use Rattle.std.proofs.Common.{◌∙◌, ap, ap₂, arith, map}
use Rattle.sg_algebra.proofs.Value.{◌+ᵛ◌, ◌*ᵛ◌}
use Rattle.sg_algebra.proofs.ValueField.{value_mul_comm, mul_zero_value, value_add-zero}
use Rattle.sg_algebra.proofs.Polynomial.{coefficient}
use Rattle.sg_algebra.proofs.Rows.{builds_push, builds_all, past_row}
use Rattle.sg_matrix.proofs.constants.plus_constants.Goals as goal

pub loop-i-preserved : goal.loop-i-preserved
loop-i-preserved g c = builds_push g.F.Field.val _ _ _ _ _ c.loop-i.invariant
    (c.in_ok-add.ensures.value ∙ ap₂ ◌+ᵛ◌ c.in_ok-a.ensures.value (c.in_ok-b.ensures.value ∙ ap (λ z. z *ᵛ g.F.Field.val c.args.c.now) c.in_ok-constant.ensures.value
    ∙ value_mul_comm g.F.Field.vars (coefficient (map g.F.Field.val c.args.y.now) c.loop-i.i) (g.F.Field.val c.args.c.now))) c.in_ok-push.ensures.ok

pub returns-clause-value : goal.returns-clause-value
returns-clause-value g c = builds_all g.F.Field.val (λ k. coefficient (map g.F.Field.val c.args.x.now) k +ᵛ g.F.Field.val c.args.c.now *ᵛ coefficient (map g.F.Field.val c.args.y.now) k) c.loop-i.i c.loop-i.r c.loop-i.invariant
    (λ k h. ap₂ (λ a b. a +ᵛ g.F.Field.val c.args.c.now *ᵛ b) (past_row g.F.Field.val c.args.x.now k (omega arith)) (past_row g.F.Field.val c.args.y.now k (omega arith))
    ∙ ap (◌+ᵛ◌ _) (mul_zero_value (g.F.Field.val c.args.c.now)) ∙ value_add-zero g.F.Field.vars _)
