use Rattle.std.proofs.Common.{◌∙◌, refl, rules, sym, arith, IsTrue}
use Rattle.sg_algebra.proofs.Rows.{agree_more, agree_all, at_read}
use Rattle.sg_poly.proofs.kernel.rows_same.Goals as goal

pub returns-then-not-branch-clause-value : goal.returns-then-not-branch-clause-value
returns-then-not-branch-clause-value g c = (
  λ t. search (rules, t),
  λ h. let s : IsTrue c.in_ok-same.field-0 = c.in_ok-same.ensures.value.1 (
      sym (at_read g.F.Field.val c.args.p.now c.loop-i.i c.index-p-i.result (omega arith) c.index-p-i.is) ∙ h c.loop-i.i ∙ at_read g.F.Field.val c.args.q.now c.loop-i.i c.index-q-i.result (omega arith) c.index-q-i.is)
      in grind (arith, s, c.if-not-branch.true),
)

pub loop-i-preserved : goal.loop-i-preserved
loop-i-preserved g c =
    let s : IsTrue c.in_ok-same.field-0 = grind (arith, c.if-not-branch.false) in
    agree_more g.F.Field.val _ _ c.loop-i.i c.loop-i.invariant
    (at_read g.F.Field.val c.args.p.now c.loop-i.i c.index-p-i.result (omega arith) c.index-p-i.is ∙ c.in_ok-same.ensures.value.0 s ∙ sym (at_read g.F.Field.val c.args.q.now c.loop-i.i c.index-q-i.result (omega arith) c.index-q-i.is))

pub returns-clause-value : goal.returns-clause-value
returns-clause-value g c = (λ t. agree_all g.F.Field.val c.args.p.now c.args.q.now c.loop-i.i (omega arith) (omega arith) c.loop-i.invariant, λ h. refl)
