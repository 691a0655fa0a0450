use Rattle.std.proofs.Common.{◌∙◌, ◌+◌, length, ap, subst, List, ℕ}
use Rattle.sg_expr.specs.Tree.{tree_of}
use Rattle.sg_top.specs.Lines.{item_line, refusal_words}
use Rattle.sg_top.specs.Refusals.{IsRefusedAt}
use Rattle.sg_top.specs.Stages.{IsReadAt}
use Rattle.sg_top.proofs.Texts.{refused-first, read-next, refused-next}
use Rattle.sg_top.proofs.taken.read_all.Goals as goal

pub returns-in-Err : goal.returns-in-Err
returns-in-Err c =
    let (r, cause, is) = rw c.in-Err.is at c.in_ok-e.ensures in
    refused-first c.args.command c.args.first.now c.args.others.now r c.in-Err.line.items (subst (λ (w : List ℕ). IsRefusedAt c.args.command 1 w r) c.as_slice.ensures cause) is

pub returns-in-Err-2 : goal.returns-in-Err-2
returns-in-Err-2 c =
    let (r, cause, is) = rw c.in-Err-2.is at c.in_ok-e-2.ensures in
    refused-next c.args.command c.args.first.now c.args.others.now c.loop-text.text-index c.text-item.result c.loop-text.items r c.in-Err-2.line.items c.loop-text-test.true c.text-item.is
    c.loop-text.invariant
    (subst (λ (w : List ℕ). IsRefusedAt c.args.command (length c.loop-text.items + 1) w r) c.as_slice-in-loop-text.ensures
    (subst (λ (n : ℕ). IsRefusedAt c.args.command (n + 1) c.as_slice-in-loop-text.result.now r) c.len.ensures cause))
    (is ∙ ap (λ (n : ℕ). item_line (refusal_words r) (n + 1)) c.len.ensures)

pub loop-text-preserved : goal.loop-text-preserved
loop-text-preserved c =
    let read = rw c.in-Ok-2.is at c.in_ok-e-2.ensures in
    read-next c.args.command c.args.first.now c.args.others.now c.loop-text.text-index c.text-item.result c.loop-text.items c.push-in-Ok-2.new.self c.in-Ok-2.e c.loop-text-test.true c.text-item.is
    c.loop-text.invariant
    (subst (λ (w : List ℕ). IsReadAt c.args.command (length c.loop-text.items + 1) w (tree_of c.in-Ok-2.e)) c.as_slice-in-loop-text.ensures
    (subst (λ (n : ℕ). IsReadAt c.args.command (n + 1) c.as_slice-in-loop-text.result.now (tree_of c.in-Ok-2.e)) c.len.ensures read))
    c.in_ok-push-in-Ok-2.ensures.ok
