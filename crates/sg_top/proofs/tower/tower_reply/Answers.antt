use Rattle.std.proofs.Common.{map}
use Rattle.sg_expr.specs.Tree.{tree_of}
use Rattle.sg_top.proofs.Items.{lone}
use Rattle.sg_top.proofs.Telling.{examined-form, examined-kept, examined-test, examined-told}
use Rattle.sg_top.proofs.tower.tower_reply.Goals as goal

pub tested-requires-clause-form : goal.tested-requires-clause-form
tested-requires-clause-form c =
    examined-form (map tree_of c.args.items.now) (map tree_of c.in_ok-examined.examined) (tree_of c.get.result.now) (lone c.args.items.now c.get.result.now c.requires.one c.get.ensures) c.in_ok-examined.ensures
    c.requires.form

pub tested-requires-clause-kept : goal.tested-requires-clause-kept
tested-requires-clause-kept c =
    examined-kept (map tree_of c.args.items.now) (map tree_of c.in_ok-examined.examined) (tree_of c.get.result.now) (lone c.args.items.now c.get.result.now c.requires.one c.get.ensures) c.in_ok-examined.ensures
    c.requires.kept

pub told_reply-requires-clause-form : goal.told_reply-requires-clause-form
told_reply-requires-clause-form c =
    examined-form (map tree_of c.args.items.now) (map tree_of c.in_ok-examined.examined) (tree_of c.get.result.now) (lone c.args.items.now c.get.result.now c.requires.one c.get.ensures) c.in_ok-examined.ensures
    c.requires.form

pub told_reply-requires-clause-kept : goal.told_reply-requires-clause-kept
told_reply-requires-clause-kept c =
    examined-kept (map tree_of c.args.items.now) (map tree_of c.in_ok-examined.examined) (tree_of c.get.result.now) (lone c.args.items.now c.get.result.now c.requires.one c.get.ensures) c.in_ok-examined.ensures
    c.requires.kept

pub returns-in-Ok : goal.returns-in-Ok
returns-in-Ok c =
    examined-told (map tree_of c.args.items.now) (map tree_of c.in_ok-examined.examined) (tree_of c.get.result.now) (lone c.args.items.now c.get.result.now c.requires.one c.get.ensures) c.in_ok-examined.ensures
    c.in-Ok.facts c.in_ok-reply-in-Ok.reply.status c.in_ok-reply-in-Ok.reply.text.items (rw c.in-Ok.is at c.in_ok-facts.ensures) c.in_ok-reply-in-Ok.ensures

pub returns : goal.returns
returns c =
    examined-test (map tree_of c.args.items.now) (map tree_of c.in_ok-examined.examined) (tree_of c.get.result.now) (lone c.args.items.now c.get.result.now c.requires.one c.get.ensures) c.in_ok-examined.ensures
    c.in-Err.reply.status c.in-Err.reply.text.items (rw c.in-Err.is at c.in_ok-facts.ensures)
