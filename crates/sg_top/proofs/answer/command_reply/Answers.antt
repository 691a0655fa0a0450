use Rattle.std.proofs.Common.{◌∷◌, length, map, sym, subst, ◌∙◌, inr, arith}
use Rattle.std.proofs.lemmas.List.{length-map}
use Rattle.sg_expr.specs.Tree.{tree_of}
use Rattle.sg_words.specs.Words.{HasTexts}
use Rattle.sg_top.proofs.Texts.{read-length, read-form, few-texts}
use Rattle.sg_top.proofs.answer.command_reply.Goals as goal

pub take-requires : goal.take-requires
take-requires c = let few = few-texts c.args.command (length (c.args.first.now ∷ c.args.others.now)) c.requires.texts in omega arith

pub output-requires-clause-texts : goal.output-requires-clause-texts
output-requires-clause-texts c =
    let taken = rw c.in-Items.is at c.in_ok-text.ensures in
    let same = read-length c.args.command 1 (c.args.first.now ∷ c.args.others.now) (map tree_of c.in-Items.items) taken.0 in
    subst (HasTexts c.args.command) (sym (sym (length-map c.in-Items.items tree_of) ∙ same)) c.requires.texts

pub output-requires-clause-form : goal.output-requires-clause-form
output-requires-clause-form c =
    let taken = rw c.in-Items.is at c.in_ok-text.ensures in
    read-form c.args.command 1 (c.args.first.now ∷ c.args.others.now) (map tree_of c.in-Items.items) taken.0

pub output-requires-clause-kept : goal.output-requires-clause-kept
output-requires-clause-kept c = let taken = rw c.in-Items.is at c.in_ok-text.ensures in taken.1

pub returns-in_ok-reply-in-Items : goal.returns-in_ok-reply-in-Items
returns-in_ok-reply-in-Items c =
    let taken = rw c.in-Items.is at c.in_ok-text.ensures in
    inr (record { trees = map tree_of c.in-Items.items; read = taken.0; reply = inr (taken.1, c.in_ok-reply-in-Items.ensures) })
