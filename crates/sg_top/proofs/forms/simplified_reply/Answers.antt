use Rattle.std.proofs.Common.{FitsSigned, map, inl, ◌∙◌, rules}
use Rattle.std.specs.Int.{w64}
use Rattle.std.proofs.lemmas.Int.{to_z-of_z}
use Rattle.std.proofs.lemmas.List.{length-map}
use Rattle.sg_expr.specs.Tree.{tree_of}
use Rattle.sg_top.proofs.Simplifying.{simplified-line, simplified-wide}
use Rattle.sg_top.proofs.Replies.{admitted, lower}
use Rattle.sg_top.proofs.forms.simplified_reply.Goals as goal

pub returns-in_ok-reply-in-Ok : goal.returns-in_ok-reply-in-Ok
returns-in_ok-reply-in-Ok c =
    let fits : FitsSigned w64 c.args.a = c.ranges.a in
    let start_fits : FitsSigned w64 c.args.facts.now.start = search rules in
    simplified-line c.args.a c.args.facts.now.start (map tree_of c.args.items.now) (tree_of c.in-Ok.h) c.in_ok-reply-in-Ok.reply.status c.in_ok-reply-in-Ok.reply.text.items
    (length-map c.args.items.now tree_of ∙ c.requires.one) c.requires.tested.spared c.requires.tested.facts_are.start_is (simp to_z-of_z at c.in-Ok.ensures.simplified)
    c.in_ok-reply-in-Ok.ensures.reads_back c.in_ok-reply-in-Ok.ensures.status (simp to_z-of_z at c.in_ok-reply-in-Ok.ensures.text)

pub returns-in_ok-reply-in-Err : goal.returns-in_ok-reply-in-Err
returns-in_ok-reply-in-Err c =
    simplified-wide c.args.a (map tree_of c.args.items.now) c.in_ok-reply-in-Err.reply.status c.in_ok-reply-in-Err.reply.text.items (inl c.requires.tested.spared) c.in_ok-reply-in-Err.ensures.line

pub simplified-requires-clause-admitted : goal.simplified-requires-clause-admitted
simplified-requires-clause-admitted c =
    let fits : FitsSigned w64 c.args.a = c.ranges.a in
    simp to_z-of_z (admitted c.args.a c.args.facts.now (map tree_of c.args.items.now) c.requires.form c.requires.kept (lower c.args.a c.requires.low) c.requires.high c.requires.tested)
