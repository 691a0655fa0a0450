use Rattle.std.proofs.Common.{FitsSigned, map, inl}
use Rattle.std.specs.Int.{w64}
use Rattle.std.proofs.lemmas.Int.{to_z-of_z}
use Rattle.sg_expr.specs.Tree.{tree_of}
use Rattle.sg_top.proofs.Simplifying.{checked-wide}
use Rattle.sg_top.proofs.Replies.{admitted, lower}
use Rattle.sg_top.proofs.forms.checked_reply.Goals as goal

pub returns-in_ok-reply-in-Err : goal.returns-in_ok-reply-in-Err
returns-in_ok-reply-in-Err c =
    checked-wide c.args.a (map tree_of c.args.items.now) c.in_ok-reply-in-Err.reply.status c.in_ok-reply-in-Err.reply.text.items (inl c.requires.tested.spared) c.in_ok-reply-in-Err.ensures.line

pub checked-requires-clause-admitted : goal.checked-requires-clause-admitted
checked-requires-clause-admitted c =
    let fits : FitsSigned w64 c.args.a = c.ranges.a in
    simp to_z-of_z (admitted c.args.a c.args.facts.now (map tree_of c.args.items.now) c.requires.form c.requires.kept (lower c.args.a c.requires.low) c.requires.high c.requires.tested)
