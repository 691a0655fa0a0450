use Rattle.std.proofs.Common.{◌∷◌}
use Rattle.sg_top.proofs.Answering.{command-line, not-empty}
use Rattle.sg_top.proofs.Texts.{limited, has-texts}
use Rattle.sg_top.proofs.answer.line_reply.Goals as goal

pub command_reply-requires-clause-texts : goal.command_reply-requires-clause-texts
command_reply-requires-clause-texts c = has-texts c.args.words.now c.in-Some.command (c.in-Some.first.now ∷ c.in-Some.others.now) c.in-Some.ensures

pub command_reply-requires-clause-limit : goal.command_reply-requires-clause-limit
command_reply-requires-clause-limit c = limited c.args.words.now c.in-Some.command (c.in-Some.first.now ∷ c.in-Some.others.now) c.in-Some.ensures

pub returns-in_ok-reply-in-Some : goal.returns-in_ok-reply-in-Some
returns-in_ok-reply-in-Some c =
    command-line c.args.words.now c.in-Some.command (c.in-Some.first.now ∷ c.in-Some.others.now) c.in_ok-reply-in-Some.reply.status c.in_ok-reply-in-Some.reply.text.items
    (not-empty c.args.words.now c.is_empty.result c.is_empty.ensures c.if-is_empty.false) c.in-Some.ensures c.in_ok-reply-in-Some.ensures
