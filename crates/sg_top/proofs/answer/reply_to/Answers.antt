use Rattle.std.proofs.Common.{◌∷◌}
use Rattle.sg_top.proofs.Texts.{limited, has-texts}
use Rattle.sg_top.proofs.answer.reply_to.Goals as goal

pub command_reply-requires-clause-texts : goal.command_reply-requires-clause-texts
command_reply-requires-clause-texts c = has-texts c.args.words.now c.in-Some.command (c.in-Some.first.now ∷ c.in-Some.others.now) c.in-Some.ensures

pub command_reply-requires-clause-limit : goal.command_reply-requires-clause-limit
command_reply-requires-clause-limit c = limited c.args.words.now c.in-Some.command (c.in-Some.first.now ∷ c.in-Some.others.now) c.in-Some.ensures
