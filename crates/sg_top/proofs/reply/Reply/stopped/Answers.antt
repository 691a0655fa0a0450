use Rattle.sg_top.proofs.reply.Reply.stopped.Goals as goal

pub returns-in_ok-reply-in-Wide-clause-line : goal.returns-in_ok-reply-in-Wide-clause-line
returns-in_ok-reply-in-Wide-clause-line c = record {
  wide = c.in_ok-reply-in-Wide.ensures.status;
  step = c.in-Wide.wide;
  too_wide = rw c.in-Wide.is at c.requires;
  is = c.in_ok-reply-in-Wide.ensures.text;
}
