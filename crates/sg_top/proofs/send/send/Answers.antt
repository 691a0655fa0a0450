use Rattle.std.proofs.Common.{arith, length-drop}
use Rattle.sg_top.proofs.Sending.{appends-more, front-of, take-rest}
use Rattle.sg_top.proofs.send.send.Goals as goal

pub loop-sent-preserved : goal.loop-sent-preserved
loop-sent-preserved g c = record {
  within = let w = rw (take-rest c.loop-sent.sent c.args.text.now) at c.in-Ok.ensures.within in omega (arith, simp length-drop at w);
  appended = appends-more _ _ _ c.args.text.now c.loop-sent.sent c.in-Ok.n c.loop-sent.invariant.appended (rw (take-rest c.loop-sent.sent c.args.text.now) at c.in-Ok.ensures.appends);
  count = let w = c.in-Ok.ensures.count in omega (arith, w);
}

pub returns-in-Err-clause-part : goal.returns-in-Err-clause-part
returns-in-Err-clause-part g c = front-of _ _ c.args.text.now c.loop-sent.sent (let e = c.in-Err.ensures.kept in rw e c.loop-sent.invariant.appended)
