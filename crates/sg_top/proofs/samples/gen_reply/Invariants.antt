use Rattle.sg_top.specs.Ending.{Tallied}
use Rattle.sg_top.proofs.samples.gen_reply.Given as goal

abbrev pub invariant-loop-i : goal.invariant-loop-i
invariant-loop-i l = Tallied l.seed l.i l.tally
