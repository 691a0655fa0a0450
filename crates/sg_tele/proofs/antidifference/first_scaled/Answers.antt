use Rattle.std.proofs.Common.{arith}
use Rattle.sg_tele.specs.Telescoping.{StartsWithZero}
use Rattle.sg_tele.proofs.Novelty.{each_next, each_whole}
use Rattle.sg_tele.proofs.antidifference.first_scaled.Goals as goal

pub returns-in-Some-clause-some : goal.returns-in-Some-clause-some
returns-in-Some-clause-some g c = record {
  solution = c.get.result.now;
  place = c.loop-i.i;
  inside = omega arith;
  at = c.get.ensures;
  scaled = rw c.in-Some.is at c.in_ok-found.ensures.some;
}

pub loop-i-preserved : goal.loop-i-preserved
loop-i-preserved g c = each_next (StartsWithZero g.T.K.Field.val) c.args.rows.now c.loop-i.i c.get.result.now c.loop-i.invariant (omega arith) c.get.ensures (rw c.in-None.is at c.in_ok-found.ensures.none)

pub returns-clause-none : goal.returns-clause-none
returns-clause-none g c = each_whole (StartsWithZero g.T.K.Field.val) c.args.rows.now c.loop-i.i c.loop-i.invariant (omega arith)
