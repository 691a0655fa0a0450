use Rattle.sg_poly.proofs.common.without.Goals as goal

pub loop-preserved : goal.loop-preserved
loop-preserved g c p q k = (rw c.in-Some.is at c.in_ok-without_once.ensures.value) p q (c.loop.invariant p q k)
