use Rattle.std.proofs.Common.{map, arith}
use Rattle.sg_algebra.proofs.Polynomial.{poly}
use Rattle.sg_constant.proofs.Solved.{combined_more, combined_all}
use Rattle.sg_constant.proofs.solving.combined.Goals as goal

pub loop-i-init : goal.loop-i-init
loop-i-init g c = c.in_ok-sum.ensures.value

pub loop-i-preserved : goal.loop-i-preserved
loop-i-preserved g c =
    let v = g.F.Field.val in
    combined_more v c.args.c.now c.args.list.now c.loop-i.i c.index-list-i.result c.index-c-i.result (poly (map v c.loop-i.sum)) (poly (map v c.in_ok-part.part)) (poly (map v c.in_ok-sum-2.sum))
    (omega arith) (omega (arith, c.requires)) c.index-list-i.is c.index-c-i.is c.loop-i.invariant c.in_ok-part.ensures.value c.in_ok-sum-2.ensures.value

pub returns-clause-value : goal.returns-clause-value
returns-clause-value g c = combined_all g.F.Field.val c.args.c.now c.args.list.now c.loop-i.i (poly (map g.F.Field.val c.loop-i.sum)) (omega arith) c.loop-i.invariant
