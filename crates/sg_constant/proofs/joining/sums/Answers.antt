use Rattle.std.proofs.Common.{map, arith}
use Rattle.sg_algebra.proofs.Polynomial.{poly}
use Rattle.sg_constant.proofs.Numerators.{sums_push, sums_all}
use Rattle.sg_constant.proofs.joining.sums.Goals as goal

pub loop-i-preserved : goal.loop-i-preserved
loop-i-preserved g c =
    let v = g.F.Field.val in
    sums_push v (poly (map v c.args.x.now)) (poly (map v c.args.y.now)) c.loop-i.sums c.push.new.self c.in_ok-sum.field-0 c.args.left.now c.index-left-i.result c.args.right.now c.index-right-i.result c.loop-i.i
    (omega arith) (omega (arith, c.requires)) c.index-left-i.is c.index-right-i.is c.in_ok-push.ensures.ok c.loop-i.invariant c.in_ok-sum.ensures.value

pub returns-clause-adds : goal.returns-clause-adds
returns-clause-adds g c =
    let v = g.F.Field.val in
    sums_all v (poly (map v c.args.x.now)) (poly (map v c.args.y.now)) c.loop-i.sums c.args.left.now c.args.right.now c.loop-i.i (omega arith) (omega (arith, c.requires)) c.loop-i.invariant
