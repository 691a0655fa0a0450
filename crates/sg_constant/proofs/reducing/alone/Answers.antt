use Rattle.std.proofs.Common.{map, arith}
use Rattle.sg_algebra.proofs.Polynomial.{poly}
use Rattle.sg_constant.proofs.Functions.{alone_more, alone_item, alone_all}
use Rattle.sg_constant.proofs.reducing.alone.Goals as goal

pub loop-j-preserved : goal.loop-j-preserved
loop-j-preserved g c =
    let v = g.F.Field.val in
    let p = poly (map v c.args.p.now) in
    alone_more v c.args.n c.args.i c.loop-j.j p p c.loop-j.list c.push.new.self c.in_ok-item.item (omega arith)
    (alone_item c.args.n c.args.i c.loop-j.j p p (poly (map v c.in_ok-item.item)) (omega arith) c.in_ok-item.ensures.here c.in_ok-item.ensures.other) c.in_ok-push.ensures.ok c.loop-j.invariant

pub returns-clause-value : goal.returns-clause-value
returns-clause-value g c = alone_all g.F.Field.val c.args.n c.args.i c.loop-j.j (poly (map g.F.Field.val c.args.p.now)) c.loop-j.list (omega arith) c.loop-j.invariant
