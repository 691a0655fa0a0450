use Rattle.std.proofs.Common.{map, arith}
use Rattle.sg_algebra.proofs.Polynomial.{poly}
use Rattle.sg_constant.proofs.Numerators.{right_divides, adds_push, under_push}
use Rattle.sg_constant.proofs.splitting.numerators.Goals as goal

pub right_upper-requires-clause-divides : goal.right_upper-requires-clause-divides
right_upper-requires-clause-divides g c =
    let v = g.F.Field.val in
    right_divides (poly (map v c.index-uppers-i.result)) (poly (map v c.in_ok-x.x)) (poly (map v c.args.u.now)) (poly (map v c.args.v.now)) (poly (map v c.args.t.now)) c.in_ok-x.ensures.value c.requires.inverse

pub loop-i-preserved : goal.loop-i-preserved
loop-i-preserved g c =
    let v = g.F.Field.val in
    record {
      adds = adds_push v (poly (map v c.args.v.now)) (poly (map v c.args.u.now)) c.args.uppers.now c.loop-i.i c.index-uppers-i.result c.loop-i.left c.push.new.self c.in_ok-x.x c.loop-i.right c.push-in-loop-i.new.self c.in_ok-y.y
          (omega arith) c.index-uppers-i.is c.in_ok-push.ensures.ok c.in_ok-push-2.ensures.ok c.loop-i.invariant.adds c.in_ok-y.ensures.value;
      under = λ m h. under_push v m c.loop-i.left c.push.new.self c.in_ok-x.x c.in_ok-push.ensures.ok (c.loop-i.invariant.under m h) (c.in_ok-x.ensures.under m h);
    }
