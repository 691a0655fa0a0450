use Rattle.std.proofs.Common.{map}
use Rattle.sg_algebra.proofs.Value.{over_value}
use Rattle.sg_ratfun.proofs.Steps.{quotient_value}
use Rattle.sg_ratfun.proofs.parts.quotient.Goals as goal

pub returns-clause-value : goal.returns-clause-value
returns-clause-value g c =
    let v = g.F.Field.val in
    quotient_value (over_value (map v c.in_ok-r.r.num) (map v c.in_ok-r.r.den)) (over_value (map v c.args.a.now) (map v c.args.b.now)) (over_value (map v c.in_ok-i.i.num) (map v c.in_ok-i.i.den)) (over_value (map v c.args.c.now) (map v c.args.e.now))
    c.in_ok-i.ensures.value c.in_ok-r.ensures.value
