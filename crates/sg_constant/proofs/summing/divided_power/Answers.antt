use Rattle.std.proofs.Common.{map}
use Rattle.sg_constant.proofs.Summed.{term_divided}
use Rattle.sg_constant.proofs.summing.divided_power.Goals as goal

pub returns-clause-value : goal.returns-clause-value
returns-clause-value g c =
    let v = g.F.Field.val in
    term_divided c.args.n (v c.args.b.now) (v c.in_ok-q.q) (v c.args.c.now) (map v c.in_ok-t.t) c.requires c.in_ok-q.ensures.value c.in_ok-t.ensures.top c.in_ok-t.ensures.past
