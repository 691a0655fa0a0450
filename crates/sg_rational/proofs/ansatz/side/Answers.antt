use Rattle.sg_rational.proofs.Answering.{side_value}
use Rattle.sg_rational.proofs.ansatz.side.Goals as goal

pub returns-clause-value : goal.returns-clause-value
returns-clause-value g c = side_value g.F.Field.val c.args.factor.now c.args.v.now c.in_ok-c.c c.in_ok-r.r c.args.f.now c.in_ok-c.ensures.value c.in_ok-c.ensures.some c.in_ok-r.ensures.value
