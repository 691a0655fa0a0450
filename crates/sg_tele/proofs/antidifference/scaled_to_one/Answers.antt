use Rattle.std.proofs.Common.{IsTrue, arith}
use Rattle.sg_tele.proofs.Novelty.{scaled_is}
use Rattle.sg_tele.proofs.antidifference.scaled_to_one.Goals as goal

pub returns-clause-some : goal.returns-clause-some
returns-clause-some g c = scaled_is g.T.K.Field.val (g.T.Tower.reading g.T.K.Field.vars g.T.K.Field.val c.args.tower.now) c.args.row.now c.get-c.result.now c.in_ok-one.one c.in_ok-factor.factor c.in_ok-g.g
    (grind (arith, c.is_empty.ensures, c.if-is_empty.false)) c.get-c.ensures
    (λ z. let t : IsTrue c.is_zero.result = c.is_zero.ensures.1 z in grind (arith, t, c.if-is_zero.false)) c.in_ok-one.ensures.value c.in_ok-factor.ensures.value c.in_ok-g.ensures.value
