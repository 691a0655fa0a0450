use Rattle.sg_depth.proofs.Constants.{raised-by}
use Rattle.sg_depth.proofs.levels.plus_constant.Goals as goal

pub returns-clause-sum : goal.returns-clause-sum
returns-clause-sum g c = raised-by (g.T.Tower.reading g.F.Field.vars g.F.Field.val c.args.tower.now) (g.F.Field.val c.args.c.now) c.args.y c.in_ok-one.one c.in_ok-constant.constant c.in_ok-h.h c.in_ok-one.ensures.value c.in_ok-constant.ensures.value c.in_ok-h.ensures.value
