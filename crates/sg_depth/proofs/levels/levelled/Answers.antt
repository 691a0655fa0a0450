use Rattle.sg_expr.specs.Tree.{tree_of}
use Rattle.sg_depth.proofs.Constants.{levelled-to}
use Rattle.sg_depth.proofs.levels.levelled.Goals as goal

pub returns-clause-level : goal.returns-clause-level
returns-clause-level g c = levelled-to (g.T.Tower.reading g.F.Field.vars g.F.Field.val c.args.built.now.tower) c.args.built.now.facts.now c.args.built.now.free_gens c.args.built.now.known (tree_of c.args.sum.now) c.args.y c.in_ok-h.h (g.F.Field.val c.in_ok-c.c) c.in_ok-c.ensures.constant c.in_ok-h.ensures.sum
