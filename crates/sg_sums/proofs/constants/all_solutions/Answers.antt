use Rattle.sg_sums.proofs.Trivial.{zeros_each, trivial_solves, trivial_all}
use Rattle.sg_sums.proofs.constants.all_solutions.Goals as goal

pub constants-requires : goal.constants-requires
constants-requires g c = record { zero = zeros_each (g.T.Tower.reading g.T.K.Field.vars g.T.K.Field.val c.args.below.now) c.args.ls.now (c.zero_from.ensures.0 c.if-zero_from.true) }

pub returns-then-zero_from-clause-sound : goal.returns-then-zero_from-clause-sound
returns-then-zero_from-clause-sound g c = trivial_solves (g.T.Tower.reading g.T.K.Field.vars g.T.K.Field.val c.args.below.now) g.T.K.Field.val c.args.ls.now _ (zeros_each (g.T.Tower.reading g.T.K.Field.vars g.T.K.Field.val c.args.below.now) c.args.ls.now (c.zero_from.ensures.0 c.if-zero_from.true)) c.in_ok-rows.ensures.value

pub returns-then-zero_from-clause-complete : goal.returns-then-zero_from-clause-complete
returns-then-zero_from-clause-complete g c = trivial_all (g.T.Tower.reading g.T.K.Field.vars g.T.K.Field.val c.args.below.now) g.T.K.Field.val c.args.ls.now _ (g.met.T.Tower.independent c.args.below.now) (zeros_each (g.T.Tower.reading g.T.K.Field.vars g.T.K.Field.val c.args.below.now) c.args.ls.now (c.zero_from.ensures.0 c.if-zero_from.true)) c.in_ok-rows.ensures.value
