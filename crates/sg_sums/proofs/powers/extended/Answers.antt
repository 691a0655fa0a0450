use Rattle.sg_sums.proofs.Extending.{extended_is}
use Rattle.sg_sums.proofs.Skipping.{extended_none}
use Rattle.sg_sums.proofs.powers.extended.Goals as goal

pub returns-clause-value : goal.returns-clause-value
returns-clause-value g c = extended_is (g.T.Tower.reading g.T.K.Field.vars g.T.K.Field.val c.args.below.now) g.T.K.Field.val c.args.acc c.args.row.now _ (g.T.K.Field.val c.args.c.now) c.in_ok-more.more c.in_ok-rest.rest
    c.in_ok-coeffs.ensures.value c.in_ok-more.ensures.value c.in_ok-value.ensures.value c.in_ok-rest.ensures.value c.in_ok-left.ensures.value

pub returns-then-is_zero-clause-value : goal.returns-then-is_zero-clause-value
returns-then-is_zero-clause-value g c = extended_none (g.T.Tower.reading g.T.K.Field.vars g.T.K.Field.val c.args.below.now) g.T.K.Field.val c.args.acc c.args.row.now (g.T.K.Field.val c.args.c.now) (c.is_zero.ensures.0 c.if-is_zero.true)
