use Rattle.std.proofs.Common.{refl}
use Rattle.sg_sums.proofs.NextRows.{last_row_is}
use Rattle.sg_sums.proofs.ending.last.Goals as goal

pub returns-clause-value : goal.returns-clause-value
returns-clause-value g c = last_row_is (g.T.Tower.reading g.T.K.Field.vars g.T.K.Field.val c.args.below.now) g.T.K.Field.val c.args.beta.now c.args.rows.now c.args.v.now c.in_ok-sum.sum _ c.in_ok-constant.constant
    c.in_ok-sum.ensures.value c.in_ok-constant.ensures.value refl c.in_ok-value.ensures.value c.new.ensures
