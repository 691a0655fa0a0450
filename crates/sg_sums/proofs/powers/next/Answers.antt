use Rattle.std.proofs.Common.{refl}
use Rattle.sg_sums.proofs.NextRows.{next_row_is}
use Rattle.sg_sums.proofs.powers.next.Goals as goal

pub returns-clause-value : goal.returns-clause-value
returns-clause-value g c = next_row_is (g.T.Tower.reading g.T.K.Field.vars g.T.K.Field.val c.args.below.now) g.T.K.Field.val c.args.beta.now c.args.n c.args.rows.now c.args.v.now c.in_ok-sum.sum _ c.in_ok-power.power c.in_ok-moved.moved
    c.in_ok-sum.ensures.value c.in_ok-power.ensures.value c.in_ok-moved.ensures.value refl c.in_ok-value.ensures.value c.in_ok-left.ensures.value
