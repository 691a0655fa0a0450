use Rattle.sg_sums.proofs.NextRows.{state_next_rows}
use Rattle.sg_sums.proofs.powers.lowered.Goals as goal

pub returns-clause-value : goal.returns-clause-value
returns-clause-value g c = state_next_rows (g.T.Tower.reading g.T.K.Field.vars g.T.K.Field.val c.args.below.now) g.T.K.Field.val c.args.beta.now
    c.args.n c.args.rows.now c.args.fs.now c.in_ok-ls.ls c.in_ok-inner.inner c.in_ok-new.new c.requires c.in_ok-ls.ensures.value c.in_ok-inner.ensures.sound c.in_ok-inner.ensures.complete c.in_ok-new.ensures.value
