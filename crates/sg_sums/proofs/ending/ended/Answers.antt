use Rattle.sg_sums.proofs.NextRows.{state_ended}
use Rattle.sg_sums.proofs.ending.ended.Goals as goal

pub returns-clause-value : goal.returns-clause-value
returns-clause-value g c = state_ended (g.T.Tower.reading g.T.K.Field.vars g.T.K.Field.val c.args.below.now) g.T.K.Field.val c.args.beta.now c.args.fs.now c.args.rows c.in_ok-bare.bare c.in_ok-ls.ls c.in_ok-bare.ensures.value
    c.in_ok-inner.inner c.in_ok-new.new c.requires c.in_ok-ls.ensures.value c.in_ok-inner.ensures.sound c.in_ok-inner.ensures.complete c.in_ok-new.ensures.value
