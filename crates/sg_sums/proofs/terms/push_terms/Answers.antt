use Rattle.sg_sums.proofs.Flattening.{flat_more}
use Rattle.sg_sums.proofs.terms.push_terms.Goals as goal

pub returns-clause-ok : goal.returns-clause-ok
returns-clause-ok g c = flat_more (g.T.Tower.reading g.T.K.Field.vars g.T.K.Field.val c.args.below.now) g.T.K.Field.val c.args.beta.now
    c.args.p.now c.args.n c.get.result.now c.args.terms.now _ c.in_ok-inner.inner c.requires.higher c.requires.inside c.get.ensures c.in_ok-inner.ensures.value c.in_ok-append_raised.ensures.ok
