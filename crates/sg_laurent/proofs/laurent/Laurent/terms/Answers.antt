use Rattle.sg_laurent.proofs.Coefficients.{unfit}
use Rattle.sg_laurent.proofs.laurent.Laurent.terms.Goals as goal

pub returns-clause-value : goal.returns-clause-value
returns-clause-value g c = unfit g.K.Field.val c.args.n c.self.inside.products c.args.self.now c.if-self-n.false (rw c.self.view_is at c.self.invariant.fit)
