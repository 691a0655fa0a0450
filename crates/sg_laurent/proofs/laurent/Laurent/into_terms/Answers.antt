use Rattle.sg_laurent.proofs.Coefficients.{unfit}
use Rattle.sg_laurent.proofs.laurent.Laurent.into_terms.Goals as goal

pub returns-clause-value : goal.returns-clause-value
returns-clause-value g c = rw c.new.ensures (unfit g.K.Field.val c.args.n c.self.inside.products c.args.self c.if-products-n.false (rw c.self.view_is at c.self.invariant.fit))
