use Rattle.sg_laurent.specs.Elements.{element}
use Rattle.sg_laurent.proofs.Coefficients.{copy_value}
use Rattle.sg_laurent.proofs.laurent.Laurent.copy.Goals as goal

pub returns-clause-value : goal.returns-clause-value
returns-clause-value g c = copy_value g.K.Field.val c.args.n (element g.K.Field.val c.args.n c.args.self.now) (element g.K.Field.val c.args.n c.in_ok-terms.terms) c.terms.result.now c.terms.ensures.value (rw c.new.ensures at c.in_ok-terms.ensures.value)
