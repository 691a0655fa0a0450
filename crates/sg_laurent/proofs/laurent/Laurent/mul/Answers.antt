use Rattle.sg_laurent.specs.Elements.{element}
use Rattle.sg_laurent.proofs.Coefficients.{product_value}
use Rattle.sg_laurent.proofs.laurent.Laurent.mul.Goals as goal

pub returns-clause-value : goal.returns-clause-value
returns-clause-value g c = product_value g.K.Field.val c.args.n (element g.K.Field.val c.args.n c.args.self.now) (element g.K.Field.val c.args.n c.args.other.now) (element g.K.Field.val c.args.n c.in_ok-terms.terms) c.terms.result.now c.terms-2.result.now c.terms.ensures.value c.terms-2.ensures.value c.in_ok-terms.ensures.value
