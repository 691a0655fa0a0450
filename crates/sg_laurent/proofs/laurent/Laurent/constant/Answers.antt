use Rattle.sg_laurent.specs.Elements.{element}
use Rattle.sg_laurent.proofs.Coefficients.{term_value}
use Rattle.sg_laurent.specs.Elements.{constant_in}
use Rattle.sg_laurent.proofs.laurent.Laurent.constant.Goals as goal

pub returns-clause-value : goal.returns-clause-value
returns-clause-value g c = term_value g.K.Field.val c.args.n (element g.K.Field.val c.args.n c.in_ok-terms.terms) (constant_in g.K.Field.val c.args.n (g.K.Field.val c.args.c)) c.in_ok-t.t (rw c.new.ensures at c.in_ok-terms.ensures.value) c.in_ok-t.ensures.value
