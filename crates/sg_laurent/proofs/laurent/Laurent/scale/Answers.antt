use Rattle.sg_laurent.specs.Elements.{element, term_in}
use Rattle.sg_laurent.proofs.Coefficients.{scaled_is}
use Rattle.sg_laurent.proofs.laurent.Laurent.scale.Goals as goal

pub returns-clause-value : goal.returns-clause-value
returns-clause-value g c = scaled_is g.K.Field.val c.args.n (element g.K.Field.val c.args.n c.args.self.now) (element g.K.Field.val c.args.n c.in_ok-terms.terms) (term_in g.K.Field.val c.args.n c.in_ok-t.t) (g.K.Field.val c.args.c.now) (g.K.Field.val c.in_ok-copy.copy) c.terms.result.now
    c.terms.ensures.value c.in_ok-copy.ensures.value c.in_ok-t.ensures.value (rw c.new.ensures at c.in_ok-terms.ensures.value)
