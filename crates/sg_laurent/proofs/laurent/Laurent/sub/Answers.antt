use Rattle.sg_laurent.specs.Elements.{element, term_in}
use Rattle.sg_laurent.proofs.Coefficients.{difference_is}
use Rattle.sg_laurent.proofs.laurent.Laurent.sub.Goals as goal

pub returns-clause-value : goal.returns-clause-value
returns-clause-value g c = difference_is g.K.Field.val c.args.n (element g.K.Field.val c.args.n c.args.self.now) (element g.K.Field.val c.args.n c.args.other.now) (element g.K.Field.val c.args.n c.in_ok-own.own) (element g.K.Field.val c.args.n c.in_ok-terms.terms) (term_in g.K.Field.val c.args.n c.in_ok-t.t) (g.K.Field.val c.in_ok-minus.minus) (g.K.Field.val c.in_ok-zero.zero) (g.K.Field.val c.in_ok-one.one) c.terms.result.now c.terms-2.result.now
    c.terms.ensures.value c.terms-2.ensures.value (rw c.new.ensures at c.in_ok-own.ensures.value) c.in_ok-zero.ensures.value c.in_ok-one.ensures.value c.in_ok-minus.ensures.value c.in_ok-t.ensures.value c.in_ok-terms.ensures.value
