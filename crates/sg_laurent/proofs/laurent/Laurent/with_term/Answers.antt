use Rattle.sg_laurent.specs.Elements.{element, term_in}
use Rattle.sg_laurent.proofs.Coefficients.{more_is}
use Rattle.sg_laurent.proofs.laurent.Laurent.with_term.Goals as goal

pub returns-clause-value : goal.returns-clause-value
returns-clause-value g c = more_is g.K.Field.val c.args.n (element g.K.Field.val c.args.n c.args.self) (element g.K.Field.val c.args.n c.in_ok-terms.terms) (term_in g.K.Field.val c.args.n c.args.t) c.into_terms.result c.into_terms.ensures.value c.in_ok-terms.ensures.value
