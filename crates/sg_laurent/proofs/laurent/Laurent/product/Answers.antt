use Rattle.sg_laurent.specs.Elements.{element}
use Rattle.std.proofs.Common.{◌∙◌, ap, length}
use Rattle.sg_algebra.proofs.Value.{one_value}
use Rattle.sg_laurent.specs.Exponents.{unit_exponents}
use Rattle.sg_laurent.specs.Elements.{product_in}
use Rattle.sg_laurent.proofs.Listing.{unit-length}
use Rattle.sg_laurent.proofs.Coefficients.{term_value, term_is}
use Rattle.sg_laurent.proofs.laurent.Laurent.product.Goals as goal

pub gathered-requires-clause-fit : goal.gathered-requires-clause-fit
gathered-requires-clause-fit g c = ap length c.in_ok-exps.ensures.value ∙ unit-length c.args.n c.args.i

pub returns-clause-value : goal.returns-clause-value
returns-clause-value g c = term_value g.K.Field.val c.args.n (element g.K.Field.val c.args.n c.in_ok-terms.terms) (product_in g.K.Field.val c.args.n c.args.i) (record { exps = c.in_ok-exps.exps; coeff = c.in_ok-coeff.coeff }) (rw c.new.ensures at c.in_ok-terms.ensures.value)
    (term_is g.K.Field.val c.args.n (record { exps = c.in_ok-exps.exps; coeff = c.in_ok-coeff.coeff }) (unit_exponents c.args.n c.args.i) one_value c.in_ok-exps.ensures.value c.in_ok-coeff.ensures.value)
