use Rattle.std.proofs.Common.{◌∙◌, ap₂, ◌+ℤ◌}
use Rattle.sg_algebra.specs.Coefficients.{zip_longest}
use Rattle.sg_laurent.proofs.Adding.{product_is, product_fits}
use Rattle.sg_laurent.proofs.products.term_product.Goals as goal

pub returns-clause-value : goal.returns-clause-value
returns-clause-value g c = product_is g.K.Field.val c.args.n c.args.s.now c.args.t.now (record { exps = c.in_ok-exps.exps; coeff = c.in_ok-coeff.coeff }) c.requires.left c.requires.right
    (c.in_ok-exps.ensures.value ∙ ap₂ (zip_longest ◌+ℤ◌) c.as_slice.ensures c.as_slice-2.ensures) c.in_ok-coeff.ensures.value

pub returns-clause-fit : goal.returns-clause-fit
returns-clause-fit g c = product_fits c.args.n c.args.s.now c.args.t.now (record { exps = c.in_ok-exps.exps; coeff = c.in_ok-coeff.coeff }) c.requires.left c.requires.right
    (c.in_ok-exps.ensures.value ∙ ap₂ (zip_longest ◌+ℤ◌) c.as_slice.ensures c.as_slice-2.ensures)
