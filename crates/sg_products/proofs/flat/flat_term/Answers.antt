use Rattle.std.proofs.Common.{◌∙◌}
use Rattle.sg_products.proofs.flat.flat_term.Goals as goal

pub returns-clause-value : goal.returns-clause-value
returns-clause-value g c = record { exps = c.in_ok-exps.ensures ∙ c.as_slice.ensures; value = c.in_ok-coeff.ensures.value; reduced = c.den_len-size.ensures.reduced }
