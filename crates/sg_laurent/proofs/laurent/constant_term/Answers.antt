use Rattle.std.proofs.Common.{◌∙◌, ap, length}
use Rattle.sg_laurent.proofs.Listing.{unit-length}
use Rattle.sg_laurent.proofs.Coefficients.{constant_term}
use Rattle.sg_laurent.proofs.laurent.constant_term.Goals as goal

pub returns-clause-value : goal.returns-clause-value
returns-clause-value g c = constant_term g.K.Field.val c.args.n c.in_ok-exps.exps.items (g.K.Field.val c.args.c) c.in_ok-exps.ensures.value

pub returns-clause-fit : goal.returns-clause-fit
returns-clause-fit g c = ap length c.in_ok-exps.ensures.value ∙ unit-length c.args.n c.args.n
