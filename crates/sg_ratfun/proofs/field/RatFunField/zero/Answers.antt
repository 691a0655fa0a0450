use Rattle.std.proofs.Common.{◌∙◌}
use Rattle.sg_ratfun.proofs.Constants.{constant-zero}
use Rattle.sg_ratfun.proofs.field.RatFunField.zero.Goals as goal

pub returns-clause-value : goal.returns-clause-value
returns-clause-value g c = c.in_ok-r.ensures.value ∙ constant-zero (g.F.Field.val c.in_ok-c.c) c.in_ok-c.ensures.value
