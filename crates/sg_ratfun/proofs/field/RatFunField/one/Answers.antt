use Rattle.std.proofs.Common.{◌∙◌}
use Rattle.sg_ratfun.proofs.Constants.{constant-one}
use Rattle.sg_ratfun.proofs.field.RatFunField.one.Goals as goal

pub returns-clause-value : goal.returns-clause-value
returns-clause-value g c = c.in_ok-r.ensures.value ∙ constant-one (g.F.Field.val c.in_ok-c.c) c.in_ok-c.ensures.value
