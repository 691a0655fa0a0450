use Rattle.sg_ratfun.specs.Fractions.{ratio}
use Rattle.sg_build.proofs.FunctionParts.{variable-is}
use Rattle.sg_build.proofs.functions.variable.Goals as goal

pub returns-clause-value : goal.returns-clause-value
returns-clause-value g c = variable-is g.K.Field.val c.in_ok-p.p c.in_ok-one.one (ratio g.K.Field.val c.in_ok-r.r) c.in_ok-p.ensures.value c.in_ok-one.ensures.value c.in_ok-r.ensures.value
