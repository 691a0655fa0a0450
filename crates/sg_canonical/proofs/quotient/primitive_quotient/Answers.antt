use Rattle.std.proofs.Common.{◌≡◌, ◌++◌, sym, ap, ◌∙◌, rules}
use Rattle.sg_canonical.proofs.WholeQuotients.{whole-is}
use Rattle.sg_canonical.proofs.quotient.primitive_quotient.Goals as goal

pub returns-clause-value : goal.returns-clause-value
returns-clause-value c =
    whole-is c.args.upper.now c.args.lower.now c.as_slice.result.now c.in_ok-common.common.numbers c.in_ok-r.r.upper c.in_ok-r.r.lower c.in_ok-common.common.denominator
    (search rules) c.requires.monic c.in_ok-common.ensures.common (search rules) (search rules)
