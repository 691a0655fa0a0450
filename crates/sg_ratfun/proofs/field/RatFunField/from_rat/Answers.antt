use Rattle.std.proofs.Common.{◌∙◌, unsigned_abs}
use Rattle.sg_num.proofs.Numbers.{den-positive}
use Rattle.sg_ratfun.proofs.Constants.{constant-rational}
use Rattle.sg_ratfun.proofs.field.RatFunField.from_rat.Goals as goal

pub returns-clause-value : goal.returns-clause-value
returns-clause-value g c = c.in_ok-x.ensures.value ∙ constant-rational (g.F.Field.val c.in_ok-c.c) c.args.r.num (unsigned_abs c.args.r.den) (den-positive c.args.r) c.in_ok-c.ensures.value
