use Rattle.std.proofs.Common.{unsigned_abs}
use Rattle.sg_algebra.proofs.Rational.{fraction_value-rational}
use Rattle.sg_num.proofs.Numbers.{den-positive}
use Rattle.sg_num.proofs.rational.RatField.from_rat.Goals as goal

pub returns-clause-value : goal.returns-clause-value
returns-clause-value c = fraction_value-rational c.args.r.num (unsigned_abs c.args.r.den) (den-positive c.args.r)
