use Rattle.std.proofs.Common.{length}
use Rattle.sg_plain.proofs.terms.+numerator.Given as goal

abbrev pub decreases-numerator : goal.decreases-numerator
decreases-numerator l = length l.coefficients.now
