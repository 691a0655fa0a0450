use Rattle.std.proofs.Common.{length}
use Rattle.sg_plain.proofs.summing.+at.Given as goal

abbrev pub decreases-at : goal.decreases-at
decreases-at l = length l.terms.now
