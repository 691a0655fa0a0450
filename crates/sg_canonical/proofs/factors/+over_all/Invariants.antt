use Rattle.std.proofs.Common.{length}
use Rattle.sg_canonical.proofs.factors.+over_all.Given as goal

abbrev pub decreases-over_all : goal.decreases-over_all
decreases-over_all l = length l.us.now
