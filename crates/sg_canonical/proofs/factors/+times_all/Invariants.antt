use Rattle.std.proofs.Common.{length}
use Rattle.sg_canonical.proofs.factors.+times_all.Given as goal

abbrev pub decreases-times_all : goal.decreases-times_all
decreases-times_all l = length l.us.now
