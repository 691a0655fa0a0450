use Rattle.std.proofs.Common.{length}
use Rattle.sg_canonical.proofs.signs.+added.Given as goal

abbrev pub decreases-added : goal.decreases-added
decreases-added l = length l.ss.now
