use Rattle.std.proofs.Common.{length}
use Rattle.sg_canonical.proofs.products.+push_above.Given as goal

abbrev pub decreases-push_above : goal.decreases-push_above
decreases-push_above l = length l.products.now
