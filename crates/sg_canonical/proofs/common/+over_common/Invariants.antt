use Rattle.std.proofs.Common.{length}
use Rattle.sg_canonical.proofs.common.+over_common.Given as goal

abbrev pub decreases-over_common : goal.decreases-over_common
decreases-over_common l = length l.list.now
