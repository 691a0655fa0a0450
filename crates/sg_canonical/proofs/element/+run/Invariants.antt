use Rattle.std.proofs.Common.{length}
use Rattle.sg_canonical.proofs.element.+run.Given as goal

abbrev pub decreases-run : goal.decreases-run
decreases-run l = length l.parts.now
