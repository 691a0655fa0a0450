use Rattle.std.proofs.Common.{length}
use Rattle.sg_plain.proofs.products.+dot.Given as goal

abbrev pub decreases-dot : goal.decreases-dot
decreases-dot l = length l.weights.now
