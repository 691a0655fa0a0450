use Rattle.std.proofs.Common.{length}
use Rattle.sg_roots.proofs.pieces.+pieces.Given as goal

abbrev pub decreases-pieces : goal.decreases-pieces
decreases-pieces l = length l.list.now
