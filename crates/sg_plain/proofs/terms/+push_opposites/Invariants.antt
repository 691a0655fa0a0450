use Rattle.std.proofs.Common.{length}
use Rattle.sg_plain.proofs.terms.+push_opposites.Given as goal

abbrev pub decreases-push_opposites : goal.decreases-push_opposites
decreases-push_opposites l = length l.list.now
