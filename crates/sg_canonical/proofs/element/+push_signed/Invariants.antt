use Rattle.std.proofs.Common.{length, ◌+◌}
use Rattle.sg_canonical.proofs.element.+push_signed.Given as goal

abbrev pub decreases-push_signed : goal.decreases-push_signed
decreases-push_signed l = length l.sums.now + length l.parts.now
