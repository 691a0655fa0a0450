use Rattle.std.proofs.Common.{length}
use Rattle.sg_plain.proofs.reducing.+greatest_divisor.Given as goal

abbrev pub decreases-greatest_divisor : goal.decreases-greatest_divisor
decreases-greatest_divisor l = length l.numbers.now
