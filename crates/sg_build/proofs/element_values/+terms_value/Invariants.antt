use Rattle.std.proofs.Common.{length}
use Rattle.sg_build.proofs.element_values.+terms_value.Given as goal

abbrev pub decreases-terms_value : goal.decreases-terms_value
decreases-terms_value g l = length l.terms.now
