use Rattle.std.proofs.Common.{length}
use Rattle.sg_build.proofs.element_values.+powers.Given as goal

abbrev pub decreases-powers : goal.decreases-powers
decreases-powers g l = length l.exps.now
