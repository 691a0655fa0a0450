use Rattle.std.proofs.Common.{length}
use Rattle.sg_canonical.proofs.monomials.+push_monomials.Given as goal

abbrev pub decreases-push_monomials : goal.decreases-push_monomials
decreases-push_monomials l = length l.p.now
