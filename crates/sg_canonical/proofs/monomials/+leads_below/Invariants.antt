use Rattle.std.proofs.Common.{length}
use Rattle.sg_canonical.proofs.monomials.+leads_below.Given as goal

abbrev pub decreases-leads_below : goal.decreases-leads_below
decreases-leads_below l = length l.p.now
