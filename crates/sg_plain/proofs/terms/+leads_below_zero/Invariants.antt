use Rattle.std.proofs.Common.{length}
use Rattle.sg_plain.proofs.terms.+leads_below_zero.Given as goal

abbrev pub decreases-leads_below_zero : goal.decreases-leads_below_zero
decreases-leads_below_zero l = length l.coefficients.now
