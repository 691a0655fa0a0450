use Rattle.std.proofs.Common.{refl}
use Rattle.sg_sums.specs.Polynomials.{IsBare}
use Rattle.sg_sums.proofs.Building.{pairwise_more}
use Rattle.sg_sums.proofs.ending.without_lefts.Goals as goal

pub loop-row-preserved : goal.loop-row-preserved
loop-row-preserved g c = pairwise_more IsBare c.loop-row.yielded c.loop-row.bare _ c.in-Some.row _ c.loop-row.invariant (record { coeffs = refl; value = refl; left = c.new.ensures }) c.in_ok-push.ensures.ok
