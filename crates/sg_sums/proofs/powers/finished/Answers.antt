use Rattle.std.proofs.Common.{refl}
use Rattle.sg_sums.specs.Polynomials.{IsFinished}
use Rattle.sg_sums.proofs.Building.{pairwise_more}
use Rattle.sg_sums.proofs.powers.finished.Goals as goal

pub loop-row-preserved : goal.loop-row-preserved
loop-row-preserved g c = pairwise_more IsFinished c.loop-row.yielded c.loop-row.answer _ c.in-Some.row _ c.loop-row.invariant (record { coeffs = refl; value = c.of.ensures }) c.in_ok-push.ensures.ok
