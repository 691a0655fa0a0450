use Rattle.std.proofs.Common.{refl}
use Rattle.sg_products.specs.Solving.{IsFinished}
use Rattle.sg_products.proofs.Flattening.{pairwise_more}
use Rattle.sg_products.proofs.solve.finished.Goals as goal

pub loop-row-preserved : goal.loop-row-preserved
loop-row-preserved g c = pairwise_more IsFinished c.loop-row.yielded c.loop-row.answer _ c.in-Some.row _ c.loop-row.invariant (record { coeffs = refl; value = refl }) c.in_ok-push.ensures.ok
