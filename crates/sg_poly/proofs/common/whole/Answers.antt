use Rattle.sg_poly.proofs.Taken.{keeps_start}
use Rattle.sg_poly.proofs.common.whole.Goals as goal

pub returns-clause-value : goal.returns-clause-value
returns-clause-value g c = keeps_start _ _ _ _ _ c.in_ok-common.ensures.value c.in_ok-left.ensures.value c.in_ok-right.ensures.value
