use Rattle.sg_ratfun.specs.Fractions.{ratio}
use Rattle.sg_products.proofs.Calls.{lifted_call}
use Rattle.sg_bottom.proofs.bottom.BottomTower.lift.Goals as goal

pub returns-clause-value : goal.returns-clause-value
returns-clause-value g c = lifted_call g.F.Field.val c.args.self.now.alphas c.len.result c.len.ensures c.args.r.now c.in_ok-e.e (ratio g.F.Field.val c.in_ok-copy.copy) c.in_ok-copy.ensures.value c.in_ok-e.ensures.value
