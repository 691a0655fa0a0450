use Rattle.sg_ratfun.specs.Fractions.{ratio}
use Rattle.sg_products.proofs.Calls.{one_call}
use Rattle.sg_bottom.proofs.bottom.BottomTower.one.Goals as goal

pub returns-clause-value : goal.returns-clause-value
returns-clause-value g c = one_call g.F.Field.val c.args.self.now.alphas c.len.result c.len.ensures c.in_ok-r.r (ratio g.F.Field.val c.in_ok-one.one) c.in_ok-one.ensures.value c.in_ok-r.ensures.value
