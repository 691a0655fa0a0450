use Rattle.sg_products.proofs.Calls.{copy_call}
use Rattle.sg_bottom.proofs.bottom.BottomTower.copy.Goals as goal

pub returns-clause-value : goal.returns-clause-value
returns-clause-value g c = copy_call g.F.Field.val c.args.self.now.alphas c.len.result c.len.ensures c.args.e.now c.in_ok-r.r c.in_ok-r.ensures.value
