use Rattle.sg_products.proofs.Calls.{product_call}
use Rattle.sg_bottom.proofs.bottom.BottomTower.mul.Goals as goal

pub returns-clause-value : goal.returns-clause-value
returns-clause-value g c = product_call g.F.Field.val c.args.self.now.alphas c.len.result c.len.ensures c.args.x.now c.args.y.now c.in_ok-r.r c.in_ok-r.ensures.value
