use Rattle.sg_products.proofs.Calls.{generator_call}
use Rattle.sg_bottom.proofs.bottom.BottomTower.generator.Goals as goal

pub returns-clause-value : goal.returns-clause-value
returns-clause-value g c = generator_call g.F.Field.val c.args.self.now.alphas c.len.result c.len.ensures c.args.i c.in_ok-r.r c.requires c.in_ok-r.ensures.value
