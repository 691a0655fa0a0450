use Rattle.sg_products.proofs.Calls.{zero_call}
use Rattle.sg_bottom.proofs.bottom.BottomTower.zero.Goals as goal

pub returns-clause-value : goal.returns-clause-value
returns-clause-value g c = zero_call g.F.Field.val c.args.self.now.alphas c.zero-r.result c.zero-r.ensures
