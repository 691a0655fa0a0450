use Rattle.sg_products.proofs.Calls.{zero_test_call}
use Rattle.sg_bottom.proofs.bottom.BottomTower.is_zero.Goals as goal

pub returns : goal.returns
returns g c = zero_test_call g.F.Field.val c.args.self.now.alphas c.len.result c.len.ensures c.is_zero.result c.args.e.now c.is_zero.ensures
