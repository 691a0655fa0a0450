use Rattle.std.proofs.Common.{refl, length}
use Rattle.sg_products.proofs.Calls.{copy_call}
use Rattle.sg_products.proofs.rows.copy_of.Goals as goal

pub returns-clause-value : goal.returns-clause-value
returns-clause-value g c = copy_call g.F.Field.val c.args.alphas.now (length c.args.alphas.now) refl c.args.x.now c.in_ok-r.r c.in_ok-r.ensures.value
