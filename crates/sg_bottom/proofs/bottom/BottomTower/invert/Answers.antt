use Rattle.std.proofs.lemmas.Option.{IfSome_then}
use Rattle.sg_products.proofs.Calls.{inverse_call, no_inverse_call}
use Rattle.sg_bottom.proofs.Factors.{none_then}
use Rattle.sg_bottom.proofs.bottom.BottomTower.invert.Goals as goal

pub returns-clause-some : goal.returns-clause-some
returns-clause-some g c = IfSome_then c.in_ok-r.r c.in_ok-r.ensures.some (λ r h. inverse_call g.F.Field.val c.args.self.now.alphas c.len.result c.len.ensures c.args.e.now r h)

pub returns-clause-none : goal.returns-clause-none
returns-clause-none g c = none_then c.in_ok-r.r c.in_ok-r.ensures.none (λ h. no_inverse_call g.F.Field.val c.args.self.now.alphas c.len.result c.len.ensures c.args.e.now h)
