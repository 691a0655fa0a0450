use Rattle.std.proofs.Common.{refl, ◌-◌, map, length}
use Rattle.sg_constant.proofs.Summed.{leading_at}
use Rattle.sg_constant.proofs.summing.first_term.Goals as goal

pub returns-clause-value : goal.returns-clause-value
returns-clause-value g c = leading_at g.F.Field.val c.args.p.now c.coeffs-list.result.now c.index-list-n.result (g.F.Field.val c.args.b.now) (map g.F.Field.val c.in_ok-t.t) (length c.coeffs-list.result.now - 1) c.requires c.coeffs-list.ensures.value refl c.index-list-n.is c.in_ok-t.ensures.value
