use Rattle.std.proofs.Common.{refl}
use Rattle.sg_products.proofs.Slicing.{next_is}
use Rattle.sg_products.proofs.solve.next.Goals as goal

pub returns-clause-value : goal.returns-clause-value
returns-clause-value g c = next_is g.F.Field.val c.args.alphas.now c.args.e.now c.args.rows.now c.args.w.now c.in_ok-sum.sum _ c.in_ok-power.power c.in_ok-moved.moved c.in_ok-difference.difference
    c.in_ok-sum.ensures.value c.in_ok-power.ensures.value c.in_ok-moved.ensures.value c.in_ok-difference.ensures.value refl c.in_ok-value.ensures.value c.in_ok-left.ensures.value
