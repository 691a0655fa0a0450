use Rattle.sg_products.proofs.Combining.{extended_is, extended_none}
use Rattle.sg_products.proofs.rows.extended.Goals as goal

pub returns-clause-value : goal.returns-clause-value
returns-clause-value g c = extended_is g.F.Field.val c.args.alphas.now c.args.acc c.args.row.now _ (g.F.Field.val c.args.c.now) c.in_ok-more.more c.in_ok-rest.rest
    c.in_ok-coeffs.ensures.value c.in_ok-more.ensures.value c.in_ok-value.ensures.value c.in_ok-rest.ensures.value c.in_ok-left.ensures.value

pub returns-then-is_zero-clause-value : goal.returns-then-is_zero-clause-value
returns-then-is_zero-clause-value g c = extended_none g.F.Field.val c.args.alphas.now c.args.acc c.args.row.now (g.F.Field.val c.args.c.now) (c.is_zero.ensures.0 c.if-is_zero.true)
