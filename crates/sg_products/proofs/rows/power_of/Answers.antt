use Rattle.std.proofs.Common.{refl, length, ap, ◌∙◌}
use Rattle.sg_ratfun.specs.Fractions.{ratio}
use Rattle.sg_products.proofs.Slicing.{power_call}
use Rattle.sg_products.proofs.rows.power_of.Goals as goal

pub with_term-requires : goal.with_term-requires
with_term-requires g c = ap length c.in_ok-exps.ensures.ok ∙ c.requires

pub returns-clause-value : goal.returns-clause-value
returns-clause-value g c = power_call g.F.Field.val c.args.alphas.now (length c.args.alphas.now) c.args.e.now (ratio g.F.Field.val c.args.c.now) (record { exps = c.in_ok-exps.exps; coeff = c.in_ok-coeff.coeff }) c.zero-none.result c.in_ok-r.r
    refl c.requires c.in_ok-exps.ensures.ok c.in_ok-coeff.ensures.value c.zero-none.ensures c.in_ok-r.ensures.value
