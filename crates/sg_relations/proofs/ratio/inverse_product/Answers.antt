use Rattle.std.proofs.Common.{◌∙◌, sym, subst, map, suc, pos}
use Rattle.sg_algebra.proofs.Divides.{identity}
use Rattle.sg_algebra.proofs.Value.{Value}
use Rattle.sg_algebra.proofs.ValueField.{ValueR, ValueF}
use Rattle.sg_ratfun.specs.Fractions.{ratio}
use Rattle.sg_tower_theory.specs.Powers.{powers}
use Rattle.sg_relations_theory.proofs.Similar.{Similar}
use Rattle.sg_relations.specs.Factors.{product_at}
use Rattle.sg_relations.specs.Combined.{combined_value}
use Rattle.sg_relations.proofs.Combined.{up_some, products_are, inverse_is}
use Rattle.sg_relations.proofs.ratio.inverse_product.Goals as goal

pub new-requires : goal.new-requires
new-requires g c = λ z. up_some g.F.Field.val (pos 1) c.in_ok-basis.basis c.in_ok-basis.ensures.proper (sym c.in_ok-den.ensures.value ∙ z)

pub returns-clause-value : goal.returns-clause-value
returns-clause-value g c = inverse_is g.F.Field.val c.in_ok-basis.basis c.in_ok-num.num c.in_ok-den.den (ratio g.F.Field.val c.in_ok-q.q) (powers (ValueF (suc g.F.Field.vars)) (map (ratio g.F.Field.val) c.args.all.now) c.args.exps.now)
    (combined_value g.F.Field.val c.in_ok-factors.factors c.args.exps.now) c.in_ok-basis.ensures.proper c.in_ok-num.ensures.value c.in_ok-den.ensures.value c.in_ok-q.ensures.value
    (products_are g.F.Field.val c.args.all.now c.in_ok-factors.factors c.args.exps.now c.requires.sized c.requires.some c.in_ok-factors.ensures.value c.requires.one)
    (subst (λ (y : Value (suc g.F.Field.vars)). Similar (ValueF (suc g.F.Field.vars)) (identity (ValueR (suc g.F.Field.vars))) y (product_at g.F.Field.val c.in_ok-basis.basis 0)) c.in_ok-row.ensures.value.value (c.in_ok-basis.ensures.kept 0))
