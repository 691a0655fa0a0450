use Rattle.std.proofs.Common.{List, ℤ, map, subst, sym}
use Rattle.sg_num.specs.Value.{number}
use Rattle.sg_ratfun.specs.Fractions.{ratio}
use Rattle.sg_relations_theory.specs.Relations.{AreExponents}
use Rattle.sg_relations.proofs.FactorRows.{parts_of, constant_rows}
use Rattle.sg_relations.proofs.Leads.{leads_some}
use Rattle.sg_relations.proofs.consts.RatFunRatConsts.exponents.Goals as goal

pub exponents-requires : goal.exponents-requires
exponents-requires c = leads_some number c.args.list.now c.in_ok-leads.leads c.in_ok-leads.ensures.value c.in_ok-leads.ensures.leads c.requires

pub returns-clause-value : goal.returns-clause-value
returns-clause-value c = subst (λ (rows : List (List ℤ)). AreExponents (map (ratio number) c.args.list.now) rows) (sym c.in_ok-rows.ensures.value)
    (constant_rows number c.in_ok-basis.basis c.in_ok-factors.factors c.in_ok-basis.ensures.proper c.in_ok-basis.ensures.pairwise c.in_ok-basis.ensures.kept c.args.list.now c.in_ok-leads.leads
    (parts_of number c.args.list.now c.in_ok-leads.leads c.in_ok-factors.factors c.in_ok-leads.ensures.value c.requires c.in_ok-factors.ensures.value) c.in_ok-constants.constants c.in_ok-constants.ensures.value)
