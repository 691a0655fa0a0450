use Rattle.std.proofs.Common.{List, ℤ, map, subst, sym}
use Rattle.sg_ratfun.specs.Fractions.{ratio}
use Rattle.sg_relations.specs.Relating.{AreLeadRows}
use Rattle.sg_relations.proofs.FactorRows.{parts_of}
use Rattle.sg_relations.proofs.LeadRows.{lead_rows}
use Rattle.sg_relations.proofs.related.rows_of.Goals as goal

pub returns-clause-value : goal.returns-clause-value
returns-clause-value g c = subst (λ (rows : List (List ℤ)). AreLeadRows (map (ratio g.F.Field.val) c.args.all.now) (map g.F.Field.val c.args.leads.now) rows) (sym c.in_ok-rows.ensures.value)
    (lead_rows g.F.Field.val c.in_ok-basis.basis c.in_ok-factors.factors c.in_ok-basis.ensures.proper c.in_ok-basis.ensures.pairwise c.in_ok-basis.ensures.kept c.args.all.now c.args.leads.now
    (parts_of g.F.Field.val c.args.all.now c.args.leads.now c.in_ok-factors.factors c.requires.leads c.requires.some c.in_ok-factors.ensures.value) c.in_ok-constants.constants c.in_ok-constants.ensures.value)
