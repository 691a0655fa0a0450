use Rattle.std.proofs.Common.{◌≡◌, map, List, All, subst, arith}
use Rattle.std.proofs.lemmas.List.{take_all}
use Rattle.sg_ratfun.specs.Fractions.{ratio}
use Rattle.sg_relations.specs.Parts.{lead, IsLead}
use Rattle.sg_relations.proofs.Grown.{leads_more}
use Rattle.sg_relations.proofs.Meetings.{unmet_more}
use Rattle.sg_relations.proofs.monic.leads_of.Goals as goal

pub loop-i-preserved : goal.loop-i-preserved
loop-i-preserved g c = record {
  value = leads_more g.F.Field.val c.loop-i.leads c.in_ok-lead.lead c.push.new.self c.args.list.now c.loop-i.i c.get.result.now (omega arith) c.loop-i.invariant.value c.get.ensures c.in_ok-lead.ensures.value c.in_ok-push.ensures.ok;
  leads = unmet_more (λ (r : List g.row.F.Denot × List g.row.F.Denot). IsLead (lead g.F.Field.val r) (ratio g.F.Field.val r)) c.args.list.now c.loop-i.i c.get.result.now (omega arith) c.loop-i.invariant.leads
      (subst (λ (r : List g.row.F.Denot × List g.row.F.Denot). IsLead (lead g.F.Field.val r) (ratio g.F.Field.val r)) c.get.ensures c.in_ok-lead.ensures.lead);
}

pub returns-clause-value : goal.returns-clause-value
returns-clause-value g c = subst (λ (rs : List (List g.row.F.Denot × List g.row.F.Denot)). map g.F.Field.val c.loop-i.leads ≡ map (lead g.F.Field.val) rs) (take_all c.loop-i.i c.args.list.now (omega arith)) c.loop-i.invariant.value

pub returns-clause-leads : goal.returns-clause-leads
returns-clause-leads g c = subst (λ (rs : List (List g.row.F.Denot × List g.row.F.Denot)). All (λ r. IsLead (lead g.F.Field.val r) (ratio g.F.Field.val r)) rs) (take_all c.loop-i.i c.args.list.now (omega arith)) c.loop-i.invariant.leads
