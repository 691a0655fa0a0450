use Rattle.std.proofs.Common.{◌≡◌, map, take, All}
use Rattle.sg_ratfun.specs.Fractions.{ratio}
use Rattle.sg_relations.specs.Parts.{lead, IsLead}
use Rattle.sg_relations.proofs.monic.leads_of.Given as goal

abbrev pub invariant-loop-i : goal.invariant-loop-i
invariant-loop-i g l = record {
  value : map g.F.Field.val l.leads ≡ map (lead g.F.Field.val) (take l.i l.list);
  leads : All (λ r. IsLead (lead g.F.Field.val r) (ratio g.F.Field.val r)) (take l.i l.list);
}
