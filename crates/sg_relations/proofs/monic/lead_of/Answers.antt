use Rattle.std.proofs.Common.{map, ◌∙◌, arith}
use Rattle.sg_relations.proofs.Grown.{lead_item, ratio_upper, list_long}
use Rattle.sg_relations.proofs.Leads.{lead_found}
use Rattle.sg_relations.proofs.monic.lead_of.Goals as goal

pub overflow_sub-list : goal.overflow_sub-list
overflow_sub-list g c = let long = list_long g.F.Field.val c.in_ok-num.num c.args.r.now c.coeffs-list.result.now c.coeffs-list.ensures.value c.in_ok-num.ensures.value (ratio_upper (map g.F.Field.val c.args.r.now.0) (map g.F.Field.val c.args.r.now.1) c.in_ok-num.ensures.reduced.monic c.requires) in omega arith

pub bounds-list-list : goal.bounds-list-list
bounds-list-list g c = let long = list_long g.F.Field.val c.in_ok-num.num c.args.r.now c.coeffs-list.result.now c.coeffs-list.ensures.value c.in_ok-num.ensures.value (ratio_upper (map g.F.Field.val c.args.r.now.0) (map g.F.Field.val c.args.r.now.1) c.in_ok-num.ensures.reduced.monic c.requires) in omega arith

pub returns-clause-value : goal.returns-clause-value
returns-clause-value g c = c.in_ok-last.ensures.value ∙ lead_item g.F.Field.val c.in_ok-num.num c.args.r.now c.coeffs-list.result.now c.index-list-list.result c.coeffs-list.ensures.value c.coeffs-list.ensures.ends c.in_ok-num.ensures.value
    (ratio_upper (map g.F.Field.val c.args.r.now.0) (map g.F.Field.val c.args.r.now.1) c.in_ok-num.ensures.reduced.monic c.requires) c.index-list-list.is

pub returns-clause-lead : goal.returns-clause-lead
returns-clause-lead g c = lead_found g.F.Field.val c.in_ok-num.num c.args.r.now c.in_ok-num.ensures.reduced.monic c.requires c.coeffs-list.ensures.ends c.in_ok-num.ensures.value
