use Rattle.std.proofs.Common.{map, sym, ◌∙◌}
use Rattle.sg_poly.proofs.Dividers.{monic_some}
use Rattle.sg_relations.proofs.Grown.{ratio_upper}
use Rattle.sg_relations.proofs.Solved.{over_value_is, over_monic}
use Rattle.sg_relations.proofs.ratio.over_lead.Goals as goal

pub monic-requires : goal.monic-requires
monic-requires g c = λ z. ratio_upper (map g.F.Field.val c.args.r.now.0) (map g.F.Field.val c.args.r.now.1) c.in_ok-num.ensures.reduced.monic c.requires (sym c.in_ok-num.ensures.value ∙ z)

pub new-requires : goal.new-requires
new-requires g c = monic_some (map g.F.Field.val c.in_ok-lower.lower) c.in_ok-lower.ensures.monic

pub returns-clause-value : goal.returns-clause-value
returns-clause-value g c = over_value_is g.F.Field.val c.args.r.now c.in_ok-num.num c.in_ok-upper.upper c.in_ok-lower.lower _ c.in_ok-num.ensures.reduced.monic c.requires c.coeffs-ends.ensures.ends c.in_ok-num.ensures.value
    c.in_ok-upper.ensures.value c.in_ok-lower.ensures.monic c.in_ok-lower.ensures.value c.in_ok-q.ensures.value

pub returns-clause-monic : goal.returns-clause-monic
returns-clause-monic g c = over_monic g.F.Field.val c.in_ok-upper.upper c.in_ok-lower.lower c.in_ok-q.q c.in_ok-upper.ensures.monic c.in_ok-lower.ensures.monic c.in_ok-q.ensures.reduced.monic c.in_ok-q.ensures.value
