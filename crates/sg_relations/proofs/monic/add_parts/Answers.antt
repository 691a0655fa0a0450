use Rattle.std.proofs.Common.{map, sym, ◌∙◌}
use Rattle.sg_relations.proofs.Grown.{grown_parts, ratio_upper}
use Rattle.sg_relations.proofs.monic.add_parts.Goals as goal

pub monic-requires : goal.monic-requires
monic-requires g c = λ z. ratio_upper (map g.F.Field.val c.args.r.now.0) (map g.F.Field.val c.args.r.now.1) c.in_ok-num.ensures.reduced.monic c.requires.some (sym c.in_ok-num.ensures.value ∙ z)

pub returns-clause-value : goal.returns-clause-value
returns-clause-value g c = grown_parts g.F.Field.val c.args.count c.args.place c.args.r.now c.in_ok-num.num c.in_ok-upper.upper c.in_ok-lower.lower c.args.factors.now c.add_power.new.factors c.add_power-2.new.factors
    c.in_ok-num.ensures.reduced.monic c.requires.some c.coeffs-ends.ensures.ends c.in_ok-num.ensures.value c.in_ok-upper.ensures.value c.in_ok-lower.ensures.value c.in_ok-add_power.ensures.value c.in_ok-add_power-2.ensures.value
