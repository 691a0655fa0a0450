use Rattle.std.proofs.Common.{◌∙◌, ap, rules, FitsSigned, List, [], ◌∷◌, ◌++◌}
use Rattle.std.specs.Int.{w128}
use Rattle.std.proofs.lemmas.Int.{to_z-of_z}
use Rattle.sg_rational.proofs.Degrees.{first_value, one_value_each, is_least}
use Rattle.sg_rational.proofs.degree.ceiling.Goals as goal

pub get-value-requires : goal.get-value-requires
get-value-requires g c = one_value_each g.F.Field.val c.in_ok-probe.probe.args c.push.new.self c.in_ok-probe.probe.values c.in_ok-copy.field-0
    (c.in_ok-push.ensures.ok ∙ ap (λ (l : List g.row.F.Denot). l ++ c.in_ok-copy.field-0 ∷ []) c.new-list.ensures) c.in_ok-probe.ensures.value.each

pub returns-clause-value : goal.returns-clause-value
returns-clause-value g c n e =
    let fits : FitsSigned w128 c.ceil.result = search rules in
    let list = c.in_ok-push.ensures.ok ∙ ap (λ (l : List g.row.F.Denot). l ++ c.in_ok-copy.field-0 ∷ []) c.new-list.ensures in
    to_z-of_z w128 c.ceil.result fits ∙ is_least g.F.Field.val c.in_ok-probe.probe.args c.in_ok-copy.field-0 c.get-value.result.now c.ceil.result
    (first_value g.F.Field.val c.in_ok-probe.probe.args c.push.new.self c.in_ok-probe.probe.values c.in_ok-copy.field-0 c.get-value.result.now list c.in_ok-probe.ensures.value.each c.get-value.ensures)
    c.ceil.ensures.low c.ceil.ensures.least n (c.in_ok-copy.ensures.value ∙ e)
