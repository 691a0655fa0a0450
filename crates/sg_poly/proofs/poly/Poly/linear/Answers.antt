use Rattle.std.proofs.Common.{◌∙◌, sym, ap}
use Rattle.sg_algebra.proofs.Value.{neg_value, ◌-ᵛ◌}
use Rattle.sg_poly.proofs.SimpleRows.{linear_row, linear_some}
use Rattle.sg_poly.proofs.poly.Poly.linear.Goals as goal

pub returns-clause-value : goal.returns-clause-value
returns-clause-value g c = c.trimmed.ensures.value ∙ linear_row g.F.Field.val c.new-row.result c.push.new.self c.push-2.new.self c.in_ok-opposite.opposite c.in_ok-one.one (g.F.Field.val c.args.root.now)
    c.new-row.ensures c.in_ok-push.ensures.ok c.in_ok-push-2.ensures.ok (c.in_ok-opposite.ensures.value ∙ ap (λ x. x -ᵛ g.F.Field.val c.args.root.now) c.in_ok-zero.ensures.value) c.in_ok-one.ensures.value

pub returns-clause-some : goal.returns-clause-some
returns-clause-some g c e = linear_some (neg_value (g.F.Field.val c.args.root.now)) (sym (returns-clause-value g c) ∙ e)
