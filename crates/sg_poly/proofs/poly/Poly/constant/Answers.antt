use Rattle.std.proofs.Common.{◌∙◌}
use Rattle.sg_poly.proofs.SimpleRows.{constant_row}
use Rattle.sg_poly.proofs.poly.Poly.constant.Goals as goal

pub returns-clause-value : goal.returns-clause-value
returns-clause-value g c = c.trimmed.ensures.value ∙ constant_row g.F.Field.val c.new-row.result c.push.new.self c.args.c c.new-row.ensures c.in_ok-push.ensures.ok
