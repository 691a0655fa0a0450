use Rattle.std.proofs.Common.{sym, ap, ◌∙◌}
use Rattle.sg_algebra.proofs.Value.{◌+ᵛ◌}
use Rattle.sg_algebra.proofs.ValueField.{value_add-zero}
use Rattle.sg_num.specs.Value.{number}
use Rattle.sg_spread.proofs.Rows.{unit_past}
use Rattle.sg_spread.proofs.horner.item_with.Goals as goal

pub returns-clause-value : goal.returns-clause-value
returns-clause-value c = sym (ap (λ z. number c.args.item +ᵛ z) (unit_past (number c.args.c) c.args.p c.if-p-eq0.false) ∙ value_add-zero 0 (number c.args.item))
