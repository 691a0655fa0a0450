use Rattle.std.proofs.Common.{pos, ◌∙◌, sym}
use Rattle.sg_algebra.proofs.Ring.{O_add}
use Rattle.sg_algebra.proofs.Value.{one_value}
use Rattle.sg_algebra.proofs.ValueField.{ValueR}
use Rattle.sg_num.proofs.Numbers.{number-whole}
use Rattle.sg_spread.proofs.Rows.{unit_past}
use Rattle.sg_spread.proofs.step.unit_item.Goals as goal

pub returns-then-p-eq0 : goal.returns-then-p-eq0
returns-then-p-eq0 c = rw c.if-p-eq0.true (number-whole c.whole.result (pos 1) c.whole.ensures.value ∙ O_add (ValueR 0))

pub returns : goal.returns
returns c = number-whole c.whole-2.result (pos 0) c.whole-2.ensures.value ∙ sym (unit_past one_value c.args.p c.if-p-eq0.false)
