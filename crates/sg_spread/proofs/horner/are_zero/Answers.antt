use Rattle.std.proofs.Common.{◌∙◌, arith}
use Rattle.sg_algebra.proofs.Rows.{at_read}
use Rattle.sg_num.specs.Value.{number}
use Rattle.sg_spread.proofs.Combined.{row_zero, with_next}
use Rattle.sg_spread.proofs.horner.are_zero.Goals as goal

pub loop-i-preserved : goal.loop-i-preserved
loop-i-preserved c =
    with_next c.args.row.now c.loop-i.i (at_read number c.args.row.now c.loop-i.i c.index-row-i.result c.loop-i-test.true c.index-row-i.is ∙ c.is_zero.ensures.as_number.0 c.if-not-is_zero.false)
    c.loop-i.invariant

pub returns : goal.returns
returns c = λ h. row_zero c.args.row.now (λ p l. c.loop-i.invariant p (omega (arith, l, c.loop-i-test.false)))
