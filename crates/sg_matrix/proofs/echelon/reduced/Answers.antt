use Rattle.std.proofs.Common.{◌∙◌, sym, arith}
use Rattle.sg_algebra.proofs.Tables.{row_read}
use Rattle.sg_matrix.proofs.Adding.{rest_start, rest_more}
use Rattle.sg_matrix.proofs.echelon.reduced.Goals as goal

pub loop-i-init : goal.loop-i-init
loop-i-init g c = rest_start g.F.Field.val c.args.rows.now c.args.given

pub less_lead-requires : goal.less_lead-requires
less_lead-requires g c = rw (c.as_slice.ensures, ← (row_read c.args.rows.now c.loop-i.i c.get.result.now (omega arith) c.get.ensures)) (c.requires.sized c.loop-i.i (omega arith) ∙ sym c.loop-i.invariant.size)

pub loop-i-preserved : goal.loop-i-preserved
loop-i-preserved g c = rest_more g.F.Field.val c.args.rows.now c.requires.echelon c.loop-i.i c.as_slice.result.now c.args.given c.loop-i.rest c.in_ok-rest.rest (omega arith)
    (row_read c.args.rows.now c.loop-i.i c.get.result.now (omega arith) c.get.ensures ∙ sym c.as_slice.ensures) c.in_ok-rest.ensures.size c.in_ok-rest.ensures.value c.loop-i.invariant
