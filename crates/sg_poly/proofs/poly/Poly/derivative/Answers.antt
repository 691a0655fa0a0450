use Rattle.std.proofs.Common.{◌≡◌, ◌∙◌, ◌+◌, sym, arith}
use Rattle.sg_algebra.proofs.Rows.{builds_push, at_read}
use Rattle.sg_poly.proofs.SimpleRows.{derivative_at, derivative_built}
use Rattle.sg_poly.proofs.poly.Poly.derivative.Goals as goal

pub loop-i-preserved : goal.loop-i-preserved
loop-i-preserved g c = builds_push g.F.Field.val _ _ _ _ _ c.loop-i.invariant
    (derivative_at g.F.Field.val c.coeffs-p.result.now c.loop-i.i (c.loop-i.i + 1) _ _ (omega arith) (sym (at_read g.F.Field.val c.coeffs-p.result.now (c.loop-i.i + 1) c.index-p-i.result (omega arith) c.index-p-i.is)) c.in_ok-times_whole.ensures.value)
    c.in_ok-push.ensures.ok

pub returns-clause-value : goal.returns-clause-value
returns-clause-value g c = rw (← c.coeffs-p.ensures.value) (c.trimmed.ensures.value ∙ derivative_built g.F.Field.val c.coeffs-p.result.now c.loop-i.row c.loop-i.i c.loop-i.invariant (omega arith))
