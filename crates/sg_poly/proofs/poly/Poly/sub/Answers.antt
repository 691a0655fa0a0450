use Rattle.std.proofs.Common.{◌∙◌, arith}
use Rattle.sg_algebra.proofs.Rows.{builds_push, difference_built}
use Rattle.sg_poly.proofs.poly.Poly.sub.Goals as goal

pub loop-i-preserved : goal.loop-i-preserved
loop-i-preserved g c = builds_push g.F.Field.val _ _ _ _ _ c.loop-i.invariant c.in_ok-difference_at.ensures.value c.in_ok-push.ensures.ok

pub returns-clause-value : goal.returns-clause-value
returns-clause-value g c = rw (← (c.as_slice-p.ensures ∙ c.self.view_is), ← (c.as_slice-q.ensures ∙ c.other.view_is)) (c.trimmed.ensures.value ∙ difference_built g.F.Field.val c.as_slice-p.result.now c.as_slice-q.result.now c.loop-i.difference c.loop-i.i c.loop-i.invariant (omega arith))
