use Rattle.std.proofs.Common.{◌∙◌, sym, ap, arith}
use Rattle.sg_algebra.proofs.Value.{◌*ᵛ◌}
use Rattle.sg_algebra.proofs.Rows.{builds_push, scaled_built, at_read}
use Rattle.sg_poly.proofs.poly.Poly.scale.Goals as goal

pub loop-i-preserved : goal.loop-i-preserved
loop-i-preserved g c = builds_push g.F.Field.val _ _ _ _ _ c.loop-i.invariant
    (c.in_ok-mul.ensures.value ∙ ap (◌*ᵛ◌ (g.F.Field.val c.args.c.now)) (sym (at_read g.F.Field.val c.as_slice-p.result.now c.loop-i.i c.index-p-i.result (omega arith) c.index-p-i.is))) c.in_ok-push.ensures.ok

pub returns-clause-value : goal.returns-clause-value
returns-clause-value g c = rw (← (c.as_slice-p.ensures ∙ c.self.view_is)) (c.trimmed.ensures.value ∙ scaled_built g.F.Field.val (g.F.Field.val c.args.c.now) c.as_slice-p.result.now c.loop-i.scaled c.loop-i.i c.loop-i.invariant (omega arith))
