use Rattle.std.proofs.Common.{◌∙◌, sym, ap, ap₂, arith}
use Rattle.sg_algebra.proofs.Value.{◌-ᵛ◌, ◌*ᵛ◌}
use Rattle.sg_algebra.proofs.Rows.{builds_push, at_read}
use Rattle.sg_poly.proofs.division.reduced.Goals as goal

pub loop-i-preserved : goal.loop-i-preserved
loop-i-preserved g c = builds_push g.F.Field.val _ _ _ _ _ c.loop-i.invariant
    (c.in_ok-c.ensures.value ∙ ap₂ (λ x y. x -ᵛ y) c.behind.ensures (c.in_ok-mul.ensures.value ∙ ap (◌*ᵛ◌ (g.F.Field.val c.args.t.now)) (sym (at_read g.F.Field.val c.args.w.now c.loop-i.i c.index-w-i.result (omega arith) c.index-w-i.is))))
    c.in_ok-push.ensures.ok
