use Rattle.std.proofs.Common.{◌≡◌, ◌∙◌, ◌+◌, arith, length}
use Rattle.sg_algebra.proofs.Rows.{builds_push}
use Rattle.sg_poly.proofs.Shifting.{raised_built, last_target}
use Rattle.sg_poly.proofs.division.raised.Goals as goal

pub loop-i-preserved : goal.loop-i-preserved
loop-i-preserved g c = builds_push g.F.Field.val _ _ _ _ _ c.loop-i.invariant c.in_ok-raised_at.ensures.value c.in_ok-push.ensures.ok

pub returns-clause-value : goal.returns-clause-value
returns-clause-value g c =
    let v = g.F.Field.val in
    let same : c.loop-i.i ≡ length c.args.r.now = omega arith in
    raised_built v (v c.args.a.now) (v c.args.m.now) c.args.r.now c.push-2.new.self (c.loop-i.i + 1)
    (builds_push v _ _ _ _ _ c.loop-i.invariant (rw same (last_target v (v c.args.a.now) (v c.args.m.now) c.args.r.now (v c.in_ok-copy.field-0) (c.in_ok-copy.ensures.value ∙ c.behind.ensures))) c.in_ok-push-2.ensures.ok)
    (omega arith)
