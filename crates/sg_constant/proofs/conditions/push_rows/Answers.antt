use Rattle.std.proofs.Common.{◌≤◌, refl, map, length, ap, arith, ◌∙◌}
use Rattle.sg_first_order_theory.proofs.System.{row_of}
use Rattle.sg_constant.proofs.Conditioned.{conditioning_none, conditioning_more, conditioning_all}
use Rattle.sg_constant.proofs.conditions.push_rows.Goals as goal

pub loop-t-init : goal.loop-t-init
loop-t-init g c = conditioning_none g.F.Field.val c.args.s.now c.args.rows.now c.args.rows.now refl

pub loop-t-preserved : goal.loop-t-preserved
loop-t-preserved g c =
    let v = g.F.Field.val in
    conditioning_more v c.args.s.now c.args.rows.now c.loop-t.rows c.push.new.self c.in_ok-row.field-0 c.loop-t.t c.loop-t.invariant
    (c.in_ok-row.ensures.value ∙ ap (λ l. row_of (map (map v) l) c.loop-t.t) c.as_slice.ensures) c.in_ok-push.ensures.ok

pub returns-clause-value : goal.returns-clause-value
returns-clause-value g c =
    let size : length c.args.s.now.lower ≤ c.loop-t.t = omega (arith, ap length c.coeffs-n.ensures.value) in
    conditioning_all g.F.Field.val c.args.s.now c.args.rows.now c.loop-t.rows c.loop-t.t c.requires size c.loop-t.invariant
