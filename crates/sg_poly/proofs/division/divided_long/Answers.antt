use Rattle.std.proofs.Common.{◌≡◌, ◌∙◌, sym, ap, ap₂, arith, ◌-◌, length, map, take, drop, suc}
use Rattle.std.proofs.lemmas.List.{length-drop}
use Rattle.sg_algebra.proofs.Value.{◌/ᵛ◌}
use Rattle.sg_algebra.proofs.Lists.{length_map}
use Rattle.sg_algebra.proofs.Polynomial.{poly}
use Rattle.sg_algebra.proofs.Rows.{at_read, drop_step}
use Rattle.sg_num.proofs.Probed.{taken_whole}
use Rattle.sg_poly.proofs.Dividing.{dividing_start, dividing_more}
use Rattle.sg_poly.proofs.division.divided_long.Goals as goal

pub loop-i-init : goal.loop-i-init
loop-i-init g c =
    let v = g.F.Field.val in
    let from = length c.args.p.now - (length c.args.w.now - 1) in
    let whole : take (length c.args.p.now - from) (drop from c.args.p.now) ≡ drop from c.args.p.now = taken_whole (drop from c.args.p.now) (length c.args.p.now - from) (omega (arith, length-drop from c.args.p.now)) in
    let values : map v c.in_ok-rest.rest ≡ map v (drop from c.args.p.now) = c.in_ok-rest.ensures.values ∙ ap (map v) whole in
    let size : length c.in_ok-rest.rest ≡ length c.args.w.now - 1 = omega (arith, ap length values, length_map v c.in_ok-rest.rest, length_map v (drop from c.args.p.now), length-drop from c.args.p.now, c.requires.long) in
    record {
      within = omega arith;
      divided = dividing_start v (length c.args.w.now - 1) (map v c.args.w.now) (drop from c.args.p.now) c.new-quotient.result c.in_ok-rest.rest c.new-quotient.ensures size (ap poly values);
    }

pub div-requires : goal.div-requires
div-requires g c z = c.requires.ends (length c.args.w.now - 1) (omega (arith, length_map g.F.Field.val c.args.w.now, c.requires.some))
    (at_read g.F.Field.val c.args.w.now (length c.args.w.now - 1) c.index-w-degree.result (omega (arith, c.requires.some)) c.index-w-degree.is ∙ z)

pub loop-i-preserved : goal.loop-i-preserved
loop-i-preserved g c =
    let m = length c.args.w.now - 1 in
    let size : length (map g.F.Field.val c.args.w.now) ≡ suc m = omega (arith, length_map g.F.Field.val c.args.w.now, c.requires.some) in
    let top = at_read g.F.Field.val c.args.w.now m c.index-w-degree.result (omega (arith, c.requires.some)) c.index-w-degree.is in
    record {
      within = omega arith;
      divided = rw (drop_step g.F.Field.val c.args.p.now c.loop-i.i (c.loop-i.i - 1) c.index-p-i.result (omega arith) (omega arith) c.index-p-i.is)
          (dividing_more g.F.Field.val m (map g.F.Field.val c.args.w.now) (map g.F.Field.val (drop c.loop-i.i c.args.p.now)) c.loop-i.quotient c.push.new.self c.loop-i.rest c.in_ok-rest-2.rest c.index-p-i.result c.in_ok-t.t size
          (c.requires.ends m size) c.loop-i.invariant.divided
          (c.in_ok-t.ensures.value ∙ ap₂ (λ x y. x /ᵛ y) (rw c.as_slice.ensures at c.behind.ensures) (sym top))
          (record { size = rw (c.as_slice-in-loop-i.ensures, c.loop-i.invariant.divided.size) at c.in_ok-rest-2.ensures.size; built = rw (c.as_slice-in-loop-i.ensures, c.loop-i.invariant.divided.size) at c.in_ok-rest-2.ensures.value })
          c.in_ok-push.ensures.ok);
    }

pub returns-clause-value : goal.returns-clause-value
returns-clause-value g c = let z : c.loop-i.i ≡ 0 = omega arith in rw c.reverse.ensures (rw z at c.loop-i.invariant.divided.is)
