use Rattle.std.proofs.Common.{◌-◌, sym, subst, get_or, drop, ℤ, pos, rules, arith, FitsSigned}
use Rattle.std.specs.Int.{w128}
use Rattle.std.proofs.lemmas.Int.{to_z-of_z}
use Rattle.sg_num.specs.Roots.{whole_at}
use Rattle.sg_roots.specs.Signs.{StandsFor}
use Rattle.sg_roots.proofs.Values.{value_next}
use Rattle.sg_roots.proofs.signs.far_sign.Goals as goal

pub loop-i-preserved : goal.loop-i-preserved
loop-i-preserved c =
    let item : FitsSigned w128 (get_or c.args.list.now (c.loop-i.i - 1) (pos 0)) = search rules in
    let fx : FitsSigned w128 c.args.x = search rules in
    let fr : FitsSigned w128 c.lowered-sign.result = search rules in
    let v = whole_at (drop c.loop-i.i c.args.list.now) c.args.x in
    let before = simp to_z-of_z at c.loop-i.invariant.stands in
    let step = simp to_z-of_z at (c.lowered-sign.ensures v) in
    let e = value_next c.args.list.now (c.loop-i.i - 1) c.loop-i.i c.args.x (omega arith) (omega arith) in
    let next : StandsFor c.lowered-sign.result (whole_at (drop (c.loop-i.i - 1) c.args.list.now) c.args.x) = subst (λ (y : ℤ). StandsFor c.lowered-sign.result y) (sym e) (step before) in
    record {
      within = omega arith;
      stands = simp to_z-of_z next;
    }
