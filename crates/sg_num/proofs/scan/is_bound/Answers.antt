use Rattle.std.proofs.Common.{◌-◌, ◌*◌, ◌≤◌, subst, get_or, ℤ, pos, unsigned_abs, rules, arith, FitsSigned}
use Rattle.std.specs.Int.{w128}
use Rattle.std.proofs.lemmas.Int.{to_z-of_z}
use Rattle.sg_num.proofs.WholeValues.{lower}
use Rattle.sg_num.proofs.scan.is_bound.Goals as goal

pub loop-i-preserved : goal.loop-i-preserved
loop-i-preserved c =
    let x = get_or c.args.list.now (c.loop-i.i - 1) (pos 0) in
    let fits : FitsSigned w128 (get_or c.args.list.now (c.loop-i.i - 1) (pos 0)) = search rules in
    let low = subst (λ (x : ℤ). c.lowered-size.result ≤ c.loop-i.size * c.args.b - unsigned_abs x) (to_z-of_z w128 x fits) c.lowered-size.ensures in
    record {
      within = omega arith;
      away = λ m big. lower c.args.list.now (c.loop-i.i - 1) c.loop-i.i m c.loop-i.size c.args.b c.lowered-size.result (omega arith) (omega arith) big (c.loop-i.invariant.away m big) low;
    }
