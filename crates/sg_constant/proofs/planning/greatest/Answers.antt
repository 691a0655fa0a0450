use Rattle.std.proofs.Common.{◌≡◌, ◌-◌, ◌<ℤ◌, ◌≤ℤ◌, ℤ, pos, suc, length, sym, subst, arith, rules, FitsSigned}
use Rattle.std.specs.Int.{w128}
use Rattle.std.proofs.lemmas.Int.{to_z-of_z, ints}
use Rattle.sg_constant.specs.Shares.{IsGreatest}
use Rattle.sg_constant.proofs.Plans.{is_greatest, none_greatest}
use Rattle.sg_constant.proofs.planning.greatest.Goals as goal

pub returns-then-m-gt0-clause-some : goal.returns-then-m-gt0-clause-some
returns-then-m-gt0-clause-some c =
    let m : ℤ = c.get-m.result.now in
    let fits : FitsSigned w128 c.get-m.result.now = search rules in
    let size : length c.args.shifts.now ≡ suc (c.len-n.result - 1) = omega arith in
    let positive : pos 0 <ℤ c.get-m.result.now = omega (arith, ints) in
    subst (λ (n : ℤ). IsGreatest c.args.shifts.now n) (sym (to_z-of_z w128 c.get-m.result.now fits)) (is_greatest c.args.shifts.now (c.len-n.result - 1) c.get-m.result.now c.requires size c.get-m.ensures positive)

pub returns-else-m-gt0-clause-none : goal.returns-else-m-gt0-clause-none
returns-else-m-gt0-clause-none c =
    let fits : FitsSigned w128 c.get-m.result.now = search rules in
    let size : length c.args.shifts.now ≡ suc (c.len-n.result - 1) = omega arith in
    let low : c.get-m.result.now ≤ℤ pos 0 = omega (arith, ints) in
    none_greatest c.args.shifts.now (c.len-n.result - 1) c.get-m.result.now c.requires size c.get-m.ensures low
