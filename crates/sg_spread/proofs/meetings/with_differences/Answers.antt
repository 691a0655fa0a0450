use Rattle.std.proofs.Common.{◌≡◌, ℤ, pos, ◌-ℤ◌, get_or, ◌↔◌, ◌⊎◌, Contains, arith, rules, FitsSigned}
use Rattle.std.specs.Int.{w128}
use Rattle.std.proofs.lemmas.Int.{to_z-of_z}
use Rattle.std.proofs.lemmas.List.{get_or_default}
use Rattle.sg_spread.proofs.Lists.{differs_next, differs_end}
use Rattle.sg_spread.proofs.meetings.with_differences.Goals as goal

pub loop-i-preserved : goal.loop-i-preserved
loop-i-preserved c =
    let fits_r : FitsSigned w128 c.args.r = search rules in
    let fits_m : FitsSigned w128 c.in_ok-m.m = search rules in
    let v : ℤ = get_or c.args.s.now c.loop-i.i (pos 0) in
    let fits : FitsSigned w128 (get_or c.args.s.now c.loop-i.i (pos 0)) = search rules in
    let d : c.in_ok-m.m ≡ get_or c.args.s.now c.loop-i.i (pos 0) -ℤ c.args.r = simp to_z-of_z at c.in_ok-m.ensures.value in
    let old = simp to_z-of_z at c.loop-i.invariant.items in
    let new : (x : ℤ) → Contains c.in_ok-row.row x ↔ (Contains c.loop-i.row x ⊎ (x ≡ c.in_ok-m.m)) = simp to_z-of_z at (rw c.as_slice.ensures at c.in_ok-row.ensures.items) in
    rw (to_z-of_z w128 c.args.r fits_r) (record {
      ascending = c.in_ok-row.ensures.ascending;
      items = differs_next c.args.s.now c.loop-i.i v c.loop-i-test.true (get_or_default c.args.s.now c.loop-i.i v (pos 0) c.loop-i-test.true) c.args.list c.args.r c.loop-i.row c.in_ok-row.row c.in_ok-m.m d old new;
    })

pub returns-clause-items : goal.returns-clause-items
returns-clause-items c =
    let fits_r : FitsSigned w128 c.args.r = search rules in
    differs_end c.args.list c.args.r c.args.s.now c.loop-i.row c.loop-i.i (omega arith) (simp to_z-of_z at c.loop-i.invariant.items)
