use Rattle.std.proofs.Common.{◌≡◌, ◌++◌, ◌∷◌, [], ℤ, pos, sym, subst, get_or, ◌<ℤ◌, arith, rules, FitsSigned}
use Rattle.std.specs.Int.{w128}
use Rattle.std.proofs.lemmas.Int.{to_z-of_z}
use Rattle.std.proofs.lemmas.List.{get_or_default}
use Rattle.sg_spread.proofs.Lists.{Picked, Grown, picked_next, picked_end, pushed_low, grow_first, grown_next, grown_end, inserted_items}
use Rattle.sg_spread.proofs.meetings.inserted.Goals as goal

pub loop-i-preserved : goal.loop-i-preserved
loop-i-preserved c =
    let fits_m : FitsSigned w128 c.args.m = search rules in
    let v : ℤ = get_or c.args.list.now c.loop-i.i (pos 0) in
    let fits : FitsSigned w128 (get_or c.args.list.now c.loop-i.i (pos 0)) = search rules in
    let step = simp to_z-of_z at c.in_ok-keep_below.ensures in
    let old = simp to_z-of_z at c.loop-i.invariant in
    rw (to_z-of_z w128 c.args.m fits_m)
    (picked_next c.args.list.now c.loop-i.i v c.requires c.loop-i-test.true (get_or_default c.args.list.now c.loop-i.i v (pos 0) c.loop-i-test.true) (λ x. x <ℤ c.args.m) c.loop-i.row c.keep_below.new.row old step)

pub loop-i-2-init : goal.loop-i-2-init
loop-i-2-init c =
    let fits_m : FitsSigned w128 c.args.m = search rules in
    rw (to_z-of_z w128 c.args.m fits_m) (
    let old : Picked (λ x. x <ℤ c.args.m) c.args.list.now c.loop-i.row = picked_end (λ x. x <ℤ c.args.m) c.args.list.now c.loop-i.row c.loop-i.i (omega arith) (simp to_z-of_z at c.loop-i.invariant) in
    let pushed : c.push.new.self ≡ c.loop-i.row ++ c.args.m ∷ [] = simp to_z-of_z at c.in_ok-push.ensures.ok in
    record {
      low = c.loop-i.row;
      first = old;
      rest = subst (λ r. Grown (c.loop-i.row ++ c.args.m ∷ []) c.args.m [] r) (sym pushed) (grow_first c.args.list.now c.loop-i.row c.args.m old);
    })

pub loop-i-2-preserved : goal.loop-i-2-preserved
loop-i-2-preserved c =
    let fits_m : FitsSigned w128 c.args.m = search rules in
    let v : ℤ = get_or c.args.list.now c.loop-i-2.i (pos 0) in
    let fits : FitsSigned w128 (get_or c.args.list.now c.loop-i-2.i (pos 0)) = search rules in
    let step = simp to_z-of_z at c.in_ok-keep_above.ensures in
    let first : Picked (λ x. x <ℤ c.args.m) c.args.list.now c.loop-i-2.invariant.low = simp to_z-of_z at c.loop-i-2.invariant.first in
    let old = simp to_z-of_z at c.loop-i-2.invariant.rest in
    rw (to_z-of_z w128 c.args.m fits_m) (record {
      low = c.loop-i-2.invariant.low;
      first = first;
      rest = grown_next c.args.list.now c.loop-i-2.i v c.requires c.loop-i-2-test.true (get_or_default c.args.list.now c.loop-i-2.i v (pos 0) c.loop-i-2-test.true) (c.loop-i-2.invariant.low ++ c.args.m ∷ []) c.args.m c.loop-i-2.row c.keep_above.new.row
          (pushed_low c.args.list.now c.loop-i-2.invariant.low c.args.m first) old step;
    })

pub returns-clause-items : goal.returns-clause-items
returns-clause-items c =
    let fits_m : FitsSigned w128 c.args.m = search rules in
    let first : Picked (λ x. x <ℤ c.args.m) c.args.list.now c.loop-i-2.invariant.low = simp to_z-of_z at c.loop-i-2.invariant.first in
    let rest : Grown (c.loop-i-2.invariant.low ++ c.args.m ∷ []) c.args.m c.args.list.now c.loop-i-2.row = grown_end (c.loop-i-2.invariant.low ++ c.args.m ∷ []) c.args.m c.args.list.now c.loop-i-2.row c.loop-i-2.i (omega arith) (simp to_z-of_z at c.loop-i-2.invariant.rest) in
    inserted_items c.args.list.now c.loop-i-2.invariant.low c.args.m first c.loop-i-2.row rest
