use Rattle.std.proofs.Common.{◌≡◌, ◌+◌, ap, ℕ, true, false, to_z, of_z, arith}
use Rattle.std.specs.Int.{w64}
use Rattle.std.proofs.lemmas.Result.{err_from_is_err_and}
use Rattle.std.proofs.lemmas.Int.{to_z-of_z}
use Rattle.sg_spec.specs.Printing.{InForm}
use Rattle.sg_expr.specs.Tree.{tree_of}
use Rattle.sg_limits.specs.declared.walk.Place.{Place}
use Rattle.sg_limits.proofs.Seeking.{walkable, each_at, small_at, walked_near, walked_found, walked_fault, all_parts}
use Rattle.sg_limits.proofs.seek.walk_all.Goals as goal

pub walk-requires-clause-walkable : goal.walk-requires-clause-walkable
walk-requires-clause-walkable c = walkable (tree_of c.e-item.result) (each_at (InForm true false) c.args.items.now c.loop-e.e-index c.e-item.result c.loop-e-test.true c.e-item.is c.requires.form)

pub walk-requires-clause-depth : goal.walk-requires-clause-depth
walk-requires-clause-depth c = omega (arith, small_at c.args.items.now c.loop-e.e-index c.e-item.result c.loop-e-test.true c.e-item.is c.requires.small)

pub returns-in_err-found : goal.returns-in_err-found
returns-in_err-found c =
    let a = to_z w64 (of_z w64 c.args.lower) in
    let lower : to_z w64 (of_z w64 c.args.lower) ≡ c.args.lower = to_z-of_z w64 c.args.lower c.ranges.lower in
    let place : Place = record { item = c.loop-e.item; limit = a; depth = 0 } in
    let f = c.in_err-found.field-0.0 in
    let fault = walked_fault a c.args.items.now c.loop-e.e-index c.e-item.result place c.loop-e-test.true c.e-item.is (ap (λ (n : ℕ). record { item = n; limit = a; depth = 0 }) c.loop-e.invariant.count) f c.loop-e.invariant.near c.in_err-found.ensures.fault in
    let p = err_from_is_err_and c.from_residual.result c.from_residual.ensures.1 in
    rw (p.1, p.2) (record { near = tt; found = tt; fault = rw lower at fault })

pub loop-e-preserved : goal.loop-e-preserved
loop-e-preserved c =
    let a = to_z w64 (of_z w64 c.args.lower) in
    let place : Place = record { item = c.loop-e.item; limit = a; depth = 0 } in
    let at : place ≡ record { item = 1 + c.loop-e.e-index; limit = a; depth = 0 } = ap (λ (n : ℕ). record { item = n; limit = a; depth = 0 }) c.loop-e.invariant.count in
    record {
      count = omega arith;
      near = walked_near a c.args.items.now c.loop-e.e-index c.e-item.result place c.loop-e-test.true c.e-item.is at (c.loop-e.e-index + 1) (omega arith) c.loop-e.invariant.near c.in_ok-found.ensures.near;
      found = walked_found a c.args.items.now c.loop-e.e-index c.e-item.result place c.loop-e-test.true c.e-item.is at (c.loop-e.e-index + 1) c.loop-e.found c.in_ok-found.found (omega arith) c.loop-e.invariant.found c.in_ok-found.ensures.found_are;
    }

pub returns : goal.returns
returns c =
    let a = to_z w64 (of_z w64 c.args.lower) in
    let lower : to_z w64 (of_z w64 c.args.lower) ≡ c.args.lower = to_z-of_z w64 c.args.lower c.ranges.lower in
    let all = all_parts a c.args.items.now c.loop-e.e-index c.loop-e-test.false in
    let near = rw all at c.loop-e.invariant.near in
    let found = rw all at c.loop-e.invariant.found in
    record { near = rw lower at near; found = rw lower at found; fault = tt }
