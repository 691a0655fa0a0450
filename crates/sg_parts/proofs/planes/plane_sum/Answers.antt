use Rattle.std.proofs.Common.{rules, ◌≡◌, ℕ, ◌+◌, ◌∙◌, ap, ap₂, max, length, List, ℤ, ◌+ℤ◌, ◌*ℤ◌, to_z, of_z, arith}
use Rattle.std.specs.Int.{w128}
use Rattle.std.proofs.lemmas.Int.{to_z-of_z}
use Rattle.sg_parts.specs.Planes.{entry, coefficient}
use Rattle.sg_parts.proofs.Planar.{more_rows, height-pushed, all_rows, sum_past, light_rows}
use Rattle.sg_parts.proofs.planes.plane_sum.Goals as goal

pub sum_row-requires : goal.sum_row-requires
sum_row-requires c =
    let times : to_z w128 (of_z w128 c.args.c) ≡ c.args.c = to_z-of_z w128 c.args.c c.ranges.c in
    record { light = rw (c.row_at.ensures, c.row_at-in-loop-place.ensures, times) (light_rows c.args.p.now c.args.q.now c.loop-place.place c.args.c c.requires.light) }

pub loop-place-preserved : goal.loop-place-preserved
loop-place-preserved c =
    let times = to_z w128 (of_z w128 c.args.c) in
    let p = c.args.p.now in
    let q = c.args.q.now in
    let value : ℕ → ℕ → ℤ = λ i j. coefficient p i j +ℤ times *ℤ coefficient q i j in
    record {
      size = height-pushed c.loop-place.rows c.push.new.self c.in_ok-row.row c.loop-place.place (c.loop-place.place + 1) c.loop-place.invariant.size c.in_ok-push.ensures.ok (omega arith);
      sum = more_rows value c.loop-place.rows c.push.new.self c.in_ok-row.row c.loop-place.place (c.loop-place.place + 1) c.loop-place.invariant.size c.in_ok-push.ensures.ok (omega arith) c.loop-place.invariant.sum
          (λ j. c.in_ok-row.ensures j ∙ ap₂ (λ (a b : List ℤ). entry a j +ℤ times *ℤ entry b j) c.row_at.ensures c.row_at-in-loop-place.ensures);
    }

pub returns : goal.returns
returns c =
    let times = to_z w128 (of_z w128 c.args.c) in
    let p = c.args.p.now in
    let q = c.args.q.now in
    let value : ℕ → ℕ → ℤ = λ i j. coefficient p i j +ℤ times *ℤ coefficient q i j in
    λ i j. all_rows value c.loop-place.rows c.loop-place.place (max (length p) (length q)) c.loop-place.invariant.size (search rules) c.loop-place.invariant.sum (λ i j h. sum_past p q times i j h) i j
    ∙ ap (λ t. coefficient p i j +ℤ t *ℤ coefficient q i j) (to_z-of_z w128 c.args.c c.ranges.c)
