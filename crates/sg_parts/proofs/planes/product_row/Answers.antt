use Rattle.std.proofs.Common.{◌≡◌, ◌+◌, ◌*◌, ◌∙◌, ap, sym, map, drop, get_or, [], List, ℤ, ◌+ℤ◌, arith}
use Rattle.sg_spec.specs.Parts.{plane_mul}
use Rattle.sg_parts.specs.Planes.{row_size, plane_size, entry, coefficient, moved_row, row_product}
use Rattle.sg_parts.proofs.Adding.{carry_on, carry_all}
use Rattle.sg_parts.proofs.Planar.{row_read, row_next, row_last, light_row, light_on}
use Rattle.sg_parts.proofs.planes.product_row.Goals as goal

pub add_row-requires-clause-room : goal.add_row-requires-clause-room
add_row-requires-clause-room c =
    let read : c.as_slice.result.now ≡ get_or c.args.p.now c.loop-i.i [] = c.as_slice.ensures ∙ row_read c.args.p.now c.loop-i.i c.index-p-i.result c.loop-i-test.true c.index-p-i.is in
    λ j. rw (read, c.loop-i.invariant.size) (c.requires.room c.loop-i.i j)

pub add_row-requires-clause-light : goal.add_row-requires-clause-light
add_row-requires-clause-light c =
    let read : c.as_slice.result.now ≡ get_or c.args.p.now c.loop-i.i [] = c.as_slice.ensures ∙ row_read c.args.p.now c.loop-i.i c.index-p-i.result c.loop-i-test.true c.index-p-i.is in
    rw read (light_row c.args.p.now c.args.q.now c.loop-i.i (row_size c.loop-i.row.items) (plane_size c.args.p.now * plane_size c.args.q.now) c.loop-i-test.true c.loop-i.invariant.light c.requires.light)

pub loop-i-preserved : goal.loop-i-preserved
loop-i-preserved c =
    let p = c.args.p.now in
    let q = c.args.q.now in
    let i = c.loop-i.i in
    let place = c.args.place in
    let read : c.as_slice.result.now ≡ get_or c.args.p.now c.loop-i.i [] = c.as_slice.ensures ∙ row_read c.args.p.now c.loop-i.i c.index-p-i.result c.loop-i-test.true c.index-p-i.is in
    let size : row_size c.as_slice.result.now * plane_size q ≡ row_size (get_or p i []) * plane_size q = ap (λ (r : List ℤ). row_size r * plane_size q) read in
    record {
      size = c.add_row.ensures.size ∙ c.loop-i.invariant.size;
      sum = λ j. carry_on (entry c.add_row.new.row.items j) (entry c.loop-i.row.items j) (entry (moved_row i (map (row_product c.as_slice.result.now) q) place) j) (entry (moved_row i (plane_mul (drop i p) q) place) j)
          (entry (moved_row (i + 1) (plane_mul (drop (i + 1) p) q) place) j) (coefficient (plane_mul p q) place j) (c.add_row.ensures.sum j)
          (row_next p q i (i + 1) place j c.loop-i-test.true (omega arith) ∙ ap (λ (r : List ℤ). entry (moved_row i (map (row_product r) q) place) j +ℤ entry (moved_row (i + 1) (plane_mul (drop (i + 1) p) q) place) j) (sym read))
          (c.loop-i.invariant.sum j);
      light = light_on p q i (i + 1) (row_size c.add_row.new.row.items) (row_size c.loop-i.row.items) (plane_size p * plane_size q) c.loop-i-test.true (omega arith) (rw size at c.add_row.ensures.light) c.loop-i.invariant.light;
    }

pub returns : goal.returns
returns c =
    λ j. c.trimmed.ensures j
    ∙ carry_all (entry c.loop-i.row.items j) (entry (moved_row c.loop-i.i (plane_mul (drop c.loop-i.i c.args.p.now) c.args.q.now) c.args.place) j) (coefficient (plane_mul c.args.p.now c.args.q.now) c.args.place j)
    (row_last c.args.p.now c.args.q.now c.loop-i.i c.args.place j c.loop-i-test.false) (c.loop-i.invariant.sum j)
