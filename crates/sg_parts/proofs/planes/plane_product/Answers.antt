use Rattle.std.proofs.Common.{rules, ◌+◌, ◌-◌, length, arith}
use Rattle.sg_spec.specs.Parts.{plane_mul}
use Rattle.sg_parts.specs.Planes.{coefficient}
use Rattle.sg_parts.proofs.Planar.{more_rows, height-pushed, all_rows, product_past}
use Rattle.sg_parts.proofs.planes.plane_product.Goals as goal

pub product_row-requires-clause-room : goal.product_row-requires-clause-room
product_row-requires-clause-room c = λ i j. omega (arith, c.width_of.ensures i, c.width_of-2.ensures j, c.in_ok-width.ensures)

pub loop-place-preserved : goal.loop-place-preserved
loop-place-preserved c =
    let value = coefficient (plane_mul c.args.p.now c.args.q.now) in
    record {
      size = height-pushed c.loop-place.rows c.push.new.self c.in_ok-row.row c.loop-place.place (c.loop-place.place + 1) c.loop-place.invariant.size c.in_ok-push.ensures.ok (omega arith);
      product = more_rows value c.loop-place.rows c.push.new.self c.in_ok-row.row c.loop-place.place (c.loop-place.place + 1) c.loop-place.invariant.size c.in_ok-push.ensures.ok (omega arith) c.loop-place.invariant.product c.in_ok-row.ensures;
    }

pub returns : goal.returns
returns c =
    all_rows (coefficient (plane_mul c.args.p.now c.args.q.now)) c.loop-place.rows c.loop-place.place (length c.args.p.now + length c.args.q.now - 1) c.loop-place.invariant.size
    (search rules) c.loop-place.invariant.product (product_past c.args.p.now c.args.q.now)
