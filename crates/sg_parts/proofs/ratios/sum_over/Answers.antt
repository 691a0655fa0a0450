use Rattle.sg_spec.specs.Parts.{plane_mul}
use Rattle.sg_parts.specs.Planes.{plane_size, SamePlane}
use Rattle.sg_parts.proofs.Planar.{sum_is}
use Rattle.sg_parts.proofs.Fractions.{sum_sizes, sum_made, left_light, right_light, named_product, named_sum}
use Rattle.sg_parts.proofs.ratios.sum_over.Goals as goal

pub plane_product-requires : goal.plane_product-requires
plane_product-requires c = record { light = rw (c.as_slice.ensures, c.as_slice-2.ensures) (left_light (plane_size c.args.x.now.over) (plane_size c.args.y.now.under) (plane_size c.args.y.now.over) (plane_size c.args.x.now.under) c.requires) }

pub plane_product-requires-2 : goal.plane_product-requires-2
plane_product-requires-2 c = record { light = rw (c.as_slice-3.ensures, c.as_slice-4.ensures) (right_light (plane_size c.args.x.now.over) (plane_size c.args.y.now.under) (plane_size c.args.y.now.over) (plane_size c.args.x.now.under) c.requires) }

pub plane_sum-requires : goal.plane_sum-requires
plane_sum-requires c =
    let left : SamePlane c.in_ok-left.left (plane_mul c.args.x.now.over c.args.y.now.under) =
    named_product c.in_ok-left.left c.as_slice.result.now c.as_slice-2.result.now c.args.x.now.over c.args.y.now.under c.as_slice.ensures c.as_slice-2.ensures c.in_ok-left.ensures in
    let right : SamePlane c.in_ok-right.right (plane_mul c.args.y.now.over c.args.x.now.under) =
    named_product c.in_ok-right.right c.as_slice-3.result.now c.as_slice-4.result.now c.args.y.now.over c.args.x.now.under c.as_slice-3.ensures c.as_slice-4.ensures c.in_ok-right.ensures in
    record {
      light = rw (c.as_slice-5.ensures, c.as_slice-6.ensures) (sum_sizes c.args.x.now.over c.args.y.now.under c.args.y.now.over c.args.x.now.under c.in_ok-left.left c.in_ok-right.right left right c.requires);
    }

pub returns : goal.returns
returns c =
    let left : SamePlane c.in_ok-left.left (plane_mul c.args.x.now.over c.args.y.now.under) =
    named_product c.in_ok-left.left c.as_slice.result.now c.as_slice-2.result.now c.args.x.now.over c.args.y.now.under c.as_slice.ensures c.as_slice-2.ensures c.in_ok-left.ensures in
    let right : SamePlane c.in_ok-right.right (plane_mul c.args.y.now.over c.args.x.now.under) =
    named_product c.in_ok-right.right c.as_slice-3.result.now c.as_slice-4.result.now c.args.y.now.over c.args.x.now.under c.as_slice-3.ensures c.as_slice-4.ensures c.in_ok-right.ensures in
    sum_made c.in_ok-over.over c.in_ok-left.left c.in_ok-right.right (plane_mul c.args.x.now.over c.args.y.now.under) (plane_mul c.args.y.now.over c.args.x.now.under)
    (named_sum c.in_ok-over.over c.as_slice-5.result.now c.as_slice-6.result.now c.in_ok-left.left c.in_ok-right.right c.as_slice-5.ensures c.as_slice-6.ensures (sum_is c.in_ok-over.over c.as_slice-5.result.now c.as_slice-6.result.now c.in_ok-over.ensures)) left right
