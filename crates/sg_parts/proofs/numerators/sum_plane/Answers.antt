use Rattle.sg_spec.specs.Parts.{ratio_of, ratio_sum}
use Rattle.sg_expr.specs.Tree.{tree_of}
use Rattle.sg_parts.proofs.Fractions.{alone_fits_left, alone_fits_right, sum_over_light, sum_over_is, ratio_light}
use Rattle.sg_parts.proofs.numerators.sum_plane.Goals as goal

pub ratio_of-requires-clause-over : goal.ratio_of-requires-clause-over
ratio_of-requires-clause-over c = (alone_fits_left (ratio_of (tree_of c.args.a.now)) (ratio_of (tree_of c.args.b.now)) c.in_ok-weigh_sum.ensures.light).0

pub ratio_of-requires-clause-under : goal.ratio_of-requires-clause-under
ratio_of-requires-clause-under c = (alone_fits_left (ratio_of (tree_of c.args.a.now)) (ratio_of (tree_of c.args.b.now)) c.in_ok-weigh_sum.ensures.light).1

pub ratio_of-requires-2-clause-over : goal.ratio_of-requires-2-clause-over
ratio_of-requires-2-clause-over c = (alone_fits_right (ratio_of (tree_of c.args.a.now)) (ratio_of (tree_of c.args.b.now)) c.in_ok-weigh_sum.ensures.light).0

pub ratio_of-requires-2-clause-under : goal.ratio_of-requires-2-clause-under
ratio_of-requires-2-clause-under c = (alone_fits_right (ratio_of (tree_of c.args.a.now)) (ratio_of (tree_of c.args.b.now)) c.in_ok-weigh_sum.ensures.light).1

pub sum_over-requires : goal.sum_over-requires
sum_over-requires c =
    sum_over_light c.in_ok-x.x.over c.in_ok-x.x.under c.in_ok-y.y.over c.in_ok-y.y.under (ratio_of (tree_of c.args.a.now)) (ratio_of (tree_of c.args.b.now)) c.in_ok-x.ensures c.in_ok-y.ensures c.in_ok-weigh_sum.ensures.light

pub returns-clause-plane : goal.returns-clause-plane
returns-clause-plane c =
    sum_over_is c.in_ok-x.x.over c.in_ok-x.x.under c.in_ok-y.y.over c.in_ok-y.y.under (ratio_of (tree_of c.args.a.now)) (ratio_of (tree_of c.args.b.now)) c.in_ok-x.ensures c.in_ok-y.ensures c.in_ok-over.over c.in_ok-over.ensures

pub returns-clause-light : goal.returns-clause-light
returns-clause-light c =
    let a = ratio_of (tree_of c.args.a.now) in
    let b = ratio_of (tree_of c.args.b.now) in
    ratio_light c.in_ok-over.over (ratio_sum a b).over
    (sum_over_is c.in_ok-x.x.over c.in_ok-x.x.under c.in_ok-y.y.over c.in_ok-y.y.under a b c.in_ok-x.ensures c.in_ok-y.ensures c.in_ok-over.over c.in_ok-over.ensures)
    c.in_ok-weigh_sum.ensures.light
