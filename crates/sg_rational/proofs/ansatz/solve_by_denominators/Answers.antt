use Rattle.std.proofs.Common.{◌∙◌, ap, sym, map, length}
use Rattle.sg_algebra.proofs.Lists.{length_map}
use Rattle.sg_poly.specs.Polynomials.{polynomial}
use Rattle.sg_ratfun.specs.Fractions.{ratio}
use Rattle.sg_rational.proofs.Taking.{reduction_left}
use Rattle.sg_rational.proofs.Answering.{left_some, first_reduced}
use Rattle.sg_rational.proofs.ansatz.solve_by_denominators.Goals as goal

pub reduced-requires-clause-left : goal.reduced-requires-clause-left
reduced-requires-clause-left g c = left_some g.F.Field.val c.in_ok-v.v c.in_ok-left.left c.args.a.now c.in_ok-left.ensures.value c.in_ok-left.ensures.some c.in_ok-v.ensures.some c.requires

pub sides-requires : goal.sides-requires
sides-requires g c = rw (c.as_slice-2.ensures) (rw (c.as_slice.ensures) at c.in_ok-v.ensures.others)

pub solved-requires-clause-left : goal.solved-requires-clause-left
solved-requires-clause-left g c =
    let v = g.F.Field.val in
    reduction_left (polynomial v c.in_ok-left.left) (polynomial v c.in_ok-right.right) (polynomial v c.in_ok-equation.equation.a) (polynomial v c.in_ok-equation.equation.b) (polynomial v c.in_ok-equation.equation.lower) (polynomial v c.in_ok-equation.equation.factor)
    (left_some v c.in_ok-v.v c.in_ok-left.left c.args.a.now c.in_ok-left.ensures.value c.in_ok-left.ensures.some c.in_ok-v.ensures.some c.requires) c.in_ok-equation.ensures.value

pub returns-clause-basis : goal.returns-clause-basis
returns-clause-basis g c =
    let v = g.F.Field.val in
    (rw (c.as_slice-3.ensures) at c.in_ok-r.ensures.value) (ratio v c.args.a.now) (map (ratio v) c.args.fs.now)
    (c.in_ok-list.ensures.size ∙ ap length c.as_slice-2.ensures ∙ sym (length_map (ratio v) c.args.fs.now))
    (first_reduced v c.args.a.now c.args.fs.now c.in_ok-v.v c.in_ok-left.left c.in_ok-right.right c.in_ok-equation.equation.a c.in_ok-equation.equation.b c.in_ok-equation.equation.lower c.in_ok-equation.equation.factor c.in_ok-list.list
    c.in_ok-v.ensures.some c.in_ok-left.ensures.value c.in_ok-left.ensures.some c.in_ok-right.ensures.value c.in_ok-equation.ensures.value c.in_ok-equation.ensures.apart (rw (c.as_slice-2.ensures) at c.in_ok-list.ensures.value))
