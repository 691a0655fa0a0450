use Rattle.std.proofs.Common.{◌∙◌, ap, length}
use Rattle.sg_poly.specs.Polynomials.{polynomial}
use Rattle.sg_rational.proofs.Answering.{vectors_space}
use Rattle.sg_rational.proofs.system.vectors.Goals as goal

pub returns-clause-value : goal.returns-clause-value
returns-clause-value g c =
    let v = g.F.Field.val in
    vectors_space v (polynomial v c.args.a.now) (polynomial v c.args.b.now) c.args.sides.now c.in_ok-list.list c.args.n c.longest-size.result c.in_ok-system.system.width c.in_ok-system.system.rows c.in_ok-basis.basis
    c.in_ok-list.ensures.value (c.in_ok-system.ensures.width ∙ ap length c.as_slice-2.ensures) (rw (c.as_slice.ensures) at c.longest-size.ensures) (rw (c.as_slice-2.ensures) at c.in_ok-system.ensures.value)
    c.in_ok-basis.ensures.sized c.in_ok-basis.ensures.sound c.in_ok-basis.ensures.form c.in_ok-basis.ensures.full c.in_ok-basis.ensures.complete
