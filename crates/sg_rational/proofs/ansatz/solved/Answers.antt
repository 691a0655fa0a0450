use Rattle.sg_poly.specs.Polynomials.{polynomial}
use Rattle.sg_rational.proofs.Answering.{all_long, basis_answered}
use Rattle.sg_rational.proofs.ansatz.solved.Goals as goal

pub solutions-requires-clause-within : goal.solutions-requires-clause-within
solutions-requires-clause-within g c = all_long g.F.Field.val (polynomial g.F.Field.val c.args.equation.now.a) (polynomial g.F.Field.val c.args.equation.now.b) c.args.sides.now c.in_ok-n.n c.in_ok-basis.basis c.in_ok-basis.ensures.value

pub returns-clause-value : goal.returns-clause-value
returns-clause-value g c =
    let v = g.F.Field.val in
    basis_answered v _ (polynomial v c.args.equation.now.a) (polynomial v c.args.equation.now.b) (polynomial v c.args.equation.now.lower) c.args.sides.now c.in_ok-n.n c.in_ok-basis.basis c.in_ok-list.list
    c.in_ok-n.ensures.value c.in_ok-basis.ensures.value c.in_ok-list.ensures.value
