use Rattle.std.proofs.Common.{◌∙◌, ap, List}
use Rattle.sg_poly.specs.Polynomials.{polynomial}
use Rattle.sg_rational.proofs.Columns.{negative_is}
use Rattle.sg_rational.proofs.system.negative.Goals as goal

pub returns-clause-value : goal.returns-clause-value
returns-clause-value g c =
    let v = g.F.Field.val in
    negative_is (polynomial v c.in_ok-zero.zero) (polynomial v c.args.p.now) (polynomial v c.in_ok-r.r) c.in_ok-r.ensures.value (c.in_ok-zero.ensures.value ∙ ap (λ (l : List g.row.F.Denot). polynomial v l) c.new.ensures)
